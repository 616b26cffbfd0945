-- What the fields of a formula line say.
use Rattle.std.specs.Prelude.{◌≡◌, ℕ, ◌<◌, cond, List, [], ◌∷◌, Some, None, Ok, Err, Option, Result, ◌==◌, nat_lt, slice_index}
use Rattle.texts.specs.declared.refusal.Fault.{Fault}
use Rattle.texts.specs.declared.refusal.Refusal.TheVariants.{NotANumber, FieldCount, OutOfOrder, NotEarlier, NoSharedChannel}
use Rattle.texts.specs.Cuts.{before, after}
use Rattle.texts.specs.Fields.{fault_at, field_of}
use Rattle.texts.specs.Lines.{at}
use Rattle.sheets.specs.declared.holders.Holders.{Holders}
use Rattle.sheets.specs.declared.operator.Operator.{Operator}
use Rattle.sheets.specs.declared.operator.Kind.{Kind}
use Rattle.sheets.specs.declared.operator.Kind.TheVariants as kind
use Rattle.sheets.specs.declared.parts.Header.{Header}
use Rattle.sheets.specs.declared.parts.Row.{Row}
use Rattle.sheets.specs.Operators.{operator_field, kinds_of}
use Rattle.sheets.specs.Rows.{nth, sharing}
use Rattle.reader.specs.Readers.{and_then, counted}

-- field f of line n, where the operand is of kind k; a line number has no range of its own
abbrev pub operand_of : ℕ → ℕ → Kind → Header → List ℕ → Result ℕ Fault
operand_of n f kind.Absent h bs = Ok 0
operand_of n f kind.Mark h bs = field_of 0 h.marks (at n f) (before 44 bs)
operand_of n f kind.Party h bs = field_of 0 h.parties (at n f) (before 44 bs)
operand_of n f kind.Line h bs = field_of 0 100000 (at n f) (before 44 bs)

abbrev pub behind : Kind → List ℕ → List ℕ
behind kind.Absent bs = bs
behind kind.Mark bs = after 44 bs
behind kind.Party bs = after 44 bs
behind kind.Line bs = after 44 bs

-- the three operands
abbrev pub operands_of : ℕ → List Kind → Header → List ℕ → Result (List ℕ) Fault
operands_of n ks h bs =
    and_then (operand_of n 4 (nth ks 0) h bs) (λ a.
    and_then (operand_of n 5 (nth ks 1) h (behind (nth ks 0) bs)) (λ b.
    and_then (operand_of n 6 (nth ks 2) h (behind (nth ks 1) (behind (nth ks 0) bs))) (λ c.
    Ok (a ∷ b ∷ c ∷ []))))

-- the operand x of line number due is an earlier line, if it is a line
abbrev pub earlier_of : ℕ → ℕ → Kind → ℕ → ℕ → Result ℕ Fault
earlier_of n f kind.Absent due x = Ok x
earlier_of n f kind.Mark due x = Ok x
earlier_of n f kind.Party due x = Ok x
earlier_of n f kind.Line due x = cond (nat_lt x due) (Ok x) (Err (fault_at NotEarlier (at n f)))

-- a number of its kind, before it is known to be an earlier line
abbrev pub Within : Kind → Header → ℕ → Type 0
Within kind.Absent h x = x ≡ 0
Within kind.Mark h x = x < h.marks
Within kind.Party h x = x < h.parties
Within kind.Line h x = Unit {0}

abbrev pub AllWithin : List Kind → Header → List ℕ → Type 0
AllWithin ks h xs = Within (nth ks 0) h (slice_index xs 0) × Within (nth ks 1) h (slice_index xs 1) × Within (nth ks 2) h (slice_index xs 2)

-- the checks that come after the fields: due number, earlier lines, shared channel
abbrev pub checked_row : ℕ → Holders → ℕ → Operator → List ℕ → Result Row Fault
checked_row n who due o xs =
    and_then (earlier_of n 4 (nth (kinds_of o) 0) due (slice_index xs 0)) (λ a.
    and_then (earlier_of n 5 (nth (kinds_of o) 1) due (slice_index xs 1)) (λ b.
    and_then (earlier_of n 6 (nth (kinds_of o) 2) due (slice_index xs 2)) (λ c.
    cond (sharing who o a b) (Ok (record { operator = o; operands = a ∷ b ∷ c ∷ [] })) (Err (fault_at NoSharedChannel (at n 5))))))

-- the fields of a line of a known operator: its number, and bs from the first operand on
abbrev pub fields_of : ℕ → List ℕ → List ℕ → Operator → Header → Holders → ℕ → Result Row Fault
fields_of n number bs o h who due =
    and_then (field_of 0 100000 (at n 2) number) (λ m.
    and_then (operands_of n (kinds_of o) h bs) (λ xs.
    cond (m == due) (checked_row n who due o xs) (Err (fault_at OutOfOrder (at n 2)))))

-- the letter comes before the number of fields, and that before the fields
abbrev pub lettered : ℕ → ℕ → List ℕ → Option (Operator × ℕ) → Header → Holders → ℕ → Result Row Fault
lettered n c bs None h who due = Err (fault_at NotANumber (at n 3))
lettered n c bs (Some o) h who due = counted n c o.1 (fields_of n (before 44 bs) (after 44 (after 44 bs)) o.0 h who due)

-- a line is taken as far as its letter first; bs begins with its number
abbrev pub row_of : ℕ → ℕ → List ℕ → Header → Holders → ℕ → Result Row Fault
row_of n c bs h who due =
    cond (nat_lt c 3) (Err (fault_at FieldCount (at n 0))) (lettered n c bs (operator_field (before 44 (after 44 bs))) h who due)
