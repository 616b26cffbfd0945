-- The fields of a line, taken in the order of checks, and lines with an operator letter.
use Rattle.std.specs.Prelude.{ℕ, ◌+◌, ◌-◌, Bool, true, false, cond, ◌&&◌, List, [], ◌∷◌, map, length, drop, Some, None, Ok, Option, Result, ◌==◌, nat_le, nat_lt, slice_index, slice_index_or}
use Rattle.semantics.specs.Faults.{Fault, refused_at, and_then}
use Rattle.semantics.specs.Numbers.{number_of}
use Rattle.semantics.specs.Sheets.{Sheet}

-- the text has a last byte, and it ends a line
abbrev pub finished : List ℕ → Bool
finished t = nat_lt 0 (length t) && slice_index t (length t - 1) == 10

-- what a number of a line names
pub data Kind : Type 0 where
  a_party a_mark an_action an_operand : Kind

-- an operator letter, what its numbers name, and the line that it makes of them
pub record Letter (X : Type 0) : Type 0 where
  pub byte : ℕ
  pub kinds : List Kind
  pub makes : List ℕ → X

-- an entry of a table of letters
abbrev pub letter : {X : Type 0} → ℕ → List Kind → (List ℕ → X) → Letter X
letter b ks f = record { byte = b; kinds = ks; makes = f }

-- number i of a line's numbers
abbrev pub at : List ℕ → ℕ → ℕ
at xs i = slice_index xs i

-- a field is the byte b alone
abbrev pub is_byte : ℕ → List ℕ → Bool
is_byte b [] = false
is_byte b (c ∷ []) = c == b
is_byte b (c ∷ d ∷ cs) = false

-- the letter that a field is
abbrev pub letter_in : {X : Type 0} → List (Letter X) → List ℕ → Option (Letter X)
letter_in [] bs = None
letter_in (l ∷ ls) bs = cond (is_byte l.byte bs) (Some l) (letter_in ls bs)

-- field f of line n is a number: 3
abbrev pub number_at : ℕ → ℕ → Option ℕ → Result ℕ Fault
number_at n f None = refused_at 3 n f
number_at n f (Some x) = Ok x

-- what a number names is within the sheet
abbrev pub in_range : Sheet → Kind → ℕ → Bool
in_range h a_party x = nat_lt x h.parties
in_range h a_mark x = nat_lt x h.marks
in_range h an_action x = true
in_range h an_operand x = true

-- the numbers from field f on, each with a test of its range: 3, then 10, at each field from the left
unfoldable pub numbers_in : ℕ → ℕ → List (ℕ → Bool) → List (List ℕ) → Result (List ℕ) Fault
numbers_in n f [] fs = Ok []
numbers_in n f (r ∷ rs) fs =
    and_then (number_at n f (number_of (slice_index_or fs 0 []))) (λ x.
    cond (r x) (and_then (numbers_in n (f + 1) rs (drop 1 fs)) (λ xs. Ok (x ∷ xs))) (refused_at 10 n f))

-- the same, where each number names what its kind says
abbrev pub numbers_at : Sheet → ℕ → ℕ → List Kind → List (List ℕ) → Result (List ℕ) Fault
numbers_at h n f ks fs = numbers_in n f (map (in_range h) ks) fs

-- a number names an earlier line: an action below the number of A lines, an operand below the line's own number
abbrev pub is_earlier : ℕ → ℕ → Kind → ℕ → Bool
is_earlier acts due a_party x = true
is_earlier acts due a_mark x = true
is_earlier acts due an_action x = nat_lt x acts
is_earlier acts due an_operand x = nat_lt x due

-- the numbers from field f on name earlier lines: 17
unfoldable pub earlier_at : ℕ → ℕ → ℕ → ℕ → List Kind → List ℕ → Result Unit Fault
earlier_at acts due n f [] xs = Ok tt
earlier_at acts due n f (k ∷ ks) xs = cond (is_earlier acts due k (slice_index xs 0)) (earlier_at acts due n (f + 1) ks (drop 1 xs)) (refused_at 17 n f)

-- the fields of a line whose letter is known: its number and the letter's, 11, 17
abbrev pub numbered_line : {X : Type 0} → Sheet → ℕ → ℕ → ℕ → List (List ℕ) → Letter X → Result X Fault
numbered_line h acts due n fs l =
    and_then (number_at n 2 (number_of (slice_index_or fs 1 []))) (λ k.
    and_then (numbers_at h n 4 l.kinds (drop 3 fs)) (λ xs.
    cond (k == due) (and_then (earlier_at acts due n 4 l.kinds xs) (λ _. Ok (l.makes xs))) (refused_at 11 n 2)))

-- the count of fields that a letter asks for: 5
abbrev pub counted_line : {X : Type 0} → Sheet → ℕ → ℕ → ℕ → List (List ℕ) → Option (Letter X) → Result X Fault
counted_line h acts due n fs None = refused_at 3 n 3
counted_line h acts due n fs (Some l) = cond (length fs == 3 + length l.kinds) (numbered_line h acts due n fs l) (refused_at 5 n 0)

-- line n of the text, number due of its kind, of which there may be so many: 16, 5, letter, count, fields
abbrev pub lettered_line : {X : Type 0} → List (Letter X) → ℕ → Sheet → ℕ → ℕ → ℕ → List (List ℕ) → Result X Fault
lettered_line table most h acts due n fs =
    cond (nat_le most due) (refused_at 16 n 0)
    (cond (nat_lt (length fs) 3) (refused_at 5 n 0) (counted_line h acts due n fs (letter_in table (slice_index_or fs 2 []))))
