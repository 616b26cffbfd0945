-- Which formula rows are sound.
use Rattle.std.specs.Prelude.{ℕ, ◌+◌, Bool, true, ◌&&◌, List, [], ◌∷◌, ◌==◌, nat_lt, slice_index, slice_index_or}
use Rattle.sheets.specs.declared.holders.Holders.{Holders}
use Rattle.sheets.specs.declared.operator.Operator.{Operator}
use Rattle.sheets.specs.declared.operator.Operator.TheVariants.{Mark, Not, Or, Next, Globally, Until, Commitment, Fulfilment}
use Rattle.sheets.specs.declared.operator.Kind.{Kind}
use Rattle.sheets.specs.declared.operator.Kind.TheVariants as kind
use Rattle.sheets.specs.declared.parts.Header.{Header}
use Rattle.sheets.specs.declared.parts.Row.{Row}
use Rattle.sheets.specs.Holding.{share_some}
use Rattle.sheets.specs.Operators.{kinds_of}

abbrev pub nth : List Kind → ℕ → Kind
nth ks i = slice_index_or ks i kind.Absent

-- an operand of line number due that fits its kind
abbrev pub fits : Kind → Header → ℕ → ℕ → Bool
fits kind.Absent h due x = x == 0
fits kind.Mark h due x = nat_lt x h.marks
fits kind.Party h due x = nat_lt x h.parties
fits kind.Line h due x = nat_lt x due

-- the debtor and the creditor share a channel, where there are two parties
abbrev pub sharing : Holders → Operator → ℕ → ℕ → Bool
sharing who Mark i j = true
sharing who Not i j = true
sharing who Or i j = true
sharing who Next i j = true
sharing who Globally i j = true
sharing who Until i j = true
sharing who Commitment i j = share_some 8 who i j
sharing who Fulfilment i j = share_some 8 who i j

-- a row that may stand as line number due
abbrev pub sound_row : Header → Holders → ℕ → Row → Bool
sound_row h who due r =
    fits (nth (kinds_of r.operator) 0) h due (slice_index r.operands 0)
    && (fits (nth (kinds_of r.operator) 1) h due (slice_index r.operands 1)
    && (fits (nth (kinds_of r.operator) 2) h due (slice_index r.operands 2)
    && sharing who r.operator (slice_index r.operands 0) (slice_index r.operands 1)))

-- rows that may stand as the lines from number k on
abbrev pub sound_rows : Header → Holders → ℕ → List Row → Bool
sound_rows h who k [] = true
sound_rows h who k (r ∷ rs) = sound_row h who k r && sound_rows h who (k + 1) rs
