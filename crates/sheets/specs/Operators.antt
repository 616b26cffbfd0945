-- The letters of formula lines.
use Rattle.std.specs.Prelude.{ℕ, cond, List, [], ◌∷◌, Some, None, Option, ◌==◌}
use Rattle.sheets.specs.declared.operator.Operator.{Operator}
use Rattle.sheets.specs.declared.operator.Operator.TheVariants.{Mark, Not, Or, Next, Globally, Until, Commitment, Fulfilment}
use Rattle.sheets.specs.declared.operator.Kind.{Kind}
use Rattle.sheets.specs.declared.operator.Kind.TheVariants as kind

abbrev pub letter_of : Operator → ℕ
letter_of Mark = 77
letter_of Not = 78
letter_of Or = 79
letter_of Next = 88
letter_of Globally = 71
letter_of Until = 85
letter_of Commitment = 67
letter_of Fulfilment = 75

-- what the three operands are numbers of
abbrev pub kinds_of : Operator → List Kind
kinds_of Mark = kind.Mark ∷ kind.Absent ∷ kind.Absent ∷ []
kinds_of Not = kind.Line ∷ kind.Absent ∷ kind.Absent ∷ []
kinds_of Or = kind.Line ∷ kind.Line ∷ kind.Absent ∷ []
kinds_of Next = kind.Line ∷ kind.Absent ∷ kind.Absent ∷ []
kinds_of Globally = kind.Line ∷ kind.Absent ∷ kind.Absent ∷ []
kinds_of Until = kind.Line ∷ kind.Line ∷ kind.Absent ∷ []
kinds_of Commitment = kind.Party ∷ kind.Party ∷ kind.Line ∷ []
kinds_of Fulfilment = kind.Party ∷ kind.Party ∷ kind.Line ∷ []

-- the first of the operators whose letter is c, with the number of fields of its lines
abbrev pub among : ℕ → List (Operator × ℕ) → Option (Operator × ℕ)
among c [] = None
among c (o ∷ os) = cond (c == letter_of o.0) (Some o) (among c os)

abbrev pub operator_of : ℕ → Option (Operator × ℕ)
operator_of c =
    among c ((Mark, 4) ∷ (Not, 4) ∷ (Or, 5) ∷ (Next, 4) ∷ (Globally, 4) ∷ (Until, 5) ∷ (Commitment, 6) ∷ (Fulfilment, 6) ∷ [])

abbrev pub operator_field : List ℕ → Option (Operator × ℕ)
operator_field [] = None
operator_field (c ∷ []) = operator_of c
operator_field (c ∷ d ∷ cs) = None
