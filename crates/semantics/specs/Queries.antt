-- Queries, and where their B lines are true: ARCTL.
use Rattle.std.specs.Prelude.{◌≡◌, ℕ, Bool, true, ◌⊎◌, List, [], get_or, slice_index_or}
use Rattle.semantics.specs.Actions.{Action, ActionLine, never, action_formulas, Admitted}
use Rattle.semantics.specs.Paths.{SomeStep, EveryStep, Globally, FiniteUntil}
use Rattle.semantics.specs.Sheets.{Sheet, marked}
use Rattle.semantics.specs.Turns.{in_turn}

-- a B line: an operator with its mark, or with the number of its A line, if it has one, and its operands, which are lower B lines
pub data QueryLine : Type 0 where
  atom neg : ℕ → QueryLine
  or : ℕ → ℕ → QueryLine
  EX AX EG : ℕ → ℕ → QueryLine
  EU : ℕ → ℕ → ℕ → QueryLine

-- A lines, then B lines
pub record Query : Type 0 where
  pub actions : List ActionLine
  pub lines : List QueryLine

-- a step under A line a
abbrev pub StepUnder : Sheet → List (Action → Bool) → ℕ → ℕ → ℕ → Type 0
StepUnder h ps a = Admitted h (slice_index_or ps a never)

-- nowhere, for an operand that names no B line
abbrev pub Nowhere : ℕ → Type 0
Nowhere s = ⊥

-- where a B line is true, from where the B lines before it are
abbrev pub meaning_of : Sheet → List (Action → Bool) → List (ℕ → Type 0) → QueryLine → ℕ → Type 0
meaning_of h ps ms (atom m) s = marked h m s ≡ true
meaning_of h ps ms (neg b) s = get_or ms b Nowhere s → ⊥
meaning_of h ps ms (or b c) s = get_or ms b Nowhere s ⊎ get_or ms c Nowhere s
meaning_of h ps ms (EX a b) s = SomeStep h.states (StepUnder h ps a) (slice_index_or ms b Nowhere) s
meaning_of h ps ms (AX a b) s = EveryStep h.states (StepUnder h ps a) (slice_index_or ms b Nowhere) s
meaning_of h ps ms (EG a b) s = Globally h.states (StepUnder h ps a) (slice_index_or ms b Nowhere) s
meaning_of h ps ms (EU a b c) s = FiniteUntil h.states (StepUnder h ps a) (slice_index_or ms b Nowhere) (slice_index_or ms c Nowhere) s

-- where each B line is true
unfoldable pub meanings : Sheet → Query → List (ℕ → Type 0)
meanings h q = in_turn (meaning_of h (action_formulas q.actions)) [] q.lines

-- B line b of the query is true at s
abbrev pub TrueAt : Sheet → Query → ℕ → ℕ → Type 0
TrueAt h q b = slice_index_or (meanings h q) b Nowhere
