-- Actions of a sheet, action formulas, and the steps that they admit.
use Rattle.std.specs.Prelude.{◌≡◌, ℕ, Bool, true, false, not, ◌&&◌, ◌||◌, List, [], ◌==◌, nat_lt, slice_index_or}
use Rattle.semantics.specs.Access.{commitment_access, fulfilment_access}
use Rattle.semantics.specs.Sets.{any, reversed}
use Rattle.semantics.specs.Sheets.{Sheet}
use Rattle.semantics.specs.Turns.{in_turn}

-- a move, access for a debtor and a creditor, and access reversed
pub data Action : Type 0 where
  R : Action
  D V : ℕ → ℕ → Action

-- an A line: true of one action alone, where A line a is not true, or where one of two A lines is
pub data ActionLine : Type 0 where
  only : Action → ActionLine
  except : ℕ → ActionLine
  either : ℕ → ℕ → ActionLine

-- x is one of the actions of the sheet
abbrev pub is_action : Sheet → Action → Bool
is_action h R = true
is_action h (D i j) = nat_lt i h.parties && nat_lt j h.parties
is_action h (V i j) = nat_lt i h.parties && nat_lt j h.parties

-- the steps of an action
abbrev pub steps_by : Sheet → Action → ℕ → ℕ → Bool
steps_by h R = h.moves
steps_by h (D i j) = commitment_access h i j
steps_by h (V i j) = reversed (fulfilment_access h i j)

-- two actions are the same
abbrev pub same_action : Action → Action → Bool
same_action R R = true
same_action R (D i j) = false
same_action R (V i j) = false
same_action (D a b) R = false
same_action (D a b) (D i j) = a == i && b == j
same_action (D a b) (V i j) = false
same_action (V a b) R = false
same_action (V a b) (D i j) = false
same_action (V a b) (V i j) = a == i && b == j

-- true of no action, for a number that names no A line
abbrev pub never : Action → Bool
never x = false

-- what an A line is true of, from what the A lines before it are true of
abbrev pub actions_of : List (Action → Bool) → ActionLine → Action → Bool
actions_of ps (only y) x = same_action y x
actions_of ps (except a) x = not (slice_index_or ps a never x)
actions_of ps (either a b) x = slice_index_or ps a never x || slice_index_or ps b never x

-- what each A line is true of
unfoldable pub action_formulas : List ActionLine → List (Action → Bool)
action_formulas ls = in_turn actions_of [] ls

-- a step from s to t under an action that makes p true
abbrev pub Admitted : Sheet → (Action → Bool) → ℕ → ℕ → Type 0
Admitted h p s t = (x : Action) × (is_action h x ≡ true) × (p x ≡ true) × (steps_by h x s t ≡ true)

-- the same, as computed
unfoldable pub admitted : Sheet → (Action → Bool) → ℕ → ℕ → Bool
admitted h p s t =
    (p R && steps_by h R s t)
    || any h.parties (λ i. any h.parties (λ j. (p (D i j) && steps_by h (D i j) s t) || (p (V i j) && steps_by h (V i j) s t)))
