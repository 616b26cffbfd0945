-- CTLC+: formulas, and where they hold.
use Rattle.std.specs.Prelude.{◌≡◌, ℕ, true, ◌⊎◌, List, [], slice_index_or}
use Rattle.semantics.specs.Access.{commitment_access, fulfilment_access}
use Rattle.semantics.specs.Paths.{Leads, SomeStep, EveryStep, Next, Globally, Until}
use Rattle.semantics.specs.Sets.{reversed}
use Rattle.semantics.specs.Sheets.{Sheet, Line, mark, negation, disjunction, next, globally, until, commitment, fulfilment, marked}
use Rattle.semantics.specs.Turns.{in_turn}

-- marks, not, or, the existential path operators, commitment and fulfilment of a debtor to a creditor
pub data Formula : Type 0 where
  atom : ℕ → Formula
  neg : Formula → Formula
  or : Formula → Formula → Formula
  EX EG : Formula → Formula
  EU : Formula → Formula → Formula
  committed fulfilled : ℕ → ℕ → Formula → Formula

-- P holds at every state accessible for i and j from s
abbrev pub Committed : Sheet → ℕ → ℕ → (ℕ → Type 0) → ℕ → Type 0
Committed h i j P = EveryStep h.states (Leads (commitment_access h i j)) P

-- s is accessible from some state with that commitment
abbrev pub Fulfilled : Sheet → ℕ → ℕ → (ℕ → Type 0) → ℕ → Type 0
Fulfilled h i j P = SomeStep h.states (Leads (reversed (fulfilment_access h i j))) (Committed h i j P)

-- a formula holds at a state of a sheet, along the endless paths of its moves
unfoldable pub Holds : Sheet → Formula → ℕ → Type 0
Holds h (atom m) s = marked h m s ≡ true
Holds h (neg f) s = Holds h f s → ⊥
Holds h (or f g) s = Holds h f s ⊎ Holds h g s
Holds h (EX f) s = Next h.states (Leads h.moves) (Holds h f) s
Holds h (EG f) s = Globally h.states (Leads h.moves) (Holds h f) s
Holds h (EU f g) s = Until h.states (Leads h.moves) (Holds h f) (Holds h g) s
Holds h (committed i j f) s = Committed h i j (Holds h f) s
Holds h (fulfilled i j f) s = Fulfilled h i j (Holds h f) s

-- a formula that holds nowhere, for an operand that names no line
abbrev pub falsity : Formula
falsity = neg (or (atom 0) (neg (atom 0)))

-- the formula of a line, from the formulas of the lines before it
abbrev pub tree_of : List Formula → Line → Formula
tree_of fs (mark m) = atom m
tree_of fs (negation a) = neg (slice_index_or fs a falsity)
tree_of fs (disjunction a b) = or (slice_index_or fs a falsity) (slice_index_or fs b falsity)
tree_of fs (next a) = EX (slice_index_or fs a falsity)
tree_of fs (globally a) = EG (slice_index_or fs a falsity)
tree_of fs (until a b) = EU (slice_index_or fs a falsity) (slice_index_or fs b falsity)
tree_of fs (commitment i j a) = committed i j (slice_index_or fs a falsity)
tree_of fs (fulfilment i j a) = fulfilled i j (slice_index_or fs a falsity)

-- the formula of each line
unfoldable pub trees : List Line → List Formula
trees ls = in_turn tree_of [] ls

-- the formula of line f
abbrev pub tree_at : Sheet → ℕ → Formula
tree_at h f = slice_index_or (trees h.lines) f falsity
