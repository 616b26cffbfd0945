-- What shows that a formula holds at a state, or that a commitment does not.
use Rattle.std.specs.Prelude.{◌≡◌, ℕ, ◌<◌, true, List, ◌↔◌}
use Rattle.semantics.specs.Access.{commitment_access, fulfilment_access}
use Rattle.semantics.specs.Formulas.{Formula, atom, neg, or, EX, EG, EU, committed, fulfilled, Holds, Committed}
use Rattle.semantics.specs.Sheets.{Sheet}
use Rattle.semantics.specs.Validity.{Valid}
use Rattle.semantics.specs.Walks.{Shown, alone, WalkBy, ReachingBy, LoopingBy}

-- t is the lowest state below n with P
abbrev pub Lowest : ℕ → (ℕ → Type 0) → ℕ → Type 0
Lowest n P t = (t < n) × (P t) × ((u : ℕ) → u < t → P u → ⊥)

-- a path of moves that begins with s, on which no state occurs twice
abbrev pub Walk : Sheet → ℕ → List ℕ → Type 0
Walk h = WalkBy h.states h.moves

-- P at every state of the path but the last, and Q at the last
abbrev pub Reaching : Sheet → (ℕ → Type 0) → (ℕ → Type 0) → ℕ → Shown → Type 0
Reaching h = ReachingBy h.states h.moves

-- P at every state of the path, whose last state has a move to the state at the place
abbrev pub Looping : Sheet → (ℕ → Type 0) → ℕ → Shown → Type 0
Looping h = LoopingBy h.states h.moves

-- e is evidence on the formula at s
unfoldable pub Evidence : Sheet → Formula → ℕ → Shown → Type 0
Evidence h (atom m) s e = ⊥
Evidence h (neg f) s e = ⊥
Evidence h (or f g) s e = ⊥
Evidence h (EX f) s e = (t : ℕ) × (e ≡ alone t) × (Lowest h.states (λ u. (h.moves s u ≡ true) × (Holds h f u)) t)
Evidence h (EG f) s e = Looping h (Holds h f) s e
Evidence h (EU f g) s e = Reaching h (Holds h f) (Holds h g) s e
Evidence h (committed i j f) s e =
    (t : ℕ) × (e ≡ alone t) × (Lowest h.states (λ u. (commitment_access h i j s u ≡ true) × (Holds h f u → ⊥)) t)
Evidence h (fulfilled i j f) s e =
    (t : ℕ) × (e ≡ alone t) × (Lowest h.states (λ u. (fulfilment_access h i j u s ≡ true) × (Committed h i j (Holds h f) u)) t)

-- evidence is due on next, globally, until and a fulfilment where they hold, and on a commitment where it does not
unfoldable pub Due : Sheet → Formula → ℕ → Type 0
Due h (atom m) s = ⊥
Due h (neg f) s = ⊥
Due h (or f g) s = ⊥
Due h (EX f) s = Holds h (EX f) s
Due h (EG f) s = Holds h (EG f) s
Due h (EU f g) s = Holds h (EU f g) s
Due h (committed i j f) s = Holds h (committed i j f) s → ⊥
Due h (fulfilled i j f) s = Holds h (fulfilled i j f) s

-- evidence exists exactly where it is due
abbrev pub EvidenceWhereDue : Type 0
EvidenceWhereDue = (h : Sheet) → Valid h → (f : Formula) (s : ℕ) → s < h.states → ((e : Shown) × (Evidence h f s e)) ↔ Due h f s
