-- Paths through the states below n, along the steps of a relation.
use Rattle.std.specs.Prelude.{◌≡◌, ℕ, suc, ◌<◌, ◌≤◌, Bool, true}

-- the relation of a step rule
abbrev pub Leads : (ℕ → ℕ → Bool) → ℕ → ℕ → Type 0
Leads steps s t = steps s t ≡ true

-- π is an endless path from s
pub record Endless (n : ℕ) (Step : ℕ → ℕ → Type 0) (s : ℕ) (π : ℕ → ℕ) : Type 0 where
  pub starts : π 0 ≡ s
  pub inside : (k : ℕ) → π k < n
  pub follows : (k : ℕ) → Step (π k) (π (suc k))

-- the places of π up to k are a finite path from s
pub record Finite (n : ℕ) (Step : ℕ → ℕ → Type 0) (s : ℕ) (π : ℕ → ℕ) (k : ℕ) : Type 0 where
  pub starts : π 0 ≡ s
  pub inside : (i : ℕ) → i ≤ k → π i < n
  pub follows : (i : ℕ) → i < k → Step (π i) (π (suc i))

-- Q at place k, and P at every place before
abbrev pub UpTo : (ℕ → Type 0) → (ℕ → Type 0) → (ℕ → ℕ) → ℕ → Type 0
UpTo P Q π k = Q (π k) × ((i : ℕ) → i < k → P (π i))

-- some step leads from s to a state with P
abbrev pub SomeStep : ℕ → (ℕ → ℕ → Type 0) → (ℕ → Type 0) → ℕ → Type 0
SomeStep n Step P s = (t : ℕ) × (t < n) × (Step s t) × (P t)

-- every step from s leads to a state with P
abbrev pub EveryStep : ℕ → (ℕ → ℕ → Type 0) → (ℕ → Type 0) → ℕ → Type 0
EveryStep n Step P s = (t : ℕ) → t < n → Step s t → P t

-- some endless path from s has P at place 1
abbrev pub Next : ℕ → (ℕ → ℕ → Type 0) → (ℕ → Type 0) → ℕ → Type 0
Next n Step P s = (π : ℕ → ℕ) × (Endless n Step s π) × (P (π 1))

-- some endless path from s has P at every place
abbrev pub Globally : ℕ → (ℕ → ℕ → Type 0) → (ℕ → Type 0) → ℕ → Type 0
Globally n Step P s = (π : ℕ → ℕ) × (Endless n Step s π) × ((k : ℕ) → P (π k))

-- some endless path from s has Q at some place, and P at every place before
abbrev pub Until : ℕ → (ℕ → ℕ → Type 0) → (ℕ → Type 0) → (ℕ → Type 0) → ℕ → Type 0
Until n Step P Q s = (π : ℕ → ℕ) × (Endless n Step s π) × (k : ℕ) × (UpTo P Q π k)

-- some finite path from s has Q at its last place, and P at every place before
abbrev pub FiniteUntil : ℕ → (ℕ → ℕ → Type 0) → (ℕ → Type 0) → (ℕ → Type 0) → ℕ → Type 0
FiniteUntil n Step P Q s = (π : ℕ → ℕ) × (k : ℕ) × (Finite n Step s π k) × (UpTo P Q π k)
