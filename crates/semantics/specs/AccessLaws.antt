-- Laws of access, commitment and fulfilment.
use Rattle.std.specs.Prelude.{◌≡◌, ℕ, true, false}
use Rattle.semantics.specs.Access.{access}
use Rattle.semantics.specs.Formulas.{Formula, neg, or, EU, committed, fulfilled, Holds}
use Rattle.semantics.specs.Sheets.{Sheet}

-- access is transitive
abbrev pub AccessTransitive : Type 0
AccessTransitive = (h : Sheet) (i j s t u : ℕ) → access h i j s t ≡ true → access h i j t u ≡ true → access h i j s u ≡ true

-- access is Euclidean
abbrev pub AccessEuclidean : Type 0
AccessEuclidean = (h : Sheet) (i j s t u : ℕ) → access h i j s t ≡ true → access h i j s u ≡ true → access h i j t u ≡ true

-- what is accessible from some state is accessible from itself
abbrev pub AccessShiftReflexive : Type 0
AccessShiftReflexive = (h : Sheet) (i j s t : ℕ) → access h i j s t ≡ true → access h i j t t ≡ true

-- a commitment holds where nothing is accessible
abbrev pub CommitmentWithoutAccess : Type 0
CommitmentWithoutAccess = (h : Sheet) (i j : ℕ) (f : Formula) (s : ℕ) → ((t : ℕ) → access h i j s t ≡ false) → Holds h (committed i j f) s

-- where a fulfilment holds, its commitment holds
abbrev pub FulfilmentCommits : Type 0
FulfilmentCommits = (h : Sheet) (i j : ℕ) (f : Formula) (s : ℕ) → Holds h (fulfilled i j f) s → Holds h (committed i j f) s

-- both f and g
abbrev pub and : Formula → Formula → Formula
and f g = neg (or (neg f) (neg g))

-- f at every place of every endless path
abbrev pub AG : Formula → Formula
AG f = neg (EU (or f (neg f)) (neg f))

-- on no path is there a fulfilment before which, and at which, the commitment fails
abbrev pub FulfilmentOnlyOfCommitments : Type 0
FulfilmentOnlyOfCommitments = (h : Sheet) (i j : ℕ) (f : Formula) (s : ℕ) →
    Holds h (AG (neg (EU (neg (committed i j f)) (and (neg (committed i j f)) (fulfilled i j f))))) s
