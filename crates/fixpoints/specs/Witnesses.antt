-- What the searches for witness paths leave in the path buffer.
use Rattle.std.specs.Prelude.{◌≡◌, ℕ, ◌≤◌, Bool, true, false, List, length, take, drop, Some, None, Option}
use Rattle.semantics.specs.Chains.{until_chain, globally_chain, settled}
use Rattle.semantics.specs.Walks.{ReachingBy, LoopingBy}
use Rattle.fixpoints.specs.declared.lasso.Lasso.{Lasso}

-- the states of a set
abbrev pub In : (ℕ → Bool) → ℕ → Type 0
In m s = m s ≡ true

-- the first k bytes of a buffer are written, and the later ones are as before
abbrev pub Front : ℕ → List ℕ → List ℕ → Type 0
Front k old new = (k ≤ length old) × (drop k new ≡ drop k old)

-- a path through f to h from s, where the set of until has s, and otherwise none
abbrev pub PathTo : ℕ → (ℕ → ℕ → Bool) → (ℕ → Bool) → (ℕ → Bool) → ℕ → List ℕ → List ℕ → Option ℕ → Type 0
PathTo n steps f h s old new None = (settled n (until_chain n steps f h) s ≡ false) × (new ≡ old)
PathTo n steps f h s old new (Some k) =
    (settled n (until_chain n steps f h) s ≡ true) × (Front k old new) × (ReachingBy n steps (In f) (In h) s (record { path = take k new; place = None }))

-- a path inside f from s that comes back to one of its states, where the set of globally has s, and otherwise none
abbrev pub PathBack : ℕ → (ℕ → ℕ → Bool) → (ℕ → Bool) → ℕ → List ℕ → List ℕ → Option Lasso → Type 0
PathBack n steps f s old new None = (settled n (globally_chain n steps f) s ≡ false) × (new ≡ old)
PathBack n steps f s old new (Some l) =
    (settled n (globally_chain n steps f) s ≡ true) × (Front l.length old new) × (LoopingBy n steps (In f) s (record { path = take l.length new; place = Some l.place }))
