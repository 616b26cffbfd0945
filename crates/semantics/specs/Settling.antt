-- Both chains settle.
use Rattle.std.specs.Prelude.{ℕ, suc, ◌<◌, ◌≤◌, Bool}
use Rattle.semantics.specs.Sets.{Same}
use Rattle.semantics.specs.Chains.{until_chain, globally_chain, rounds, settled}

-- m is Z(r), and r is the least number of rounds after which the chain stays the same
pub record Settles (n : ℕ) (chain : ℕ → ℕ → Bool) (m : ℕ → Bool) (r : ℕ) : Type 0 where
  pub reached : Same m (chain r)
  pub settled : Same (chain (suc r)) (chain r)
  pub least : (j : ℕ) → j < r → Same (chain (suc j)) (chain j) → ⊥
  pub bound : r ≤ n

-- the chain of until settles within n rounds, and its rounds are the least
abbrev pub UntilSettles : Type 0
UntilSettles = (n : ℕ) (steps : ℕ → ℕ → Bool) (f h : ℕ → Bool) →
    Settles n (until_chain n steps f h) (settled n (until_chain n steps f h)) (rounds n (until_chain n steps f h))

-- the chain of globally settles within n rounds, and its rounds are the least
abbrev pub GloballySettles : Type 0
GloballySettles = (n : ℕ) (steps : ℕ → ℕ → Bool) (f : ℕ → Bool) →
    Settles n (globally_chain n steps f) (settled n (globally_chain n steps f)) (rounds n (globally_chain n steps f))
