-- The chains of sets of `until` and `globally`, Z(0), Z(1), and so on, and where they settle.
use Rattle.std.specs.Prelude.{ℕ, zero, suc, Bool, ◌&&◌, ◌||◌}
use Rattle.semantics.specs.Sets.{below, into, least, same}

-- start after i rounds of step
abbrev pub iterate : ((ℕ → Bool) → ℕ → Bool) → (ℕ → Bool) → ℕ → ℕ → Bool
iterate step start zero = start
iterate step start (suc i) = step (iterate step start i)

-- z with the states of f below n that have a step into z
abbrev pub until_step : ℕ → (ℕ → ℕ → Bool) → (ℕ → Bool) → (ℕ → Bool) → ℕ → Bool
until_step n steps f z k = z k || below n (λ s. f s && into n steps z s) k

-- Z(i) of until: the states from which at most i steps, each from a state of f, lead to h
abbrev pub until_chain : ℕ → (ℕ → ℕ → Bool) → (ℕ → Bool) → (ℕ → Bool) → ℕ → ℕ → Bool
until_chain n steps f h = iterate (until_step n steps f) (below n h)

-- the states of z that have a step into z
abbrev pub globally_step : ℕ → (ℕ → ℕ → Bool) → (ℕ → Bool) → ℕ → Bool
globally_step n steps z k = z k && into n steps z k

-- Z(i) of globally: the states from which i steps stay in f
abbrev pub globally_chain : ℕ → (ℕ → ℕ → Bool) → (ℕ → Bool) → ℕ → ℕ → Bool
globally_chain n steps f = iterate (globally_step n steps) (below n f)

-- the rounds of a chain: the least k, at most n, at which Z(k + 1) has the states of Z(k)
unfoldable pub rounds : ℕ → (ℕ → ℕ → Bool) → ℕ
rounds n chain = least n (λ k. same n (chain (suc k)) (chain k))

-- the set at which a chain settles
unfoldable pub settled : ℕ → (ℕ → ℕ → Bool) → ℕ → Bool
settled n chain = chain (rounds n chain)
