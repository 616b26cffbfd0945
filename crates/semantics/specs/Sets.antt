-- A set of states is a predicate on state numbers; a step rule is a relation between them.
use Rattle.std.specs.Prelude.{◌≡◌, ℕ, zero, suc, ◌+◌, ◌/◌, ◌%◌, ◌^◌, Bool, true, false, cond, not, ◌&&◌, ◌||◌, ◌==◌, nat_lt}
use Rattle.std.specs.Bool.{beq}

-- two sets with the same states
abbrev pub Same : (ℕ → Bool) → (ℕ → Bool) → Type 0
Same m n = (k : ℕ) → m k ≡ n k

-- no state
abbrev pub nothing : ℕ → Bool
nothing k = false

-- the states of either
abbrev pub union : (ℕ → Bool) → (ℕ → Bool) → ℕ → Bool
union m n k = m k || n k

-- the states of m below n
abbrev pub below : ℕ → (ℕ → Bool) → ℕ → Bool
below n m k = nat_lt k n && m k

-- the states that m lacks
abbrev pub outside : (ℕ → Bool) → ℕ → Bool
outside m k = not (m k)

-- how many states below n a set has
abbrev pub count : ℕ → (ℕ → Bool) → ℕ
count zero m = 0
count (suc n) m = cond (m n) 1 0 + count n m

-- bit k of a number
abbrev pub bit_of : ℕ → ℕ → Bool
bit_of x k = x / 2 ^ k % 2 == 1

-- some number below n passes
abbrev pub any : ℕ → (ℕ → Bool) → Bool
any zero p = false
any (suc n) p = p n || any n p

-- every number below n passes
abbrev pub all : ℕ → (ℕ → Bool) → Bool
all zero p = true
all (suc n) p = p n && all n p

-- the least number below n that passes, or n if none does
abbrev pub least : ℕ → (ℕ → Bool) → ℕ
least zero p = 0
least (suc n) p = cond (p 0) 0 (suc (least n (λ k. p (suc k))))

-- two sets have the same states below n
abbrev pub same : ℕ → (ℕ → Bool) → (ℕ → Bool) → Bool
same n m w = all n (λ k. beq (m k) (w k))

-- s has a step to some state
abbrev pub has_step : ℕ → (ℕ → ℕ → Bool) → ℕ → Bool
has_step n steps s = any n (steps s)

-- s has a step to a state of m
abbrev pub into : ℕ → (ℕ → ℕ → Bool) → (ℕ → Bool) → ℕ → Bool
into n steps m s = any n (λ t. m t && steps s t)

-- each step of s leads to a state of m
abbrev pub within : ℕ → (ℕ → ℕ → Bool) → (ℕ → Bool) → ℕ → Bool
within n steps m s = all n (λ t. m t || not (steps s t))

-- the states with some step into m
abbrev pub some_next : ℕ → (ℕ → ℕ → Bool) → (ℕ → Bool) → ℕ → Bool
some_next n steps m = below n (into n steps m)

-- the states with every step into m
abbrev pub every_next : ℕ → (ℕ → ℕ → Bool) → (ℕ → Bool) → ℕ → Bool
every_next n steps m = below n (within n steps m)

-- the steps of a rule, taken back
abbrev pub reversed : (ℕ → ℕ → Bool) → ℕ → ℕ → Bool
reversed steps s t = steps t s
