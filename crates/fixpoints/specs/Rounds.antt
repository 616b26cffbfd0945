-- What one round of a search works with.
use Rattle.std.specs.Prelude.{◌≡◌, ℕ, zero, suc, ◌+◌, ◌<◌, ◌≤◌, Bool, true, false, cond, not, ◌&&◌, ◌||◌, List, [], ◌∷◌, ◌++◌, length, take, ◌==◌, slice_index}
use Rattle.std.specs.List.{list_any}
use Rattle.search.specs.Stack.{contents, capacity}
use Rattle.search.specs.declared.stack.Stack.{Stack}
use Rattle.semantics.specs.Sets.{Same, count, into}

-- the numbers below n that pass, rising
abbrev pub list_below : ℕ → (ℕ → Bool) → List ℕ
list_below zero p = []
list_below (suc n) p = list_below n p ++ cond (p n) (n ∷ []) []

-- k is in the list
abbrev pub among : List ℕ → ℕ → Bool
among xs k = list_any (λ x. k == x) xs

-- a state of f outside z that has a step into z
abbrev pub entering : ℕ → (ℕ → ℕ → Bool) → (ℕ → Bool) → (ℕ → Bool) → ℕ → Bool
entering n steps f z k = not (z k) && (f k && into n steps z k)

-- how many states below n the set lacks
abbrev pub lacks : ℕ → (ℕ → Bool) → ℕ
lacks n z = count n (λ k. not (z k))

-- s has a step to a state of the list
abbrev pub into_list : (ℕ → ℕ → Bool) → List ℕ → ℕ → Bool
into_list steps xs s = list_any (steps s) xs

-- xs are states of z, and each state that enters z has a step to one of them
pub record Frontier (n : ℕ) (steps : ℕ → ℕ → Bool) (f z : ℕ → Bool) (xs : List ℕ) : Type 0 where
  pub sound : (k : ℕ) → among xs k ≡ true → (k < n) × (z k ≡ true)
  pub covers : (k : ℕ) → k < n → entering n steps f z k ≡ true → into_list steps xs k ≡ true

-- no state occurs twice in xs, and each is in h, or is in f and leads to one before it
pub record Ordered (steps : ℕ → ℕ → Bool) (f h : ℕ → Bool) (xs : List ℕ) : Type 0 where
  pub new : (i : ℕ) → i < length xs → among (take i xs) (slice_index xs i) ≡ false
  pub grounded : (i : ℕ) → i < length xs → (h (slice_index xs i) || (f (slice_index xs i) && into_list steps (take i xs) (slice_index xs i))) ≡ true

-- a state of z that has no step into z
abbrev pub leaving : ℕ → (ℕ → ℕ → Bool) → (ℕ → Bool) → ℕ → Bool
leaving n steps z k = z k && not (into n steps z k)

-- xs has for each state a number below which it leads to no state of z
abbrev pub Passed : ℕ → (ℕ → ℕ → Bool) → (ℕ → Bool) → List ℕ → Type 0
Passed n steps z xs = (k : ℕ) → k < n → (slice_index xs k ≤ n) × (into (slice_index xs k) steps z k ≡ false)

-- the numbers that the search for a step of each state goes on from
pub record Starts (n : ℕ) (steps : ℕ → ℕ → Bool) (z : ℕ → Bool) (xs : List ℕ) : Type 0 where
  pub long : n ≤ length xs
  pub passed : Passed n steps z xs

-- if z has k, then k leads to the state below n that xs keeps for it
abbrev pub KeepsStep : ℕ → (ℕ → ℕ → Bool) → (ℕ → Bool) → List ℕ → ℕ → Type 0
KeepsStep n steps z xs k = z k ≡ true → (slice_index xs k < n) × (steps k (slice_index xs k) ≡ true)

-- so for every state of z
abbrev pub KeepsSteps : ℕ → (ℕ → ℕ → Bool) → (ℕ → Bool) → List ℕ → Type 0
KeepsSteps n steps z xs = (k : ℕ) → KeepsStep n steps z xs k

-- an empty stack with a slot for each state
pub record Ready (n : ℕ) (s : Stack ℕ) : Type 0 where
  pub empty : contents s ≡ []
  pub slots : n ≤ capacity s

-- a stack of the states of z, with slots for those that z lacks
pub record Listing (n : ℕ) (z : ℕ → Bool) (s : Stack ℕ) : Type 0 where
  pub listed : Same (among (contents s)) z
  pub few : length (contents s) + lacks n z ≤ n
  pub slots : n ≤ capacity s
