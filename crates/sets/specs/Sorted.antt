-- A list whose first n numbers rise and stay below 64, and the numbers that it has.
use Rattle.std.specs.Prelude.{◌≡◌, ℕ, zero, suc, ◌<◌, ◌≤◌, Bool, false, ◌||◌, List, ◌==◌, slice_index, slice_index_or}

-- each of the first n is below 64
abbrev pub Small : List ℕ → ℕ → Type 0
Small xs n = (i : ℕ) → i < n → slice_index xs i < 64

-- each of the first n is above those before it
abbrev pub Rising : List ℕ → ℕ → Type 0
Rising xs n = (i j : ℕ) → i < j → j < n → slice_index xs i < slice_index xs j

-- k is among the first n of xs
abbrev pub among : List ℕ → ℕ → ℕ → Bool
among xs zero k = false
among xs (suc n) k = k == slice_index xs n || among xs n k

-- v stands at a place of the first n
pub record At (xs : List ℕ) (n place v : ℕ) : Type 0 where
  pub within : place < n
  pub here : slice_index_or xs place 0 ≡ v

-- a place for v, which the first n lack: those before it are below v, those from it on above
pub record InsertionPoint (xs : List ℕ) (n place v : ℕ) : Type 0 where
  pub within : place ≤ n
  pub before : (k : ℕ) → k < place → slice_index xs k < v
  pub above : (k : ℕ) → place ≤ k → k < n → v < slice_index xs k
