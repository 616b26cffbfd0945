-- Finite paths that show where until and globally hold, along the steps of a rule over the states below n.
use Rattle.std.specs.Prelude.{◌≡◌, ℕ, suc, ◌<◌, Bool, true, List, [], ◌∷◌, length, Some, None, Option, ◌≢◌, slice_index, slice_index_or}

-- states, and for globally the place to which the path returns
pub record Shown : Type 0 where
  pub path : List ℕ
  pub place : Option ℕ

-- one state alone
abbrev pub alone : ℕ → Shown
alone t = record { path = t ∷ []; place = None }

-- a path that begins with s, on which no state occurs twice
pub record WalkBy (n : ℕ) (steps : ℕ → ℕ → Bool) (s : ℕ) (p : List ℕ) : Type 0 where
  pub nonempty : 0 < length p
  pub begins : slice_index_or p 0 0 ≡ s
  pub inside : (i : ℕ) → i < length p → slice_index p i < n
  pub follows : (i : ℕ) → suc i < length p → steps (slice_index p i) (slice_index p (suc i)) ≡ true
  pub once : (i j : ℕ) → i < j → j < length p → slice_index p i ≢ slice_index p j

-- P at every state of the path but the last, and Q at the last
pub record ReachingBy (n : ℕ) (steps : ℕ → ℕ → Bool) (P Q : ℕ → Type 0) (s : ℕ) (e : Shown) : Type 0 where
  pub no_place : e.place ≡ None
  pub walk : WalkBy n steps s e.path
  pub before : (i : ℕ) → suc i < length e.path → P (slice_index e.path i)
  pub last : (i : ℕ) → suc i ≡ length e.path → Q (slice_index e.path i)

-- P at every state of the path, whose last state has a step to the state at the place
pub record LoopingBy (n : ℕ) (steps : ℕ → ℕ → Bool) (P : ℕ → Type 0) (s : ℕ) (e : Shown) : Type 0 where
  pub at : ℕ
  pub is_place : e.place ≡ Some at
  pub within : at < length e.path
  pub walk : WalkBy n steps s e.path
  pub throughout : (i : ℕ) → i < length e.path → P (slice_index e.path i)
  pub returns : (i : ℕ) → suc i ≡ length e.path → steps (slice_index e.path i) (slice_index e.path at) ≡ true
