-- A set that is filled from a test.
use Rattle.std.specs.Prelude.{◌≡◌, ℕ, ◌<◌, ◌≤◌, Bool, false}

-- of the states below n, m has those that the test accepts, and no other state
pub record Filled (answers : ℕ → Bool → Type 0) (n : ℕ) (m : ℕ → Bool) : Type 0 where
  pub tested : (k : ℕ) → k < n → answers k (m k)
  pub others : (k : ℕ) → n ≤ k → m k ≡ false
