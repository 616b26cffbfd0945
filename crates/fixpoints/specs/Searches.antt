-- What the searches promise beside the chains that they run through.
use Rattle.std.specs.Prelude.{◌≡◌, ℕ, ◌*◌, ◌<◌, ◌≤◌, Bool, true, ◌&&◌, nat_le}
use Rattle.semantics.specs.Chains.{rounds, settled}
use Rattle.semantics.specs.Sets.{Same, into}

-- each state of m is one of f below n, with a step into m
abbrev pub Inside : ℕ → (ℕ → ℕ → Bool) → (ℕ → Bool) → (ℕ → Bool) → Type 0
Inside n steps f m = (k : ℕ) → m k ≡ true → (k < n) × (f k ≡ true) × (into n steps m k ≡ true)

-- room for such a search over n states: in the set, in a byte for each state's number, and in two slots for each
abbrev pub enough : ℕ → ℕ → ℕ → Bool
enough n capacity slots = nat_le n capacity && (nat_le n 256 && nat_le (2 * n) slots)

-- m is the set at which the chain settles, and r its rounds
pub record Found (n : ℕ) (chain : ℕ → ℕ → Bool) (m : ℕ → Bool) (r : ℕ) : Type 0 where
  pub set_is : Same m (settled n chain)
  pub rounds_are : r ≡ rounds n chain
  pub bound : r ≤ n
