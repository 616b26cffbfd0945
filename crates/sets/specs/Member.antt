-- A set with one state more or fewer.
use Rattle.std.specs.Prelude.{ℕ, Bool, not, ◌&&◌, ◌||◌, ◌==◌}

-- one state more
abbrev pub plus : (ℕ → Bool) → ℕ → ℕ → Bool
plus m s k = k == s || m k

-- one state fewer
abbrev pub minus : (ℕ → Bool) → ℕ → ℕ → Bool
minus m s k = not (k == s) && m k
