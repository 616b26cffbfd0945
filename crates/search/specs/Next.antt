-- What the searches for next states answer.
use Rattle.std.specs.Prelude.{◌≡◌, ℕ, ◌<◌, ◌≤◌, Bool, true, false, ◌&&◌, Some, None, Option}

-- the first state from low on, and below n, that is in m and that s leads to
abbrev pub FirstStep : ℕ → (ℕ → ℕ → Bool) → (ℕ → Bool) → ℕ → ℕ → Option ℕ → Type 0
FirstStep n steps m s low None = (u : ℕ) → low ≤ u → u < n → (m u && steps s u) ≡ false
FirstStep n steps m s low (Some t) =
    (low ≤ t) × (t < n) × ((m t && steps s t) ≡ true) × ((u : ℕ) → low ≤ u → u < t → (m u && steps s u) ≡ false)
