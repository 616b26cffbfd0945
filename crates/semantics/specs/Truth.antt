-- What is computed of a line is its truth.
use Rattle.std.specs.Prelude.{◌≡◌, ℕ, ◌<◌, true, ◌↔◌}
use Rattle.semantics.specs.Formulas.{Holds, tree_at}
use Rattle.semantics.specs.Judging.{line_set}
use Rattle.semantics.specs.Sheets.{Sheet}
use Rattle.semantics.specs.Validity.{Valid}

-- the set of a line has exactly the states at which the line holds along endless paths
abbrev pub SetsAreTruth : Type 0
SetsAreTruth = (h : Sheet) → Valid h → (f s : ℕ) → line_set h f s ≡ true ↔ ((s < h.states) × (Holds h (tree_at h f) s))
