-- Judging a line, and resolving its reduction at the last B line, agree.
use Rattle.std.specs.Prelude.{◌≡◌, ℕ, ◌<◌, length}
use Rattle.semantics.specs.Judging.{line_set, line_rounds, verdict}
use Rattle.semantics.specs.Reduction.{reduction, last_line}
use Rattle.semantics.specs.Queries.{Query}
use Rattle.semantics.specs.Resolving.{query_set, query_rounds}
use Rattle.semantics.specs.Sheets.{Sheet}
use Rattle.semantics.specs.Validity.{Valid}

-- B line b of the query has the set, the verdict and the rounds of line f
pub record Agree (h : Sheet) (f : ℕ) (q : Query) (b : ℕ) : Type 0 where
  pub one_set : query_set h q b ≡ line_set h f
  pub one_verdict : verdict h (query_set h q b) ≡ verdict h (line_set h f)
  pub one_rounds : query_rounds h q b ≡ line_rounds h f

-- the last B line of the reduction of line f agrees with line f
abbrev pub TwoRoads : Type 0
TwoRoads = (h : Sheet) → Valid h → (f : ℕ) → f < length h.lines →
    Agree h f (reduction h.lines f) (last_line (reduction h.lines f))
