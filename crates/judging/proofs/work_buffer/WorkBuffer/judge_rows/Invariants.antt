use Rattle.std.proofs.Common.{◌≡◌, ℕ, ◌+◌}
use Rattle.semantics.specs.Judging.{line_set, line_rounds}
use Rattle.semantics.specs.Sets.{Same}
use Rattle.sheets.specs.Fits.{Fits}
use Rattle.sheets.specs.Model.{model_of}
use Rattle.judging.specs.Judging.{Kept}
use Rattle.judging.proofs.work_buffer.WorkBuffer.judge_rows.Given as goal

-- after row k the set and the rounds are those of line k
abbrev pub invariant-loop-k : goal.invariant-loop-k
invariant-loop-k g l =
    (Fits l.sheet → Kept (model_of l.sheet) l.k l.self.sets.now)
    × (Fits l.sheet → (j : ℕ) → j + 1 ≡ l.k → Same (g.S.StateSet.holds l.set) (line_set (model_of l.sheet) j))
    × (Fits l.sheet → (j : ℕ) → j + 1 ≡ l.k → l.rounds ≡ line_rounds (model_of l.sheet) j)
