use Rattle.sheets.specs.Fits.{Fits}
use Rattle.sheets.specs.Model.{model_of}
use Rattle.judging.specs.Judging.{Kept}
use Rattle.judging.specs.Reporting.{Summarized}
use Rattle.judging.proofs.work_buffer.WorkBuffer.summarize.Given as goal

abbrev pub invariant-loop-k : goal.invariant-loop-k
invariant-loop-k l = record {
  kept : Fits l.sheet → Kept (model_of l.sheet) l.k l.self.sets.now;
  summarized : Fits l.sheet → Summarized (model_of l.sheet) l.k l.self.summaries.now;
}
