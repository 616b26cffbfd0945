use Rattle.texts.specs.Written.{Gave, texts_below}
use Rattle.judging.specs.Reporting.{kept_text}
use Rattle.judging.proofs.reporting.SummariesText.write.Given as goal

abbrev pub invariant-loop-k : goal.invariant-loop-k
invariant-loop-k l = Gave l.initial.writer (texts_below l.k (kept_text l.self.lines.now)) l.writer
