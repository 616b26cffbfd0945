use Rattle.std.proofs.Common.{rules}
use Rattle.texts.proofs.Writing.{texts_none, texts_more}
use Rattle.judging.specs.Reporting.{kept_text}
use Rattle.judging.proofs.reporting.SummariesText.write.Goals as goal

pub loop-k-init : goal.loop-k-init
loop-k-init c = texts_none (kept_text c.args.self.now.lines.now) c.args.writer.now c.args.writer.now.counted

pub loop-k-preserved : goal.loop-k-preserved
loop-k-preserved c = texts_more (kept_text c.args.self.now.lines.now) c.loop-k.k c.args.writer.now.counted c.loop-k.invariant (search rules)
