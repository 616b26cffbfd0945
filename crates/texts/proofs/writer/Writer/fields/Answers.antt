use Rattle.std.proofs.Common.{sym}
use Rattle.texts.proofs.Writing.{gave_more, gave_as, fields_more}
use Rattle.texts.proofs.writer.Writer.fields.Goals as goal

pub loop-n-preserved : goal.loop-n-preserved
loop-n-preserved c =
    gave_as (sym (fields_more c.args.numbers.now c.loop-n.n-index c.loop-n-test.true))
    (gave_more c.args.self.now.counted c.loop-n.invariant c.field.ensures)
