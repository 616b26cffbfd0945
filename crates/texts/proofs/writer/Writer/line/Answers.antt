use Rattle.texts.proofs.Writing.{gave_more}
use Rattle.texts.proofs.writer.Writer.line.Goals as goal

pub returns : goal.returns
returns c =
    gave_more c.args.self.now.counted c.byte.ensures
    (gave_more c.byte.new.self.counted c.fields.ensures c.byte-2.ensures)
