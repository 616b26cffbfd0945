use Rattle.std.proofs.Common.{rules}
use Rattle.texts.proofs.Writing.{texts_none, texts_more}
use Rattle.writer.proofs.writing.write_rows.Goals as goal

pub loop-k-init : goal.loop-k-init
loop-k-init c = search (rules, texts_none)

pub loop-k-preserved : goal.loop-k-preserved
loop-k-preserved c = search (rules, texts_more)
