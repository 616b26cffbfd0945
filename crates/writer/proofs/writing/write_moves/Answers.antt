use Rattle.std.proofs.Common.{rules}
use Rattle.texts.proofs.Writing.{texts_none, texts_more}
use Rattle.writer.proofs.writing.write_moves.Goals as goal

pub loop-from-init : goal.loop-from-init
loop-from-init c = search (rules, texts_none)

pub loop-from-preserved : goal.loop-from-preserved
loop-from-preserved c = search (rules, texts_more)
