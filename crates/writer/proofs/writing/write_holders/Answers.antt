use Rattle.std.proofs.Common.{rules}
use Rattle.texts.proofs.Writing.{texts_none, texts_more}
use Rattle.writer.proofs.writing.write_holders.Goals as goal

pub loop-channel-init : goal.loop-channel-init
loop-channel-init c = search (rules, texts_none)

pub loop-channel-preserved : goal.loop-channel-preserved
loop-channel-preserved c = search (rules, texts_more)
