use Rattle.std.proofs.Common.{rules}
use Rattle.texts.proofs.Writing.{texts_none, texts_more}
use Rattle.writer.proofs.Steps.{gave_when, gave_unless}
use Rattle.writer.proofs.writing.write_channel.Goals as goal
use Rattle.writer.proofs.writing.write_channel.Goals.{then-has, else-has}

pub loop-party-init : goal.loop-party-init
loop-party-init c = search (rules, texts_none)

pub loop-party-preserved : goal.loop-party-preserved
loop-party-preserved c =
    texts_more _ _ c.args.writer.now.counted c.loop-party.invariant
    (elim c.if-has.branch [ then-has w ↦ gave_when w.if-has.ensures w.writer-is w.line.ensures | else-has w ↦ gave_unless _ w.if-has.ensures w.writer-is ])
