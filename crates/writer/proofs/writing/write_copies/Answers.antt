use Rattle.std.proofs.Common.{◌∷◌, decimal, ap, rules}
use Rattle.texts.proofs.Writing.{texts_none, texts_more, gave_as}
use Rattle.writer.proofs.Steps.{gave_when, gave_unless}
use Rattle.writer.proofs.writing.write_copies.Goals as goal
use Rattle.writer.proofs.writing.write_copies.Goals.{then-has, else-has}

pub loop-channel-init : goal.loop-channel-init
loop-channel-init c = search (rules, texts_none)

pub loop-channel-preserved : goal.loop-channel-preserved
loop-channel-preserved c =
    texts_more _ _ c.args.writer.now.counted c.loop-channel.invariant
    (elim c.if-has.branch [ then-has w ↦ gave_when w.if-has.ensures w.writer-is (gave_as (ap (λ n. 44 ∷ decimal n) w.from.ensures) w.field.ensures) | else-has w ↦ gave_unless _ w.if-has.ensures w.writer-is ])
