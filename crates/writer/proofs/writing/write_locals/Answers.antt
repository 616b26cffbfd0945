use Rattle.std.proofs.Common.{ap, rules}
use Rattle.texts.proofs.Writing.{texts_none, texts_more, gave_as}
use Rattle.writer.specs.Render.{state_locals_text}
use Rattle.writer.proofs.writing.write_locals.Goals as goal

pub loop-k-init : goal.loop-k-init
loop-k-init c = search (rules, texts_none)

pub loop-k-preserved : goal.loop-k-preserved
loop-k-preserved c =
    let s = c.args.sheet.now in
    let same = ap (λ states. state_locals_text s.holders s.header.parties states c.loop-k.k) c.states-state-items.ensures.value in
    texts_more _ _ c.args.writer.now.counted c.loop-k.invariant (gave_as same c.write_state_locals.ensures)
