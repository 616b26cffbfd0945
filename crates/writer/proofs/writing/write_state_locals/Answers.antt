use Rattle.std.proofs.Common.{ap, rules, arith, ◌<◌, length-take}
use Rattle.std.proofs.lemmas.List.{get_or-take}
use Rattle.sheets.specs.Moves.{no_local}
use Rattle.texts.proofs.Writing.{texts_none, texts_more, gave_as}
use Rattle.writer.specs.Render.{known_text}
use Rattle.writer.proofs.writing.write_state_locals.Goals as goal

pub loop-party-init : goal.loop-party-init
loop-party-init c = search (rules, texts_none)

pub loop-party-preserved : goal.loop-party-preserved
loop-party-preserved c =
    let parties = c.from-parties.result in
    let party = c.loop-party.party in
    let locals = c.args.state.now.locals in
    let lt : party < parties = omega (arith, c.loop-party-test.true, length-take parties locals) in
    let same = ap (known_text c.args.sheet.now.holders c.args.k party) (get_or-take parties locals party no_local lt) in
    texts_more _ _ c.args.writer.now.counted c.loop-party.invariant (gave_as same c.write_known.ensures)
