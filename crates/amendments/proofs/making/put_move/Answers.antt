use Rattle.std.proofs.Common.{refl, ap, ◌∙◌, arith}
use Rattle.std.proofs.lemmas.Bool.{lt-ltb}
use Rattle.sets.proofs.MemberLaws.{cond_on}
use Rattle.semantics.specs.Edits.{with_moves}
use Rattle.sheets.specs.Model.{model_from}
use Rattle.amendments.proofs.Moving.{joined}
use Rattle.amendments.proofs.Tables.{moves_changed}
use Rattle.amendments.proofs.making.put_move.Goals as goal

pub returns : goal.returns
returns c head who rows h =
    let ss = c.args.states.now in
    let from = c.args.from in
    let e = c.put.ensures in
    let fits = e.fits ∙ lt-ltb c.args.to 128 (omega (arith, c.requires)) in
    moves_changed ss from _ c.requires.0 head who rows refl refl refl
    ∙ ap (with_moves (model_from head who ss rows)) (joined ss from c.args.to _ c.requires.0 c.requires.1 (λ k. e.after k ∙ cond_on c.put.result _ _ fits k))
