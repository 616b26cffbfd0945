use Rattle.std.proofs.Common.{refl, ap, ◌∙◌}
use Rattle.semantics.specs.Edits.{with_moves}
use Rattle.sheets.specs.Model.{model_from}
use Rattle.amendments.proofs.Moving.{cut}
use Rattle.amendments.proofs.Tables.{moves_changed}
use Rattle.amendments.proofs.making.take_move.Goals as goal

pub returns : goal.returns
returns c head who rows h =
    let ss = c.args.states.now in
    let from = c.args.from in
    moves_changed ss from _ c.requires.0 head who rows refl refl refl
    ∙ ap (with_moves (model_from head who ss rows)) (cut ss from c.args.to _ c.requires.0 c.requires.1 c.take.ensures)
