use Rattle.std.proofs.Common.{refl}
use Rattle.sheets.specs.Moves.{no_local}
use Rattle.amendments.proofs.Locals.{position_changed}
use Rattle.amendments.proofs.making.set_position.Goals as goal

pub returns : goal.returns
returns c head who rows l = position_changed _ _ _ c.requires.0 _ _ (λ p. c.put.ensures p no_local) head who rows refl refl refl l refl
