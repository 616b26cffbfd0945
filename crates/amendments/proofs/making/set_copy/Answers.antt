use Rattle.std.proofs.Common.{refl}
use Rattle.sheets.specs.Moves.{no_local}
use Rattle.amendments.proofs.Locals.{copy_changed}
use Rattle.amendments.proofs.making.set_copy.Goals as goal

pub returns : goal.returns
returns c head who rows on =
    copy_changed _ _ _ c.requires.0 _ _ (λ p. c.put-2.ensures p no_local) head who rows refl refl refl _ _ on refl (λ d. c.put.ensures d 0)
