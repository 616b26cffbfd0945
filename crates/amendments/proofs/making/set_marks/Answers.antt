use Rattle.std.proofs.Common.{refl}
use Rattle.amendments.proofs.Tables.{marks_changed}
use Rattle.amendments.proofs.making.set_marks.Goals as goal

pub returns : goal.returns
returns c head who rows h = marks_changed _ _ _ c.requires head who rows refl refl refl
