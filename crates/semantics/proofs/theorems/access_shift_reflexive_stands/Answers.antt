use Rattle.semantics.proofs.AccessLaws.{access_shift_reflexive}
use Rattle.semantics.proofs.theorems.access_shift_reflexive_stands.Goals as goal

pub returns : goal.returns
returns c = access_shift_reflexive
