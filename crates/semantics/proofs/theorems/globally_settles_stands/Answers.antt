use Rattle.semantics.proofs.Settling.{globally_settles}
use Rattle.semantics.proofs.theorems.globally_settles_stands.Goals as goal

pub returns : goal.returns
returns c = globally_settles
