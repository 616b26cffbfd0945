use Rattle.semantics.proofs.Settling.{until_settles}
use Rattle.semantics.proofs.theorems.until_settles_stands.Goals as goal

pub returns : goal.returns
returns c = until_settles
