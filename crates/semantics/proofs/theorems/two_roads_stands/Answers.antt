use Rattle.semantics.proofs.Roads.{two_roads}
use Rattle.semantics.proofs.theorems.two_roads_stands.Goals as goal

pub returns : goal.returns
returns c = two_roads
