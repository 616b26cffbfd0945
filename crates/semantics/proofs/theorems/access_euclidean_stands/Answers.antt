use Rattle.semantics.proofs.AccessLaws.{access_euclidean}
use Rattle.semantics.proofs.theorems.access_euclidean_stands.Goals as goal

pub returns : goal.returns
returns c = access_euclidean
