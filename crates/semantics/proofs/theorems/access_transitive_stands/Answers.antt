use Rattle.semantics.proofs.AccessLaws.{access_transitive}
use Rattle.semantics.proofs.theorems.access_transitive_stands.Goals as goal

pub returns : goal.returns
returns c = access_transitive
