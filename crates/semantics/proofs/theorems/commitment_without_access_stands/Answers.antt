use Rattle.semantics.proofs.AccessLaws.{commitment_without_access}
use Rattle.semantics.proofs.theorems.commitment_without_access_stands.Goals as goal

pub returns : goal.returns
returns c = commitment_without_access
