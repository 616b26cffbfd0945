use Rattle.semantics.proofs.AccessLaws.{fulfilment_only_of_commitments}
use Rattle.semantics.proofs.theorems.fulfilment_only_of_commitments_stands.Goals as goal

pub returns : goal.returns
returns c = fulfilment_only_of_commitments
