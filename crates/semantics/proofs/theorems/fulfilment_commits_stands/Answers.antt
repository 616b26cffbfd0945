use Rattle.semantics.proofs.AccessLaws.{fulfilment_commits}
use Rattle.semantics.proofs.theorems.fulfilment_commits_stands.Goals as goal

pub returns : goal.returns
returns c = fulfilment_commits
