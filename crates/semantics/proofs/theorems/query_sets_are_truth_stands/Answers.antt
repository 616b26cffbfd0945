use Rattle.semantics.proofs.Resolving.{query_sets_are_truth}
use Rattle.semantics.proofs.theorems.query_sets_are_truth_stands.Goals as goal

pub returns : goal.returns
returns c = query_sets_are_truth
