use Rattle.semantics.proofs.Truth.{sets_are_truth}
use Rattle.semantics.proofs.theorems.sets_are_truth_stands.Goals as goal

pub returns : goal.returns
returns c = sets_are_truth
