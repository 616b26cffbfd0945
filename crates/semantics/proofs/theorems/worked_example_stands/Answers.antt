use Rattle.semantics.proofs.Worked.{worked}
use Rattle.semantics.proofs.theorems.worked_example_stands.Goals as goal

pub returns : goal.returns
returns c = worked
