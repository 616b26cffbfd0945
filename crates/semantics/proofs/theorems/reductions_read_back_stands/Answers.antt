use Rattle.semantics.proofs.Fitting.{reductions_read_back}
use Rattle.semantics.proofs.theorems.reductions_read_back_stands.Goals as goal

pub returns : goal.returns
returns c = reductions_read_back
