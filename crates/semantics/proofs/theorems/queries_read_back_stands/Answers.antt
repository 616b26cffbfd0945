use Rattle.semantics.proofs.Fitting.{queries_read_back}
use Rattle.semantics.proofs.theorems.queries_read_back_stands.Goals as goal

pub returns : goal.returns
returns c = queries_read_back
