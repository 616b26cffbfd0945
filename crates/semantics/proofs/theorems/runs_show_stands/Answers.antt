use Rattle.semantics.proofs.Runs.{runs_show}
use Rattle.semantics.proofs.theorems.runs_show_stands.Goals as goal

pub returns : goal.returns
returns c = runs_show
