use Rattle.semantics.proofs.Runs.{runs_agree}
use Rattle.semantics.proofs.theorems.runs_agree_stands.Goals as goal

pub returns : goal.returns
returns c = runs_agree
