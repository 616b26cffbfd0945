use Rattle.semantics.proofs.Requests.{logs_are_runs}
use Rattle.semantics.proofs.theorems.logs_are_runs_stands.Goals as goal

pub returns : goal.returns
returns c = logs_are_runs
