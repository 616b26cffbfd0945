use Rattle.semantics.proofs.Accounts.{runs_account}
use Rattle.semantics.proofs.theorems.runs_account_stands.Goals as goal

pub returns : goal.returns
returns c = runs_account
