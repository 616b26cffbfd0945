use Rattle.semantics.proofs.Evidence.{evidence_where_due}
use Rattle.semantics.proofs.theorems.evidence_where_due_stands.Goals as goal

pub returns : goal.returns
returns c = evidence_where_due
