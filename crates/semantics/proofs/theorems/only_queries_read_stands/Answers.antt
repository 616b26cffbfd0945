use Rattle.semantics.proofs.OnlyQueries.{only_queries_read}
use Rattle.semantics.proofs.theorems.only_queries_read_stands.Goals as goal

pub returns : goal.returns
returns c = only_queries_read
