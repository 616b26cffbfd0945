use Rattle.semantics.proofs.OrderExamples.{order_examples}
use Rattle.semantics.proofs.theorems.order_examples_stands.Goals as goal

pub returns : goal.returns
returns c = order_examples
