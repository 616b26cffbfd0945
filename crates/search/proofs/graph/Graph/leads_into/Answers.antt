use Rattle.std.proofs.Common.{rules}
use Rattle.sets.proofs.Ranges.{any_upto}
use Rattle.search.proofs.graph.Graph.leads_into.Goals as goal

pub returns : goal.returns
returns g c = any_upto _ c.any.ensures.ran (λ x b q k. search rules)
