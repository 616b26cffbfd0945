use Rattle.std.proofs.Common.{rules}
use Rattle.sets.proofs.Ranges.{all_upto}
use Rattle.search.proofs.graph.Graph.leads_only_into.Goals as goal

pub returns : goal.returns
returns g c = all_upto _ c.all.ensures.ran (λ x b q k. search rules)
