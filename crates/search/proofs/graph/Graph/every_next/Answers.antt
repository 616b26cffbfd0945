use Rattle.std.proofs.Common.{rules}
use Rattle.search.proofs.FilledSets.{same_filled}
use Rattle.search.proofs.graph.Graph.every_next.Goals as goal

pub returns-clause-after : goal.returns-clause-after
returns-clause-after g c = same_filled _ _ _ _ c.fill.result c.fill.ensures.after (λ k b q. search rules)
