use Rattle.std.proofs.Common.{rules}
use Rattle.sets.proofs.Ranges.{count_folded}
use Rattle.sets.proofs.count.Goals as goal

pub returns : goal.returns
returns g c = count_folded _ (search rules) c.fold.ensures.ran (λ a x b q k. search rules)
