use Rattle.std.proofs.Common.{rules}
use Rattle.sets.proofs.Ranges.{count_upto}
use Rattle.amendments.proofs.checks.steps_from.Goals as goal

pub returns-clause-value : goal.returns-clause-value
returns-clause-value c =
    rw (← c.state_count.ensures.value)
    (count_upto _ c.filter.ensures.source c.filter.ensures.closure c.count.ensures.ran (λ x b q k. (search rules, search rules)))
