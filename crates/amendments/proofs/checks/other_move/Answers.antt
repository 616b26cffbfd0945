use Rattle.std.proofs.Common.{rules}
use Rattle.sets.proofs.Ranges.{any_upto}
use Rattle.amendments.proofs.checks.other_move.Goals as goal

pub returns : goal.returns
returns c = rw (← c.state_count.ensures.value) (any_upto _ c.any.ensures.ran (λ x b q k. search rules))
