use Rattle.std.proofs.Common.{◌≡◌, true}
use Rattle.search.specs.Stack.{contents, Behind}
use Rattle.fixpoints.specs.Rounds.{among, lacks}
use Rattle.fixpoints.proofs.Loops.{Following}
use Rattle.fixpoints.proofs.small_graph.SmallGraph.follow.Given as goal

abbrev pub invariant-walk : goal.invariant-walk
invariant-walk g l =
    (g.S.StateSet.holds l.set l.last ≡ true)
    × Behind l.initial.walk l.walk
    × Following l.self.states (g.R.StepRule.steps l.self.rule.now) (g.S.StateSet.holds l.set) l.start l.last (contents l.walk)

abbrev pub decreases-walk : goal.decreases-walk
decreases-walk g l = lacks l.self.states (among (contents l.walk))
