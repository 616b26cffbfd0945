use Rattle.std.proofs.Common.{◌≤◌, length, drop}
use Rattle.semantics.specs.Sets.{below}
use Rattle.semantics.specs.Chains.{until_step}
use Rattle.fixpoints.specs.Rounds.{Frontier, Listing, Ordered, lacks}
use Rattle.search.specs.Stack.{contents}
use Rattle.fixpoints.proofs.Iteration.{Running}
use Rattle.fixpoints.proofs.small_graph.SmallGraph.until_order.Given as goal

abbrev pub invariant-rounds : goal.invariant-rounds
invariant-rounds g l =
    Listing l.self.states (g.S.StateSet.holds l.set) l.order
    × (l.done ≤ length (contents l.order))
    × Frontier l.self.states (g.R.StepRule.steps l.self.rule.now) (g.F.StateSet.holds l.first) (g.S.StateSet.holds l.set) (drop l.done (contents l.order))
    × Ordered (g.R.StepRule.steps l.self.rule.now) (g.F.StateSet.holds l.first) (g.H.StateSet.holds l.second) (contents l.order)
    × Running l.self.states (until_step l.self.states (g.R.StepRule.steps l.self.rule.now) (g.F.StateSet.holds l.first)) (below l.self.states (g.H.StateSet.holds l.second)) (lacks l.self.states)
    l.rounds (g.S.StateSet.holds l.set)

abbrev pub decreases-rounds : goal.decreases-rounds
decreases-rounds g l = lacks l.self.states (g.S.StateSet.holds l.set)
