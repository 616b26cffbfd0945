use Rattle.std.proofs.Common.{◌&&◌}
use Rattle.search.specs.Stack.{contents, capacity}
use Rattle.fixpoints.proofs.Adding.{Adding}
use Rattle.fixpoints.proofs.small_graph.SmallGraph.add_predecessors.Given as goal

abbrev pub invariant-loop-state : goal.invariant-loop-state
invariant-loop-state g l =
    Adding l.self.states (capacity l.initial.order) (λ s. g.F.StateSet.holds l.first s && g.R.StepRule.steps l.self.rule.now s l.target) (g.S.StateSet.holds l.initial.set)
    (contents l.initial.order) l.state (g.S.StateSet.holds l.set) l.order
