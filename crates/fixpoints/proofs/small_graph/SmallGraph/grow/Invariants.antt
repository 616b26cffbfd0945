use Rattle.fixpoints.specs.Rounds.{Listing}
use Rattle.search.specs.Stack.{contents}
use Rattle.fixpoints.proofs.Growing.{Growing}
use Rattle.fixpoints.proofs.small_graph.SmallGraph.grow.Given as goal

abbrev pub invariant-loop-place : goal.invariant-loop-place
invariant-loop-place g l =
    Listing l.self.states (g.S.StateSet.holds l.set) l.order
    × Growing l.self.states (g.R.StepRule.steps l.self.rule.now) (g.F.StateSet.holds l.first) (g.S.StateSet.holds l.initial.set) l.done (contents l.initial.order)
    l.place (g.S.StateSet.holds l.set) (contents l.order)
