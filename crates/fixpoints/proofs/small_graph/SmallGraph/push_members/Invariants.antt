use Rattle.search.specs.Stack.{capacity}
use Rattle.fixpoints.proofs.Lists.{Filling}
use Rattle.fixpoints.proofs.small_graph.SmallGraph.push_members.Given as goal

abbrev pub invariant-loop-state : goal.invariant-loop-state
invariant-loop-state g l = Filling (capacity l.initial.stack) (g.S.StateSet.holds l.set) l.state l.stack
