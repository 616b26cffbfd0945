use Rattle.std.proofs.Common.{◌<◌}
use Rattle.semantics.specs.Sets.{count, below}
use Rattle.semantics.specs.Chains.{globally_step}
use Rattle.fixpoints.specs.Rounds.{Ready, Starts, KeepsSteps}
use Rattle.fixpoints.proofs.Iteration.{Running}
use Rattle.fixpoints.proofs.small_graph.SmallGraph.globally_rounds.Given as goal

abbrev pub invariant-rounds : goal.invariant-rounds
invariant-rounds g l =
    Ready l.self.states l.stack
    × Starts l.self.states (g.R.StepRule.steps l.self.rule.now) (g.S.StateSet.holds l.set) l.starts
    × Running l.self.states (globally_step l.self.states (g.R.StepRule.steps l.self.rule.now)) (below l.self.states (g.F.StateSet.holds l.operand)) (count l.self.states)
    l.rounds (g.S.StateSet.holds l.set)
    × (0 < l.rounds → KeepsSteps l.self.states (g.R.StepRule.steps l.self.rule.now) (g.S.StateSet.holds l.set) l.starts)

abbrev pub decreases-rounds : goal.decreases-rounds
decreases-rounds g l = count l.self.states (g.S.StateSet.holds l.set)
