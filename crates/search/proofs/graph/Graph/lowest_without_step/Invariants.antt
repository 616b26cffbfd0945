use Rattle.std.proofs.Common.{◌≡◌, ℕ, ◌<◌, true, false}
use Rattle.semantics.specs.Sets.{has_step}
use Rattle.search.proofs.graph.Graph.lowest_without_step.Given as goal

abbrev pub invariant-loop-to : goal.invariant-loop-to
invariant-loop-to g l = has_step l.to (g.R.StepRule.steps l.self.rule.now) l.from ≡ false

abbrev pub invariant-states : goal.invariant-states
invariant-states g l = (u : ℕ) → u < l.from → has_step l.self.states (g.R.StepRule.steps l.self.rule.now) u ≡ true
