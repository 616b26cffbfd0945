use Rattle.std.proofs.Common.{sym, below_more}
use Rattle.semantics.proofs.Quantifiers.{any_at}
use Rattle.search.proofs.graph.Graph.lowest_without_step.Goals as goal

pub states-preserved : goal.states-preserved
states-preserved g c =
    below_more _ _ c.states.invariant
    (any_at c.args.self.now.states (g.R.StepRule.steps c.args.self.now.rule.now c.states.from) c.loop-to.to c.loop-to-test.true (sym c.if-leads.ensures))
