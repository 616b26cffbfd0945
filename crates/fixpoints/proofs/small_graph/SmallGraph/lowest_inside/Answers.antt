use Rattle.fixpoints.proofs.Loops.{first_inside}
use Rattle.fixpoints.proofs.small_graph.SmallGraph.lowest_inside.Goals as goal

pub unwrap-requires : goal.unwrap-requires
unwrap-requires g c =
    first_inside c.args.self.now.states (g.R.StepRule.steps c.args.self.now.rule.now) (g.S.StateSet.holds c.args.set.now) c.args.state c.first_step.result
    c.requires.closed c.requires.member c.first_step.ensures
