use Rattle.std.proofs.Common.{take, rules}
use Rattle.std.proofs.lemmas.Iterator.{YieldsList-from_slice}
use Rattle.std.proofs.lemmas.Iterator.Search.{position_from_yields_List}
use Rattle.fixpoints.proofs.small_graph.SmallGraph.onward.Goals as goal

pub returns : goal.returns
returns g c =
    let steps = g.R.StepRule.steps c.args.self.now.rule.now c.from-state.result in
    let first = position_from_yields_List steps _ _ c.position.result c.position.ensures.ran (YieldsList-from_slice (take c.args.place c.args.order.now) cc) (λ x b q k. search rules) in
    rw (← c.from-state.ensures, ← c.if-has.ensures) first
