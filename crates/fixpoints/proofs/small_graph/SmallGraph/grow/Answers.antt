use Rattle.std.proofs.Common.{get_or, drop, ap, ◌∙◌, arith}
use Rattle.search.specs.Stack.{contents}
use Rattle.fixpoints.proofs.Frontiers.{frontier_step}
use Rattle.fixpoints.proofs.Growing.{growing_more, growing_last}
use Rattle.fixpoints.proofs.small_graph.SmallGraph.grow.Goals as goal

pub loop-place-preserved : goal.loop-place-preserved
loop-place-preserved g c =
    let e = c.add_predecessors.ensures in
    let place = c.loop-place.place in (
      e.listing,
      growing_more c.args.self.now.states (g.R.StepRule.steps c.args.self.now.rule.now) (g.F.StateSet.holds c.args.first.now) (g.S.StateSet.holds c.args.set.now) c.args.done.now
          (contents c.args.order.now) place (g.S.StateSet.holds c.loop-place.set) (contents c.loop-place.order) c.loop-place.invariant.1 c.loop-place.invariant.0.listed
          (omega (arith, c.len-end.ensures.value)) c.from-target.result (c.from-target.ensures ∙ ap (λ v. get_or v place 0) c.as_slice.ensures)
          (g.S.StateSet.holds c.add_predecessors.new.set) (contents c.add_predecessors.new.order) e.after e.pushed,
    )

pub returns-clause-after : goal.returns-clause-after
returns-clause-after g c =
    let n = c.args.self.now.states in
    let s = g.R.StepRule.steps c.args.self.now.rule.now in
    let f = g.F.StateSet.holds c.args.first.now in
    let z = g.S.StateSet.holds c.args.set.now in
    let w = g.S.StateSet.holds c.loop-place.set in
    let done = c.args.done.now in
    let xs = contents c.args.order.now in
    let ys = contents c.loop-place.order in
    let m = c.loop-place.invariant.1 in
    λ k.
    growing_last n s f z done xs c.loop-place.place w ys m (omega (arith, c.len-end.ensures.value)) k
    ∙ frontier_step n s f z (drop done xs) c.requires.frontier k
