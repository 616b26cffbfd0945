use Rattle.std.proofs.Common.{ℕ, ◌+◌, Bool, ◌&&◌, refl, ap, arith}
use Rattle.search.specs.Stack.{contents, capacity}
use Rattle.fixpoints.proofs.Adding.{adding_on, adding_off, adding_is, adding_listed}
use Rattle.fixpoints.proofs.small_graph.SmallGraph.add_predecessors.Goals as goal
use Rattle.fixpoints.proofs.small_graph.SmallGraph.add_predecessors.Goals.{then-enters, else-enters}

pub loop-state-preserved : goal.loop-state-preserved
loop-state-preserved g c =
    let n = c.args.self.now.states in
    let size = capacity c.args.order.now in
    let p : ℕ → Bool = λ s. g.F.StateSet.holds c.args.first.now s && g.R.StepRule.steps c.args.self.now.rule.now s c.args.target in
    let z = g.S.StateSet.holds c.args.set.now in
    let xs = contents c.args.order.now in
    let s = c.loop-state.state in
    let w = g.S.StateSet.holds c.loop-state.set in
    let v = c.loop-state.order in
    let m = c.loop-state.invariant in
    elim c.if-enters.branch [
      | then-enters t ↦ (
          let h = t.push.ensures in
          let y = g.S.StateSet.holds t.put.new.self in
          adding_is n size p z xs (s + 1) (s + 1) y _ t.push.new.self _ refl (ap g.S.StateSet.holds t.set-is) t.order-is
          (adding_on n size p z xs s w v m g.S.StateSet.CAPACITY y t.push.new.self t.put.result t.push.result c.requires.fits c.requires.listing.slots c.loop-state-test.true
          t.if-enters.ensures t.put.ensures.fits t.put.ensures.after h.fits h.after h.len h.size))
      | else-enters t ↦
          adding_is n size p z xs (s + 1) (s + 1) w _ v _ refl (ap g.S.StateSet.holds t.set-is) t.order-is (adding_off n size p z xs s w v m t.if-enters.ensures)
    ]

pub returns-clause-listing : goal.returns-clause-listing
returns-clause-listing g c =
    let m = c.loop-state.invariant in
    record { listed = adding_listed _ _ _ _ _ _ _ _ m c.requires.listing.listed; few = m.few; slots = omega (arith, m.size_is, c.requires.listing.slots) }
