use Rattle.std.proofs.Common.{ltb, drop, is_ok, sym, ◌∙◌, arith}
use Rattle.std.proofs.lemmas.Bool.{and_parts, le-leb}
use Rattle.sets.proofs.MemberLaws.{cond_on}
use Rattle.semantics.specs.Sets.{Same, below, outside}
use Rattle.semantics.specs.Chains.{until_chain, until_step}
use Rattle.semantics.proofs.Counts.{count_le}
use Rattle.semantics.proofs.Settling.{until_settles}
use Rattle.fixpoints.specs.Rounds.{lacks}
use Rattle.search.specs.Stack.{contents}
use Rattle.fixpoints.proofs.Frontiers.{frontier_first, frontier_next}
use Rattle.fixpoints.proofs.Iteration.{running_first, running_more, running_last}
use Rattle.fixpoints.proofs.Lists.{among_members, length_members}
use Rattle.fixpoints.proofs.Orders.{ordered_first}
use Rattle.fixpoints.proofs.Uniqueness.{found}
use Rattle.fixpoints.proofs.UntilRound.{until_stays, until_changes, until_falls}
use Rattle.fixpoints.proofs.small_graph.SmallGraph.until_order.Goals as goal

pub rounds-init : goal.rounds-init
rounds-init g c =
    let n = c.args.self.now.states in
    let s = g.R.StepRule.steps c.args.self.now.rule.now in
    let f = g.F.StateSet.holds c.args.first.now in
    let h = g.H.StateSet.holds c.args.second.now in
    let start = below n h in
    let z = g.S.StateSet.holds c.copy.new.set in
    let xs = contents c.push_members.new.stack in
    let is = c.push_members.ensures.after in
    let on = c.copy.ensures.fits ∙ le-leb n _ c.requires.fits in
    let same : Same z start = λ k. c.copy.ensures.after k ∙ cond_on (is_ok c.copy.result) start _ on k in (
      record {
        listed = among_members n z xs is (λ k e. (and_parts (ltb k n) (h k) (sym (same k) ∙ e)).0);
        few = omega (arith, length_members n z xs is);
        slots = omega (arith, c.push_members.ensures.size, c.requires.ready.slots);
      },
      omega arith,
      frontier_first n s f z xs is,
      ordered_first s f h n z xs is (λ k e. (and_parts (ltb k n) (h k) (sym (same k) ∙ e)).1),
      running_first n (until_step n s f) start (lacks n) z same (count_le n (outside z)),
    )

pub rounds-smaller : goal.rounds-smaller
rounds-smaller g c =
    let e = c.grow.ensures in
    until_falls c.args.self.now.states (g.R.StepRule.steps c.args.self.now.rule.now) (g.F.StateSet.holds c.args.first.now) (g.S.StateSet.holds c.rounds.set)
    (g.S.StateSet.holds c.grow.new.set) (drop c.grow.new.done (contents c.grow.new.order)) c.grow.result e.after e.added e.more c.rounds-test.true

pub rounds-preserved : goal.rounds-preserved
rounds-preserved g c =
    let n = c.args.self.now.states in
    let s = g.R.StepRule.steps c.args.self.now.rule.now in
    let f = g.F.StateSet.holds c.args.first.now in
    let h = g.H.StateSet.holds c.args.second.now in
    let z = g.S.StateSet.holds c.rounds.set in
    let w = g.S.StateSet.holds c.grow.new.set in
    let xs = drop c.grow.new.done (contents c.grow.new.order) in
    let b = c.grow.result in
    let e = c.grow.ensures in
    let m = c.rounds.invariant in
    let t = c.rounds-test.true in (
      e.listing,
      e.within,
      frontier_next n s f z w xs e.after e.added,
      e.ordered h m.3,
      running_more n (until_step n s f) (below n h) (lacks n) c.rounds.rounds z w m.4 e.after
          (until_falls n s f z w xs b e.after e.added e.more t) (until_changes n s f z w xs b e.after e.added e.more t),
    )

pub returns-clause-after : goal.returns-clause-after
returns-clause-after g c =
    let n = c.args.self.now.states in
    let s = g.R.StepRule.steps c.args.self.now.rule.now in
    let f = g.F.StateSet.holds c.args.first.now in
    let h = g.H.StateSet.holds c.args.second.now in
    let z = g.S.StateSet.holds c.rounds.set in
    let w = g.S.StateSet.holds c.grow.new.set in
    let xs = drop c.grow.new.done (contents c.grow.new.order) in
    let e = c.grow.ensures in
    let last = running_last n (until_step n s f) (below n h) (lacks n) c.rounds.rounds z w c.rounds.invariant.4 e.after
    (until_stays n s f z w xs c.grow.result e.after e.added e.more c.rounds-test.false) in
    found n (until_chain n s f h) w c.rounds.rounds last (until_settles n s f h)
