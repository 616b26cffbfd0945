use Rattle.std.proofs.Common.{length, is_ok, ◌∙◌, arith}
use Rattle.std.proofs.lemmas.Bool.{le-leb}
use Rattle.semantics.specs.Sets.{count, below}
use Rattle.semantics.proofs.Counts.{count_le}
use Rattle.semantics.proofs.Settling.{globally_settles}
use Rattle.sets.proofs.MemberLaws.{cond_on}
use Rattle.semantics.specs.Chains.{globally_chain, globally_step}
use Rattle.fixpoints.proofs.GloballyRound.{globally_stays, globally_changes, globally_falls, chain_below, settles_inside}
use Rattle.fixpoints.proofs.Iteration.{running_first, running_more, running_last}
use Rattle.fixpoints.proofs.Uniqueness.{found}
use Rattle.fixpoints.proofs.Passed.{passed_first}
use Rattle.fixpoints.proofs.small_graph.SmallGraph.globally_rounds.Goals as goal

pub rounds-init : goal.rounds-init
rounds-init g c =
    let n = c.args.self.now.states in
    let start = below n (g.F.StateSet.holds c.args.operand.now) in
    let z = g.S.StateSet.holds c.copy.new.set in
    let on = c.copy.ensures.fits ∙ le-leb n _ c.requires.fits in (
      record { empty = c.new-stack.ensures.empty; slots = omega (arith, c.requires.slots, c.new-stack.ensures.size, c.split_at_mut-starts.ensures.back_len) },
      record {
        long = omega (arith, c.fill.ensures.len, c.split_at_mut-starts.ensures.front_len);
        passed = passed_first n (g.R.StepRule.steps c.args.self.now.rule.now) z c.fill.new.self (length c.split_at_mut-starts.result.0.now)
            (omega (arith, c.split_at_mut-starts.ensures.front_len)) (c.fill.ensures.after (λ y e. e));
      },
      running_first n (globally_step n (g.R.StepRule.steps c.args.self.now.rule.now)) start (count n) z
          (λ k. c.copy.ensures.after k ∙ cond_on (is_ok c.copy.result) start _ on k) (count_le n z),
      λ lt. absurd (omega (arith, lt)),
    )

pub shrink-requires-clause-below : goal.shrink-requires-clause-below
shrink-requires-clause-below g c =
    chain_below c.args.self.now.states (g.R.StepRule.steps c.args.self.now.rule.now) (g.F.StateSet.holds c.args.operand.now) c.rounds.rounds
    (g.S.StateSet.holds c.rounds.set) c.rounds.invariant.2.is

pub rounds-smaller : goal.rounds-smaller
rounds-smaller g c =
    globally_falls c.args.self.now.states (g.R.StepRule.steps c.args.self.now.rule.now) (g.S.StateSet.holds c.rounds.set)
    c.shrink.result c.shrink.ensures.more (g.S.StateSet.holds c.shrink.new.set) c.shrink.ensures.after c.rounds-test.true

pub rounds-preserved : goal.rounds-preserved
rounds-preserved g c =
    let n = c.args.self.now.states in
    let s = g.R.StepRule.steps c.args.self.now.rule.now in
    let z = g.S.StateSet.holds c.rounds.set in
    let w = g.S.StateSet.holds c.shrink.new.set in
    let b = c.shrink.result in
    let told = c.shrink.ensures.more in
    let e = c.shrink.ensures.after in
    let t = c.rounds-test.true in (
      c.shrink.ensures.ready,
      c.shrink.ensures.starts,
      running_more n (globally_step n s) (below n (g.F.StateSet.holds c.args.operand.now)) (count n) c.rounds.rounds z w c.rounds.invariant.2 e
          (globally_falls n s z b told w e t) (globally_changes n s z b told t),
      λ _. c.shrink.ensures.kept,
    )

pub returns : goal.returns
returns g c =
    let n = c.args.self.now.states in
    let s = g.R.StepRule.steps c.args.self.now.rule.now in
    let f = g.F.StateSet.holds c.args.operand.now in
    let r = c.rounds.rounds in
    let z = g.S.StateSet.holds c.rounds.set in
    let w = g.S.StateSet.holds c.shrink.new.set in
    let m = c.rounds.invariant.2 in
    let last = running_last n (globally_step n s) (below n f) (count n) r z w m c.shrink.ensures.after
    (globally_stays n s z c.shrink.result c.shrink.ensures.more (chain_below n s f r z m.is) c.rounds-test.false) in
    record { after = found n (globally_chain n s f) w r last (globally_settles n s f); inside = settles_inside n s f r w last }
