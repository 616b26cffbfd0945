use Rattle.std.proofs.Common.{not, ◌&&◌, eqb, ltb, length, sym, ap, ◌∙◌}
use Rattle.std.proofs.lemmas.Bool.{lt-ltb, and_parts, and_right, not_from_true}
use Rattle.semantics.specs.Sets.{into}
use Rattle.fixpoints.specs.Rounds.{among, leaving}
use Rattle.fixpoints.proofs.GloballyRound.{round_keeps}
use Rattle.fixpoints.proofs.Lists.{among_below, some_below}
use Rattle.fixpoints.proofs.Passed.{passed_fewer}
use Rattle.fixpoints.proofs.small_graph.SmallGraph.shrink.Goals as goal

pub returns-clause-more : goal.returns-clause-more
returns-clause-more g c =
    let n = c.args.self.now.states in
    let p = leaving n (g.R.StepRule.steps c.args.self.now.rule.now) (g.S.StateSet.holds c.args.set.now) in
    ap not c.is_empty-more.ensures ∙ ap (λ xs. not (eqb (length xs) 0)) c.push_leaving.ensures.after ∙ some_below n p

pub returns-clause-after : goal.returns-clause-after
returns-clause-after g c =
    let n = c.args.self.now.states in
    let s = g.R.StepRule.steps c.args.self.now.rule.now in
    let z = g.S.StateSet.holds c.args.set.now in
    λ k.
    c.remove_all.ensures.after k ∙ ap (λ v. not v && z k) (ap (λ xs. among xs k) c.push_leaving.ensures.after ∙ among_below n (leaving n s z) k)
    ∙ round_keeps (ltb k n) (z k) (into n s z k) (λ e. lt-ltb k n (c.requires.below k e))

pub returns-clause-starts : goal.returns-clause-starts
returns-clause-starts g c =
    let z = g.S.StateSet.holds c.args.set.now in
    let fewer = passed_fewer c.args.self.now.states (g.R.StepRule.steps c.args.self.now.rule.now) z (g.S.StateSet.holds c.remove_all.new.set) c.push_leaving.new.starts
    (λ k on. (and_parts _ (z k) (sym (c.remove_all.ensures.after k) ∙ on)).1) c.push_leaving.ensures.starts.passed in
    record { long = c.push_leaving.ensures.starts.long; passed = fewer }

pub returns-clause-kept : goal.returns-clause-kept
returns-clause-kept g c k on =
    let n = c.args.self.now.states in
    let s = g.R.StepRule.steps c.args.self.now.rule.now in
    let z = g.S.StateSet.holds c.args.set.now in
    let ps = and_parts (z k) (into n s z k) (sym (returns-clause-after g c k) ∙ on) in
    c.push_leaving.ensures.kept k (c.requires.below k ps.0) (and_right (z k) (not (into n s z k)) (not_from_true (into n s z k) ps.1)) ps.0
