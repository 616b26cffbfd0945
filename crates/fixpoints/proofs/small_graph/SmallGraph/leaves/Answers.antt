use Rattle.std.proofs.Common.{◌≡◌, true, false, not, ◌&&◌, get_or, sym, ap, ◌∙◌, arith, rules}
use Rattle.std.proofs.lemmas.Bool.{both_ways, and_from, and_right, not_from_false, not_from_true}
use Rattle.search.proofs.FirstSteps.{first_none, first_passed, first_into}
use Rattle.semantics.specs.Sets.{into}
use Rattle.fixpoints.proofs.Passed.{passed_set, kept_into}
use Rattle.fixpoints.proofs.small_graph.SmallGraph.leaves.Goals as goal
use Rattle.fixpoints.proofs.small_graph.SmallGraph.leaves.Goals.{then-not-has-via-then-not-has, then-not-has-via-else-not-has+then-has, then-found, else-found}

pub returns-in-None-clause-told : goal.returns-in-None-clause-told
returns-in-None-clause-told g c =
    let n = c.args.self.now.states in
    let s = g.R.StepRule.steps c.args.self.now.rule.now in
    let z = g.S.StateSet.holds c.args.set.now in
    let k = c.args.state in
    let old = ap (λ v. into v s z k) c.from-2.ensures ∙ (c.requires.starts.passed k c.requires.below).1 in
    let none = first_none n s z k c.from-2.result old c.in-None.ensures in
    sym (and_from (z k) (not (into n s z k)) (sym c.if-not-has.ensures) (not_from_false (into n s z k) none))

pub returns-in-Some-clause-told : goal.returns-in-Some-clause-told
returns-in-Some-clause-told g c =
    let n = c.args.self.now.states in
    let s = g.R.StepRule.steps c.args.self.now.rule.now in
    let z = g.S.StateSet.holds c.args.set.now in
    let k = c.args.state in
    let to = c.in-Some.to in
    let old = ap (λ v. into v s z k) c.from-2.ensures ∙ (c.requires.starts.passed k c.requires.below).1 in
    let found = c.in-Some.ensures in
    sym (and_right (z k) (not (into n s z k)) (not_from_true (into n s z k) (first_into n s z k c.from-2.result old to found)))

pub returns-in-Some-clause-starts : goal.returns-in-Some-clause-starts
returns-in-Some-clause-starts g c =
    let n = c.args.self.now.states in
    let s = g.R.StepRule.steps c.args.self.now.rule.now in
    let z = g.S.StateSet.holds c.args.set.now in
    let k = c.args.state in
    let to = c.in-Some.to in
    let old = ap (λ v. into v s z k) c.from-2.ensures ∙ (c.requires.starts.passed k c.requires.below).1 in
    let found = c.in-Some.ensures in
    record {
      long = search rules;
      passed = passed_set n s z c.args.starts.now k to (omega (arith, c.requires.starts.long, c.requires.below)) c.requires.starts.passed found.1 (first_passed n s z k c.from-2.result old to found);
    }

pub returns-then-not-has-clause-told : goal.returns-then-not-has-clause-told
returns-then-not-has-clause-told g c =
    let n = c.args.self.now.states in
    let s = g.R.StepRule.steps c.args.self.now.rule.now in
    let z = g.S.StateSet.holds c.args.set.now in
    let k = c.args.state in
    elim c.then-not-has.branch [
      | then-not-has-via-then-not-has w ↦ (let off : z k ≡ false = sym w.if-not-has.ensures in ap (λ v. v && not (into n s z k)) (sym off))
      | then-not-has-via-else-not-has+then-has w ↦ elim w.if-found.branch [
        | then-found v ↦
            let on : z k ≡ true = sym w.if-not-has.ensures in
            let here : z (get_or c.args.starts.now k 0) ≡ true = ap z (sym v.from.ensures) ∙ sym v.has-then-found.ensures ∙ sym v.value-is ∙ w.if-has.true in
            sym (and_right (z k) (not (into n s z k)) (not_from_true (into n s z k) (kept_into n s z c.args.starts.now k (c.requires.known v.if-found.true) on here)))
        | else-found v ↦ absurd (both_ways w.if-found.value (v.value-is ∙ v.if-found.false) w.if-has.true)
      ]
    ]
