use Rattle.std.proofs.Common.{◌≡◌, ℕ, ◌≤◌, true, List, length, Some, sym, ap, ◌∙◌, arith, rules}
use Rattle.std.proofs.lemmas.Bool.{cond-true, lt-ltb}
use Rattle.search.proofs.StackLaws.{behind_first, behind_push, behind_trans}
use Rattle.fixpoints.specs.Witnesses.{PathBack}
use Rattle.fixpoints.proofs.Fronts.{moved}
use Rattle.fixpoints.proofs.Loops.{loop_found}
use Rattle.fixpoints.proofs.loop_search.globally_path.Goals as goal

pub returns-clause-path : goal.returns-clause-path
returns-clause-path g c =
    let small = c.in_ok-small.small in
    let same = c.in_ok-small.ensures.same in
    let n = small.states in
    let s = g.R.StepRule.steps small.rule.now in
    let f = g.F.StateSet.holds c.args.operand.now in
    let z = g.S.StateSet.holds c.globally_rounds.new.set in
    let is = c.globally_rounds.ensures.after.set_is in
    let k = c.args.state in
    let on : z k ≡ true = sym c.if-not-has.ensures in
    let v = c.new-walk.result in
    let w = c.follow-place.new.walk in
    let e = c.push.ensures in
    let room : n ≤ length c.args.path.now = search rules in
    let none = ap length c.new-walk.ensures.empty in
    let pushes : c.push.result ≡ true = e.fits ∙ lt-ltb _ _ (omega (arith, none, c.new-walk.ensures.size, room, same.0, (c.globally_rounds.ensures.inside k on).0)) in
    let first = behind_push v v c.push.new.self c.push.result k (behind_first v) pushes e.len e.size e.slots e.lent in
    let behind = behind_trans v c.push.new.self w first c.follow-place.ensures.behind (omega (arith, e.len ∙ cond-true _ _ _ pushes, none, c.follow-place.ensures.some)) in
    let P : List ℕ → Type 0 = λ xs. PathBack n s f k c.args.path.now xs (Some (record { length = c.len.result; place = c.follow-place.result })) in
    rw (← same.0, ← same.1)
    (moved P w.slots.now
    (loop_found n s f z k c.args.path.now v w c.len.result c.follow-place.result (sym (is k) ∙ on) c.globally_rounds.ensures.inside c.new-walk.ensures.slots behind
    c.len.ensures.value c.len.ensures.front c.follow-place.ensures.path)
    (search rules))
