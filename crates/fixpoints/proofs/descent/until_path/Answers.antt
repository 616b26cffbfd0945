use Rattle.std.proofs.Common.{◌≡◌, ℕ, true, List, eqb, Some, None, sym, ap, ◌∙◌, subst, rules}
use Rattle.search.specs.Stack.{contents}
use Rattle.semantics.specs.Chains.{until_chain, settled}
use Rattle.semantics.specs.Walks.{ReachingBy}
use Rattle.fixpoints.specs.Rounds.{among, Ordered}
use Rattle.fixpoints.specs.Witnesses.{In, PathTo}
use Rattle.fixpoints.proofs.Descents.{settled_below, path_found}
use Rattle.fixpoints.proofs.Fronts.{moved}
use Rattle.fixpoints.proofs.Lists.{place_found, position_none}
use Rattle.fixpoints.proofs.Orders.{among_at}
use Rattle.fixpoints.proofs.descent.until_path.Goals as goal

pub returns-in_default-clause-path : goal.returns-in_default-clause-path
returns-in_default-clause-path g c =
    let same = c.in_ok-small.ensures.same in
    let e = c.until_order.ensures in
    let k = c.args.state in
    let none = position_none (eqb k) c.as_slice-order.result.now (sym c.in_default.ensures) in
    rw (← same.0, ← same.1) (sym (e.after.set_is k) ∙ sym (e.listing.listed k) ∙ ap (λ v. among v k) (sym c.as_slice-order.ensures) ∙ none, search rules)

pub returns-clause-path : goal.returns-clause-path
returns-clause-path g c =
    let small = c.in_ok-small.small in
    let same = c.in_ok-small.ensures.same in
    let n = small.states in
    let s = g.R.StepRule.steps small.rule.now in
    let f = g.F.StateSet.holds c.args.first.now in
    let h = g.H.StateSet.holds c.args.second.now in
    let e = c.until_order.ensures in
    let k = c.args.state in
    let xs = c.as_slice-order.result.now in
    let start = c.in-Some.start in
    let at = place_found xs k start c.in-Some.ensures in
    let w = c.descend.new.walk in
    let in_set : (i : ℕ) → among xs i ≡ true → settled n (until_chain n s f h) i ≡ true =
    λ i on. sym (e.after.set_is i) ∙ sym (e.listing.listed i) ∙ ap (λ v. among v i) (sym c.as_slice-order.ensures) ∙ on in
    let R : ℕ → Type 0 = λ v. ReachingBy n s (In f) (In h) v (record { path = contents w; place = None }) in
    let Q : List ℕ → Type 0 = Ordered s f h in
    let reach = subst R at.1 (c.descend.ensures.path n f (λ i on. settled_below n s f h i (in_set i on)) (subst Q (sym c.as_slice-order.ensures) e.ordered)) in
    let P : List ℕ → Type 0 = λ v. PathTo n s f h k c.args.path.now v (Some c.len.result) in
    let member : among xs k ≡ true = ap (among xs) (sym at.1) ∙ among_at xs start at.0 in
    rw (← same.0, ← same.1)
    (moved P w.slots.now
    (path_found n s f h k c.args.path.now c.new-walk.result w c.len.result (in_set k member) c.new-walk.ensures.slots c.descend.ensures.behind
    c.len.ensures.value c.len.ensures.front reach)
    (search rules))
