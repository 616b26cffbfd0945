use Rattle.std.proofs.Common.{◌≡◌, ℕ, ◌+◌, true, List, [], ◌∷◌, ◌++◌, length, get_or, sym, ap, ◌∙◌, subst, arith}
use Rattle.std.proofs.lemmas.Bool.{cond-true, lt-ltb}
use Rattle.search.specs.Stack.{contents}
use Rattle.search.proofs.StackLaws.{behind_first, behind_push}
use Rattle.fixpoints.proofs.Descents.{Descending, descending_first, descending_more, descending_last, stopped, went_on}
use Rattle.fixpoints.proofs.small_graph.SmallGraph.descend.Goals as goal

pub loop-before-init : goal.loop-before-init
loop-before-init g c =
    let s = g.R.StepRule.steps c.args.self.now.rule.now in
    let h = g.H.StateSet.holds c.args.goal.now in
    let xs = c.args.order.now in
    let place = c.args.start in
    let e = c.push.ensures in
    let none = ap length c.requires.empty in
    let on : c.push.result ≡ true = e.fits ∙ lt-ltb _ _ (omega (arith, none, c.requires.room, c.requires.within)) in
    let is : contents c.push.new.self ≡ get_or xs place 0 ∷ [] = e.after ∙ cond-true _ _ _ on ∙ ap (λ v. v ++ get_or xs place 0 ∷ []) c.requires.empty in (
      c.requires.within,
      omega (arith, ap length is, c.requires.within),
      omega (arith, ap length is),
      behind_first c.push.new.self,
      λ n f inside o. (let P : List ℕ → Type 0 = Descending n s f xs (get_or xs place 0) place in subst P (sym is) (descending_first n s f h xs inside o place c.requires.within)),
    )

pub loop-before-preserved : goal.loop-before-preserved
loop-before-preserved g c =
    let s = g.R.StepRule.steps c.args.self.now.rule.now in
    let h = g.H.StateSet.holds c.args.goal.now in
    let xs = c.args.order.now in
    let m = c.loop-before.invariant in
    let b = c.in-Some.before in
    let x = get_or xs c.loop-before.place 0 in
    let down = went_on (h x) (s x) xs c.loop-before.place b c.in-Some.ensures in
    let e = c.push-in-Some.ensures in
    let on : c.push-in-Some.result ≡ true = e.fits ∙ lt-ltb _ _ (omega (arith, m.1, m.3.size, c.push.ensures.size, c.requires.room, down.0)) in
    let is : contents c.push-in-Some.new.self ≡ contents c.loop-before.walk ++ get_or xs b 0 ∷ [] = e.after ∙ cond-true _ _ _ on in
    let long : length (contents c.push-in-Some.new.self) ≡ length (contents c.loop-before.walk) + 1 = e.len ∙ cond-true _ _ _ on in (
      omega (arith, m.0, down.0),
      omega (arith, long, m.1, down.0),
      omega (arith, long),
      behind_push c.push.new.self c.loop-before.walk c.push-in-Some.new.self c.push-in-Some.result (get_or xs b 0) m.3 on e.len e.size e.slots e.lent,
      λ n f inside o. (let P : List ℕ → Type 0 = Descending n s f xs (get_or xs c.args.start 0) b in
          subst P (sym is) (descending_more n s f h xs inside o (get_or xs c.args.start 0) c.loop-before.place (contents c.loop-before.walk) m.0 (m.4 n f inside o) b down.0 down.1 down.2)),
    )

pub returns-clause-path : goal.returns-clause-path
returns-clause-path g c =
    let s = g.R.StepRule.steps c.args.self.now.rule.now in
    let h = g.H.StateSet.holds c.args.goal.now in
    let xs = c.args.order.now in
    let place = c.loop-before.place in
    let x = get_or xs place 0 in
    let m = c.loop-before.invariant in
    λ n f inside o.
    descending_last n s f h xs inside o (get_or xs c.args.start 0) place (contents c.loop-before.walk) m.0 (m.4 n f inside o) (stopped (h x) (s x) xs place c.in_default.ensures)
