use Rattle.std.proofs.Common.{◌≡◌, ℕ, ◌<◌, true, false, eqb, List, [], ◌∷◌, ◌++◌, sym, ap, ◌∙◌, subst, arith}
use Rattle.std.proofs.lemmas.Bool.{cond-true, lt-ltb}
use Rattle.search.specs.Stack.{contents}
use Rattle.search.proofs.StackLaws.{behind_first, behind_push}
use Rattle.fixpoints.specs.Rounds.{among, lacks}
use Rattle.fixpoints.proofs.Lists.{position_none}
use Rattle.fixpoints.proofs.Loops.{Following, following_back, following_first, following_more, following_falls}
use Rattle.fixpoints.proofs.small_graph.SmallGraph.follow.Goals as goal

pub walk-init : goal.walk-init
walk-init g c =
    let n = c.args.self.now.states in
    let s = g.R.StepRule.steps c.args.self.now.rule.now in
    let z = g.S.StateSet.holds c.args.set.now in
    let P : List ℕ → Type 0 = Following n s z c.args.start c.args.start in (
      c.requires.member,
      behind_first c.args.walk.now,
      subst P (sym c.requires.begins) (following_first n s z c.args.start (c.requires.closed c.args.start c.requires.member).0 c.requires.member),
    )

-- what both needs at the end of a turn go by
module _ (g : _) (c : goal.After-push g) where
  abbrev p : List ℕ
  p = contents c.walk.walk

  abbrev to : ℕ
  to = c.lowest_inside-to.result

  fresh : among p to ≡ false
  fresh = ap (λ v. among v to) (sym c.as_slice.ensures) ∙ position_none (eqb to) c.as_slice.result.now (sym c.in_default.ensures)

  falls : lacks c.args.self.now.states (among (p ++ to ∷ [])) < lacks c.args.self.now.states (among p)
  falls = let h = c.lowest_inside-to.ensures in following_falls _ _ _ _ _ p c.walk.invariant.2 to h.0 h.1 h.2 fresh

  pushes : c.push.result ≡ true
  pushes = c.push.ensures.fits ∙ lt-ltb _ _ (omega (arith, falls, c.walk.invariant.2.few, c.walk.invariant.1.size, c.requires.room))

  longer : contents c.push.new.self ≡ p ++ to ∷ []
  longer = c.push.ensures.after ∙ cond-true _ _ _ pushes

pub walk-smaller : goal.walk-smaller
walk-smaller g c = omega (arith, falls g c, ap (λ v. lacks c.args.self.now.states (among v)) (longer g c))

pub walk-preserved : goal.walk-preserved
walk-preserved g c =
    let n = c.args.self.now.states in
    let s = g.R.StepRule.steps c.args.self.now.rule.now in
    let z = g.S.StateSet.holds c.args.set.now in
    let h = c.lowest_inside-to.ensures in
    let e = c.push.ensures in
    let P : List ℕ → Type 0 = Following n s z c.args.start (to g c) in (
      h.1,
      behind_push c.args.walk.now c.walk.walk c.push.new.self c.push.result (to g c) c.walk.invariant.1 (pushes g c) e.len e.size e.slots e.lent,
      subst P (sym (longer g c)) (following_more n s z c.args.start c.walk.last (p g c) c.walk.invariant.2 (to g c) h.0 h.1 h.2 (fresh g c)),
    )

pub returns-in-Some-clause-path : goal.returns-in-Some-clause-path
returns-in-Some-clause-path g c =
    following_back c.args.self.now.states (g.R.StepRule.steps c.args.self.now.rule.now) (g.S.StateSet.holds c.args.set.now) c.args.start c.walk.last
    (contents c.walk.walk) c.walk.invariant.2 c.lowest_inside-to.result c.in-Some.place c.lowest_inside-to.ensures.2 (rw c.as_slice.ensures at c.in-Some.ensures)
