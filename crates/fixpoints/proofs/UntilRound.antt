-- What a round of `until` does to the set.
use Rattle.std.proofs.Common.{◌≡◌, ℕ, ◌<◌, Bool, true, false, not, ◌&&◌, ◌||◌, eqb, ltb, List, [], ◌∷◌, length, sym, refl, ap, ◌∙◌, arith}
use Rattle.std.proofs.lemmas.Bool.{and_parts, both_ways, eq-eqb, false≢true, ltb-true, not-true, or_left}
use Rattle.std.proofs.lemmas.Bool.Decides.{nat_tests}
use Rattle.semantics.specs.Sets.{Same, outside, into}
use Rattle.semantics.proofs.Counts.{count_falls}
use Rattle.semantics.specs.Chains.{until_step}
use Rattle.fixpoints.specs.Rounds.{among, lacks}

-- a list that is not empty has a state
some_member : (xs : List ℕ) → not (eqb (length xs) 0) ≡ true → (k : ℕ) × (among xs k ≡ true)
some_member [] e = absurd (false≢true e)
some_member (x ∷ xs) e = (x, or_left (eqb x x) (among xs x) (eq-eqb x x refl))

no_member : (xs : List ℕ) → not (eqb (length xs) 0) ≡ false → (k : ℕ) → among xs k ≡ false
no_member [] e k = refl
no_member (x ∷ xs) e k = grind (arith, nat_tests, e)

nothing_new : (z x : Bool) → ((z || x) && not z) ≡ false → (z || x) ≡ z
nothing_new true x e = refl
nothing_new false true e = e
nothing_new false false e = refl

pub new_below : (z l x : Bool) → z ≡ false → (z || (l && x)) ≡ true → l ≡ true
new_below true l x e h = absurd (false≢true (sym e))
new_below false true x e h = refl
new_below false false x e h = h

keeps : (z w x : Bool) → w ≡ (z || x) → not w ≡ true → not z ≡ true
keeps true w x e h = grind (arith, e, h)
keeps false w x e h = refl

-- w is z after a round, and xs are the states that came in
module _ (n : ℕ) (steps : ℕ → ℕ → Bool) (f z w : ℕ → Bool) (xs : List ℕ) (more : Bool)
    (is : Same w (until_step n steps f z)) (new : Same (among xs) (λ k. w k && not (z k))) (told : more ≡ not (eqb (length xs) 0)) where
  comes : more ≡ true → (k : ℕ) × (k < n) × (z k ≡ false) × (w k ≡ true)
  comes e =
      let r = some_member xs (sym told ∙ e) in
      let k = r.0 in
      let ps = and_parts (w k) (not (z k)) (sym (new k) ∙ r.1) in
      let off : z k ≡ false = not-true (z k) ps.1 in
      (k, ltb-true k n (new_below (z k) (ltb k n) (f k && into n steps z k) off (sym (is k) ∙ ps.0)), off, ps.0)

  -- where none came in, the set stays the same
  pub until_stays : more ≡ false → Same (until_step n steps f z) z
  until_stays e k =
      let none : (w k && not (z k)) ≡ false = sym (new k) ∙ no_member xs (sym told ∙ e) k in
      nothing_new (z k) (ltb k n && (f k && into n steps z k)) (ap (λ v. v && not (z k)) (sym (is k)) ∙ none)

  -- where some came in, it changed, and lacks fewer
  pub until_changes : more ≡ true → Same (until_step n steps f z) z → ⊥
  until_changes e same = let r = comes e in both_ways (z r.0) r.2 (sym (same r.0) ∙ sym (is r.0) ∙ r.3)

  pub until_falls : more ≡ true → lacks n w < lacks n z
  until_falls e =
      let r = comes e in
      count_falls n (outside w) (outside z)
      (λ j h. keeps (z j) (w j) (ltb j n && (f j && into n steps z j)) (is j) h)
      r.0 r.1 (ap not r.3) (ap not r.2)
