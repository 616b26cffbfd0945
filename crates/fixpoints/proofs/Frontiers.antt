-- The frontier of `until`: the states that the last round added.
use Rattle.std.proofs.Common.{◌≡◌, ℕ, Bool, true, false, not, ◌&&◌, ◌||◌, eqb, ltb, List, [], ◌∷◌, sym, refl, ap, ◌∙◌, inl, inr}
use Rattle.std.proofs.lemmas.Bool.{and_from, and_parts, both_ways, cases_Bool, eq-eqb, false≢true, lt-ltb, ltb-true, not_from_false, not-true, or_cases, or_left, or_right}
use Rattle.semantics.specs.Sets.{Same, below, into}
use Rattle.sets.proofs.MemberLaws.{same_from}
use Rattle.semantics.specs.Chains.{until_step}
use Rattle.fixpoints.specs.Rounds.{among, into_list, list_below, Frontier}
use Rattle.fixpoints.proofs.Lists.{among_below}
use Rattle.fixpoints.proofs.Orders.{into_at}
use Rattle.semantics.proofs.Quantifiers.{any_at, any_found}
use Rattle.fixpoints.proofs.UntilRound.{new_below}

into_found : (steps : ℕ → ℕ → Bool) (xs : List ℕ) (k : ℕ) → into_list steps xs k ≡ true → (t : ℕ) × (among xs t ≡ true) × (steps k t ≡ true)
into_found steps [] k e = absurd (false≢true e)
into_found steps (x ∷ xs) k e = elim (or_cases (steps k x) (into_list steps xs k) e) [
  | inl q ↦ (x, or_left (eqb x x) (among xs x) (eq-eqb x x refl), q)
  | inr q ↦ (let r = into_found steps xs k q in (r.0, or_right (eqb r.0 x) (among xs r.0) r.1, r.2))
]

same_step : (z l f i j : Bool) → (z ≡ false → l ≡ true → f ≡ true → i ≡ j) → (z || (l && (f && i))) ≡ (z || (l && (f && j)))
same_step true l f i j h = refl
same_step false true true i j h = h refl refl refl
same_step false true false i j h = refl
same_step false false f i j h = refl

module _ (n : ℕ) (steps : ℕ → ℕ → Bool) (f z : ℕ → Bool) (xs : List ℕ) where
  -- the steps to the frontier are all that a round needs
  pub frontier_step : Frontier n steps f z xs → (k : ℕ) → (z k || below n (λ s. f s && into_list steps xs s) k) ≡ until_step n steps f z k
  frontier_step h k = same_step (z k) (ltb k n) (f k) (into_list steps xs k) (into n steps z k) (λ off l on.
      same_from (into_list steps xs k) (into n steps z k)
      (λ e. let r = into_found steps xs k e in let m = h.sound r.0 r.1 in
      any_at n (λ t. z t && steps k t) r.0 m.0 (and_from (z r.0) (steps k r.0) m.1 r.2))
      (λ e. h.covers k (ltb-true k n l) (and_from (not (z k)) (f k && into n steps z k) (not_from_false (z k) off) (and_from (f k) (into n steps z k) on e))))

  -- at first it is the whole set
  pub frontier_first : xs ≡ list_below n z → Frontier n steps f z xs
  frontier_first is =
      let has : (k : ℕ) → among xs k ≡ (ltb k n && z k) = λ k. ap (λ ys. among ys k) is ∙ among_below n z k in
      record {
        sound = λ k e. (let ps = and_parts (ltb k n) (z k) (sym (has k) ∙ e) in (ltb-true k n ps.0, ps.1));
        covers = λ k lt e.
            let enters = and_parts (f k) (into n steps z k) (and_parts (not (z k)) (f k && into n steps z k) e).1 in
            let r = any_found n (λ t. z t && steps k t) enters.1 in
            let ps = and_parts (z r.0) (steps k r.0) r.2 in
            into_at steps xs k r.0 (has r.0 ∙ and_from (ltb r.0 n) (z r.0) (lt-ltb r.0 n r.1) ps.0) ps.1;
      }

-- after a round it is what the round added
pub frontier_next : (n : ℕ) (steps : ℕ → ℕ → Bool) (f z w : ℕ → Bool) (ys : List ℕ)
    → Same w (until_step n steps f z) → Same (among ys) (λ k. w k && not (z k)) → Frontier n steps f w ys
frontier_next n steps f z w ys is new = record {
  sound = λ k e.
      let ps = and_parts (w k) (not (z k)) (sym (new k) ∙ e) in
      (ltb-true k n (new_below (z k) (ltb k n) (f k && into n steps z k) (not-true (z k) ps.1) (sym (is k) ∙ ps.0)), ps.0);
  covers = λ k lt e.
      let ps = and_parts (not (w k)) (f k && into n steps w k) e in
      let enters = and_parts (f k) (into n steps w k) ps.1 in
      let r = any_found n (λ t. w t && steps k t) enters.1 in
      let t = r.0 in
      let qs = and_parts (w t) (steps k t) r.2 in
      elim (cases_Bool (z t)) [
        | inl old ↦ (let before : into n steps z k ≡ true = any_at n (λ u. z u && steps k u) t r.1 (and_from (z t) (steps k t) old qs.1) in
            absurd (both_ways (w k) (not-true (w k) ps.0)
            (is k ∙ or_right (z k) (ltb k n && (f k && into n steps z k)) (and_from (ltb k n) (f k && into n steps z k) (lt-ltb k n lt) (and_from (f k) (into n steps z k) enters.0 before)))))
        | inr off ↦ into_at steps ys k t (new t ∙ and_from (w t) (not (z t)) qs.0 (not_from_false (z t) off)) qs.1
      ];
}
