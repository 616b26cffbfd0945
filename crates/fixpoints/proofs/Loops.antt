-- A path of steps inside a set, until one leads back to it.
use Rattle.std.proofs.Common.{◌≡◌, ℕ, zero, suc, ◌+◌, ◌<◌, ◌≤◌, Bool, true, false, eqb, List, [], ◌∷◌, ◌++◌, length, get_or, take, Some, None, Option, IsSome, sym, refl, ap, ◌∙◌, subst, inl, inr, arith}
use Rattle.std.proofs.Math.Bool.{or_comm}
use Rattle.std.proofs.lemmas.List.{get_or_append_left, get_or_push, length_push}
use Rattle.std.proofs.lemmas.Bool.{both_ways, cases_eq}
use Rattle.std.specs.List.{position}
use Rattle.search.specs.Next.{FirstStep}
use Rattle.search.specs.Stack.{contents, Behind}
use Rattle.search.specs.declared.stack.Stack.{Stack}
use Rattle.search.proofs.FirstSteps.{first_none}
use Rattle.semantics.specs.Chains.{globally_chain, settled}
use Rattle.semantics.specs.Sets.{outside}
use Rattle.semantics.specs.Walks.{WalkBy, LoopingBy}
use Rattle.semantics.proofs.Counts.{count_le}
use Rattle.semantics.proofs.Walks.{walk_one, walk_push}
use Rattle.fixpoints.specs.Rounds.{among, lacks}
use Rattle.fixpoints.specs.Searches.{Inside}
use Rattle.fixpoints.specs.Witnesses.{In, PathBack}
use Rattle.fixpoints.proofs.Adding.{lacks_falls}
use Rattle.fixpoints.proofs.Fronts.{front_of}
use Rattle.fixpoints.proofs.Lists.{among_push, place_found}
use Rattle.fixpoints.proofs.Orders.{among_at}

module _ (n : ℕ) (steps : ℕ → ℕ → Bool) (z : ℕ → Bool) where
  -- a state that leads into the set has a first step
  pub first_inside : (s : ℕ) (r : Option ℕ) → Inside n steps z z → z s ≡ true → FirstStep n steps z s 0 r → IsSome r
  first_inside s (Some t) closed on h = refl
  first_inside s None closed on h = absurd (both_ways _ (first_none n steps z s 0 refl h) (closed s on).2)

  -- the path p has come from s to t inside the set
  pub record Following (s t : ℕ) (p : List ℕ) : Type 0 where
    pub walk : WalkBy n steps s p
    pub here : (i : ℕ) → suc i ≡ length p → get_or p i 0 ≡ t
    pub stays : (i : ℕ) → i < length p → z (get_or p i 0) ≡ true
    pub few : length p + lacks n (among p) ≤ n

  one_fewer : (p : List ℕ) (t : ℕ) → t < n → among p t ≡ false → lacks n (among (p ++ t ∷ [])) < lacks n (among p)
  one_fewer p t l off = lacks_falls n t (among p) (among (p ++ t ∷ [])) l off (λ k. among_push p (p ++ t ∷ []) t refl k ∙ or_comm (among p k) (eqb k t))

  pub following_first : (s : ℕ) → s < n → z s ≡ true → Following s s (s ∷ [])
  following_first s l on = record {
    walk = walk_one n steps s l;
    here = elim [ zero ↦ λ _. refl | suc i ↦ λ m. absurd (omega arith) ];
    stays = elim [ zero ↦ λ _. on | suc i ↦ λ m. absurd (omega arith) ];
    few = omega (arith, one_fewer [] s l refl, count_le n (outside (among [])));
  }

  -- where t leads back to the path
  pub following_back : (s t : ℕ) (p : List ℕ) → Following s t p → (u place : ℕ) → steps t u ≡ true → Some place ≡ position (eqb u) p →
      LoopingBy n steps (In z) s (record { path = p; place = Some place })
  following_back s t p m u place step e =
      let at = place_found p u place e in
      record { at = place; is_place = refl; within = at.0; walk = m.walk; throughout = m.stays; returns = λ i l. rw (m.here i l, at.1) step }

  module _ (s t : ℕ) (p : List ℕ) (m : Following s t p) (u : ℕ) (l : u < n) (on : z u ≡ true) (step : steps t u ≡ true) where
    pub following_falls : among p u ≡ false → lacks n (among (p ++ u ∷ [])) < lacks n (among p)
    following_falls off = one_fewer p u l off

    pub following_more : among p u ≡ false → Following s u (p ++ u ∷ [])
    following_more off = record {
      walk = walk_push n steps s u p l (λ i e. ap (λ v. steps v u) (m.here i e) ∙ step) (λ i k e. both_ways (among p u) off (ap (among p) (sym e) ∙ among_at p i k)) m.walk;
      here = λ i e. get_or_push p u 0 i (omega (arith, length_push p u, e));
      stays = λ i k. elim (cases_eq i (length p)) [
        | inl e ↦ ap z (get_or_push p u 0 i (sym e)) ∙ on
        | inr ne ↦ (let in_p : i < length p = omega (arith, ne, length_push p u) in ap z (get_or_append_left p (u ∷ []) 0 i in_p) ∙ m.stays i in_p)
      ];
      few = omega (arith, m.few, length_push p u, one_fewer p u l off);
    }

-- the path in a buffer that a stack w was laid over
pub loop_found : (n : ℕ) (steps : ℕ → ℕ → Bool) (f z : ℕ → Bool) (s : ℕ) (old : List ℕ) (v w : Stack ℕ) (k place : ℕ) → settled n (globally_chain n steps f) s ≡ true →
    Inside n steps f z → v.slots.now ≡ old → Behind v w → k ≡ length (contents w) → take k w.slots.now ≡ contents w →
    LoopingBy n steps (In z) s (record { path = contents w; place = Some place }) → PathBack n steps f s old w.slots.now (Some (record { length = k; place = place }))
loop_found n steps f z s old v w k place on inside first b len front r =
    let P : List ℕ → Type 0 = λ p. LoopingBy n steps (In f) s (record { path = p; place = Some place }) in (
      on,
      front_of old v w k first b len,
      subst P (sym front) (record {
        at = r.at;
        is_place = r.is_place;
        within = r.within;
        walk = r.walk;
        throughout = λ i l. (inside _ (r.throughout i l)).1;
        returns = r.returns;
      }),
    )
