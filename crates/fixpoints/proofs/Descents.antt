-- A path from a state of an ordered list to ever earlier ones.
use Rattle.std.proofs.Common.{◌≡◌, ℕ, zero, suc, ◌<◌, ◌≤◌, Bool, true, false, cond, not, ◌&&◌, ◌||◌, ltb, List, [], ◌∷◌, ◌++◌, length, get_or, take, Some, None, sym, refl, ap, ◌∙◌, subst, inl, inr, arith, length-take}
use Rattle.std.proofs.lemmas.List.{get_or_append_left, get_or_push, get_or-take, length_push}
use Rattle.std.proofs.lemmas.List.Quantifiers.{position-Some}
use Rattle.std.proofs.lemmas.Option.{none-some}
use Rattle.std.proofs.lemmas.Bool.{and_parts, both_ways, cases_eq, false≢true, ltb-true, not_from_false, or_cases}
use Rattle.std.specs.List.{list_any, position}
use Rattle.search.specs.Stack.{contents, Behind}
use Rattle.search.specs.declared.stack.Stack.{Stack}
use Rattle.semantics.specs.Chains.{until_chain, rounds, settled}
use Rattle.semantics.specs.Sets.{into}
use Rattle.semantics.specs.Walks.{WalkBy, ReachingBy}
use Rattle.semantics.proofs.Walks.{walk_one, walk_push}
use Rattle.fixpoints.specs.Rounds.{among, into_list, Ordered}
use Rattle.fixpoints.specs.Witnesses.{In, PathTo}
use Rattle.fixpoints.proofs.Fronts.{front_of}
use Rattle.fixpoints.proofs.Lists.{position_none}
use Rattle.fixpoints.proofs.Orders.{among_at}

-- the path p has come from s to the state at a place of the list xs, through states of f at later places
pub record Descending (n : ℕ) (steps : ℕ → ℕ → Bool) (f : ℕ → Bool) (xs : List ℕ) (s place : ℕ) (p : List ℕ) : Type 0 where
  pub walk : WalkBy n steps s p
  pub here : (i : ℕ) → suc i ≡ length p → get_or p i 0 ≡ get_or xs place 0
  pub before : (i : ℕ) → suc i < length p → f (get_or p i 0) ≡ true
  pub above : (i : ℕ) → i < length p → (j : ℕ) × (place ≤ j) × (j < length xs) × (get_or xs j 0 ≡ get_or p i 0)

-- no state stands at two places of an ordered list
once : (steps : ℕ → ℕ → Bool) (f h : ℕ → Bool) (xs : List ℕ) → Ordered steps f h xs → (i j : ℕ) → i < j → j < length xs → get_or xs i 0 ≡ get_or xs j 0 → ⊥
once steps f h xs o i j lt l e =
    both_ways (among (take j xs) (get_or xs j 0)) (o.new j l)
    (ap (among (take j xs)) (sym e ∙ sym (get_or-take j xs i 0 lt)) ∙ among_at (take j xs) i (omega (arith, length-take j xs)))

-- where a path goes on: not from h, to an earlier place that it leads to
pub went_on : (on : Bool) (p : ℕ → Bool) (xs : List ℕ) (place b : ℕ) → Some b ≡ cond on None (position p (take place xs)) → (b < place) × (on ≡ false) × (p (get_or xs b 0) ≡ true)
went_on true p xs place b e = absurd (none-some b (sym e))
went_on false p xs place b e =
    let r = position-Some p (take place xs) b 0 (sym e) in
    let lt : b < place = omega (arith, r.0, length-take place xs) in
    (lt, refl, ap p (sym (get_or-take place xs b 0 lt)) ∙ r.1)

-- where it does not: it is at h, or leads to no earlier place
pub stopped : (on : Bool) (p : ℕ → Bool) (xs : List ℕ) (place : ℕ) → None ≡ cond on None (position p (take place xs)) → (on || not (list_any p (take place xs))) ≡ true
stopped true p xs place e = refl
stopped false p xs place e = not_from_false _ (position_none p (take place xs) (sym e))

-- where a path cannot go on, it has come to h
pub at_goal : (a b c : Bool) → (a || (b && c)) ≡ true → (a || not c) ≡ true → a ≡ true
at_goal true b c e d = refl
at_goal false b true e d = d
at_goal false true false e d = e
at_goal false false false e d = e

-- where it can, it stands on f
through : (a b c : Bool) → (a || (b && c)) ≡ true → a ≡ false → b ≡ true
through true b c e d = absurd (false≢true (sym d))
through false true c e d = refl
through false false c e d = e

module _ (n : ℕ) (steps : ℕ → ℕ → Bool) (f h : ℕ → Bool) (xs : List ℕ) (inside : (k : ℕ) → among xs k ≡ true → k < n) (o : Ordered steps f h xs) where
  pub descending_first : (place : ℕ) → place < length xs → Descending n steps f xs (get_or xs place 0) place (get_or xs place 0 ∷ [])
  descending_first place l = record {
    walk = walk_one n steps (get_or xs place 0) (inside _ (among_at xs place l));
    here = elim [ zero ↦ λ _. refl | suc i ↦ λ m. absurd (omega arith) ];
    before = λ i m. absurd (omega arith);
    above = elim [ zero ↦ λ _. (place, omega arith, l, refl) | suc i ↦ λ m. absurd (omega arith) ];
  }

  module _ (s place : ℕ) (p : List ℕ) (l : place < length xs) (m : Descending n steps f xs s place p) where
    pub descending_more : (b : ℕ) → b < place → h (get_or xs place 0) ≡ false → steps (get_or xs place 0) (get_or xs b 0) ≡ true →
        Descending n steps f xs s b (p ++ get_or xs b 0 ∷ [])
    descending_more b lt off step = record {
      walk = walk_push n steps s t p (inside t (among_at xs b (omega arith))) (λ i e. ap (λ v. steps v t) (m.here i e) ∙ step) fresh m.walk;
      here = λ i e. get_or_push p t 0 i (omega (arith, length_push p t, e));
      before = λ i k. elim (cases_eq (suc i) (length p)) [
        | inl e ↦ ap f (old i (omega arith) ∙ m.here i e) ∙ through (h (get_or xs place 0)) (f (get_or xs place 0)) _ (o.grounded place l) off
        | inr ne ↦ ap f (old i (omega (arith, ne, length_push p t))) ∙ m.before i (omega (arith, ne, length_push p t))
      ];
      above = λ i k. elim (cases_eq i (length p)) [
        | inl e ↦ (b, omega arith, omega arith, sym (get_or_push p t 0 i (sym e)))
        | inr ne ↦ (let in_p : i < length p = omega (arith, ne, length_push p t) in
            let a = m.above i in_p in (a.0, omega (arith, a.1), a.2, a.3 ∙ sym (old i in_p)))
      ];
    }
      where
        t : ℕ
        t = get_or xs b 0

        old : (i : ℕ) → i < length p → get_or (p ++ t ∷ []) i 0 ≡ get_or p i 0
        old i k = get_or_append_left p (t ∷ []) 0 i k

        fresh : (i : ℕ) → i < length p → get_or p i 0 ≡ t → ⊥
        fresh i k e = let a = m.above i k in once steps f h xs o b a.0 (omega (arith, a.1)) a.2 (sym (a.3 ∙ e))

    pub descending_last : (h (get_or xs place 0) || not (into_list steps (take place xs) (get_or xs place 0))) ≡ true →
        ReachingBy n steps (In f) (In h) s (record { path = p; place = None })
    descending_last stop = record {
      no_place = refl;
      walk = m.walk;
      before = m.before;
      last = λ i e. ap h (m.here i e) ∙ at_goal (h (get_or xs place 0)) (f (get_or xs place 0)) (into_list steps (take place xs) (get_or xs place 0)) (o.grounded place l) stop;
    }

-- the states of the chain are below n
until_below : (n : ℕ) (steps : ℕ → ℕ → Bool) (f h : ℕ → Bool) (i k : ℕ) → until_chain n steps f h i k ≡ true → k < n
until_below n steps f h zero k e = ltb-true k n (and_parts (ltb k n) (h k) e).0
until_below n steps f h (suc i) k e = elim (or_cases (until_chain n steps f h i k) (ltb k n && (f k && into n steps (until_chain n steps f h i) k)) e) [
  | inl old ↦ until_below n steps f h i k old
  | inr new ↦ ltb-true k n (and_parts (ltb k n) _ new).0
]

pub settled_below : (n : ℕ) (steps : ℕ → ℕ → Bool) (f h : ℕ → Bool) (k : ℕ) → settled n (until_chain n steps f h) k ≡ true → k < n
unfolding settled
settled_below n steps f h k e = until_below n steps f h (rounds n (until_chain n steps f h)) k e

-- the path in a buffer that a stack w was laid over
pub path_found : (n : ℕ) (steps : ℕ → ℕ → Bool) (f h : ℕ → Bool) (s : ℕ) (old : List ℕ) (v w : Stack ℕ) (k : ℕ) → settled n (until_chain n steps f h) s ≡ true →
    v.slots.now ≡ old → Behind v w → k ≡ length (contents w) → take k w.slots.now ≡ contents w →
    ReachingBy n steps (In f) (In h) s (record { path = contents w; place = None }) → PathTo n steps f h s old w.slots.now (Some k)
path_found n steps f h s old v w k on first b len front r =
    let P : List ℕ → Type 0 = λ p. ReachingBy n steps (In f) (In h) s (record { path = p; place = None }) in
    (on, front_of old v w k first b len, subst P (sym front) r)
