-- A path in a set each state of which has a move into it comes back to one of its states.
use Rattle.std.proofs.Common.{◌≡◌, ℕ, zero, suc, ◌-◌, ◌<◌, ◌≤◌, Bool, true, false, not, ◌&&◌, eqb, ◌⊎◌, List, [], ◌∷◌, ◌++◌, length, get_or, sym, refl, ap, ◌∙◌, inl, inr, ⊎_elim, arith}
use Rattle.std.proofs.lemmas.List.{get_or_append_left, get_or_push, length_push}
use Rattle.std.proofs.lemmas.Bool.{and_parts, and_from, and_right, cases_Bool, cases_eq, both_ways, eqb-true, eq-eqb, not-true, not_from_false, not_from_true}
use Rattle.semantics.specs.Sets.{any, count}
use Rattle.semantics.specs.Walks.{WalkBy}
use Rattle.semantics.proofs.Quantifiers.{any_says}
use Rattle.semantics.proofs.Counts.{count_le, count_falls}
use Rattle.semantics.proofs.Walks.{walk_one, walk_push}

module _ (n : ℕ) (steps : ℕ → ℕ → Bool) where
  -- t stands on the path
  abbrev on_path : List ℕ → ℕ → Bool
  on_path p t = any (length p) (λ i. eqb (get_or p i 0) t)

  on_path_by : (p : List ℕ) (i t : ℕ) → i < length p → get_or p i 0 ≡ t → on_path p t ≡ true
  on_path_by p i t l q = (any_says (length p) (λ i. eqb (get_or p i 0) t)).1 (i, l, eq-eqb (get_or p i 0) t q)

  on_path_found : (p : List ℕ) (t : ℕ) → on_path p t ≡ true → (i : ℕ) × (i < length p) × (get_or p i 0 ≡ t)
  on_path_found p t e = let x = (any_says (length p) (λ i. eqb (get_or p i 0) t)).0 e in (x.0, x.1, eqb-true (get_or p x.0 0) t x.2)

  module _ (z : ℕ → Bool) (closed : (s : ℕ) → z s ≡ true → (t : ℕ) × (t < n) × (z t ≡ true) × (steps s t ≡ true)) where
    -- the states of the set that are not on the path
    abbrev fresh : List ℕ → ℕ → Bool
    fresh p t = z t && not (on_path p t)

    pub record Lasso (s : ℕ) (p : List ℕ) (k : ℕ) : Type 0 where
      pub walk : WalkBy n steps s p
      pub stays : (i : ℕ) → i < length p → z (get_or p i 0) ≡ true
      pub within : k < length p
      pub returns : (i : ℕ) → suc i ≡ length p → steps (get_or p i 0) (get_or p k 0) ≡ true

    fresh_falls : (p : List ℕ) (t : ℕ) → t < n → z t ≡ true → on_path p t ≡ false →
        count n (fresh (p ++ t ∷ [])) < count n (fresh p)
    fresh_falls p t l e off =
        count_falls n (fresh (p ++ t ∷ [])) (fresh p) (λ k on. still k (and_parts (z k) _ on)) t l
        (and_right (z t) _ (not_from_true _ (on_path_by (p ++ t ∷ []) (length p) t (omega (arith, length_push p t)) (get_or_push p t 0 (length p) refl))))
        (and_from (z t) _ e (not_from_false _ off))
      where
        still : (k : ℕ) → (z k ≡ true) × (not (on_path (p ++ t ∷ []) k) ≡ true) → fresh p k ≡ true
        still k x = and_from (z k) _ x.0 (not_from_false _ (⊎_elim
            (λ on. let y = on_path_found p k on in
            absurd (both_ways _ (not-true _ x.1) (on_path_by (p ++ t ∷ []) y.0 k (omega (arith, length_push p t, y.1)) (get_or_append_left p (t ∷ []) 0 y.0 y.1 ∙ y.2))))
            (λ off. off) (cases_Bool (on_path p k))))

    record Trail (s : ℕ) (p : List ℕ) : Type 0 where
      walk : WalkBy n steps s p
      stays : (i : ℕ) → i < length p → z (get_or p i 0) ≡ true

    -- the path has come back, or goes on to a fresh state
    turn : (s : ℕ) (p : List ℕ) → Trail s p →
        ((k : ℕ) × (Lasso s p k)) ⊎ ((t : ℕ) × (Trail s (p ++ t ∷ [])) × (count n (fresh (p ++ t ∷ [])) < count n (fresh p)))
    turn s p w = go (cases_Bool (on_path p x.0))
      where
        x : (t : ℕ) × (t < n) × (z t ≡ true) × (steps (get_or p (length p - 1) 0) t ≡ true)
        x = closed (get_or p (length p - 1) 0) (w.stays (length p - 1) (omega (arith, w.walk.nonempty)))

        step : (i : ℕ) → suc i ≡ length p → steps (get_or p i 0) x.0 ≡ true
        step i m = let q : i ≡ length p - 1 = omega arith in ap (λ j. steps (get_or p j 0) x.0) q ∙ x.3

        stays : (i : ℕ) → i < length (p ++ x.0 ∷ []) → z (get_or (p ++ x.0 ∷ []) i 0) ≡ true
        stays i l = ⊎_elim
            (λ q. ap z (get_or_push p x.0 0 i (sym q)) ∙ x.2)
            (λ ne. let m : i < length p = omega (arith, ne, length_push p x.0) in ap z (get_or_append_left p (x.0 ∷ []) 0 i m) ∙ w.stays i m)
            (cases_eq i (length p))

        go : (on_path p x.0 ≡ true) ⊎ (on_path p x.0 ≡ false) →
            ((k : ℕ) × (Lasso s p k)) ⊎ ((t : ℕ) × (Trail s (p ++ t ∷ [])) × (count n (fresh (p ++ t ∷ [])) < count n (fresh p)))
        go (inl on) =
            let y = on_path_found p x.0 on in
            inl (y.0, record { walk = w.walk; stays = w.stays; within = y.1; returns = λ i m. ap (steps (get_or p i 0)) y.2 ∙ step i m })
        go (inr off) = inr (
          x.0,
          record {
            walk = walk_push n steps s x.0 p x.1 step (λ i l q. both_ways _ off (on_path_by p i x.0 l q)) w.walk;
            stays = stays;
          },
          fresh_falls p x.0 x.1 x.2 off,
        )

    lasso_from : (d s : ℕ) (p : List ℕ) → Trail s p → count n (fresh p) ≤ d → (q : List ℕ) × (k : ℕ) × (Lasso s q k)
    lasso_from zero s p w fuel = ⊎_elim (λ x. (p, x.0, x.1)) (λ x. absurd (omega (arith, x.2))) (turn s p w)
    lasso_from (suc d) s p w fuel = ⊎_elim (λ x. (p, x.0, x.1)) (λ x. lasso_from d s (p ++ x.0 ∷ []) x.1 (omega (arith, x.2))) (turn s p w)

    pub lasso : (s : ℕ) → s < n → z s ≡ true → (q : List ℕ) × (k : ℕ) × (Lasso s q k)
    lasso s l e =
        lasso_from n s (s ∷ []) (record {
          walk = walk_one n steps s l;
          stays = elim [ zero ↦ λ _. e | suc i ↦ λ m. absurd (omega arith) ];
        }) (count_le n (fresh (s ∷ [])))
