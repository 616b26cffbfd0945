-- Paths without repetition, and the path of until through ever lower sets of its chain.
use Rattle.std.proofs.Common.{◌≡◌, ℕ, zero, suc, ◌<◌, Bool, true, false, ◌&&◌, ltb, ◌⊎◌, List, [], ◌∷◌, ◌++◌, length, get_or, sym, refl, ap, ◌∙◌, inl, inr, ⊎_elim, arith}
use Rattle.std.proofs.lemmas.List.{get_or_append_left, get_or_push, length_push}
use Rattle.std.proofs.lemmas.Bool.{and_parts, or_cases, or_left, cases_Bool, cases_eq, both_ways, ltb-true}
use Rattle.semantics.specs.Sets.{into}
use Rattle.semantics.specs.Chains.{until_chain}
use Rattle.semantics.specs.Walks.{WalkBy}
use Rattle.semantics.proofs.Quantifiers.{any_says}

module _ (n : ℕ) (steps : ℕ → ℕ → Bool) where
  pub walk_one : (s : ℕ) → s < n → WalkBy n steps s (s ∷ [])
  walk_one s l = record {
    nonempty = omega arith;
    begins = refl;
    inside = elim [ zero ↦ λ _. l | suc i ↦ λ k. absurd (omega arith) ];
    follows = λ i k. absurd (omega arith);
    once = λ i j k m. absurd (omega arith);
  }

  -- a state that is not on the path, put before it
  walk_cons : (s t : ℕ) (p : List ℕ) → s < n → steps s t ≡ true → ((i : ℕ) → i < length p → get_or p i 0 ≡ s → ⊥) → WalkBy n steps t p → WalkBy n steps s (s ∷ p)
  walk_cons s t p l e new w = record {
    nonempty = omega arith;
    begins = refl;
    inside = elim [ zero ↦ λ _. l | suc i ↦ λ k. w.inside i (omega arith) ];
    follows = elim [ zero ↦ λ k. ap (steps s) w.begins ∙ e | suc i ↦ λ k. w.follows i (omega arith) ];
    once = again;
  }
    where
      again : (i j : ℕ) → i < j → j < length (s ∷ p) → get_or (s ∷ p) i 0 ≡ get_or (s ∷ p) j 0 → ⊥
      again i zero k m q = omega arith
      again zero (suc j) k m q = new j (omega arith) (sym q)
      again (suc i) (suc j) k m q = w.once i j (omega arith) (omega arith) q

  -- a state that is not on the path, put behind it
  pub walk_push : (s t : ℕ) (p : List ℕ) → t < n → ((i : ℕ) → suc i ≡ length p → steps (get_or p i 0) t ≡ true) →
      ((i : ℕ) → i < length p → get_or p i 0 ≡ t → ⊥) → WalkBy n steps s p → WalkBy n steps s (p ++ t ∷ [])
  walk_push s t p l e new w = record {
    nonempty = omega (arith, length_push p t);
    begins = old 0 w.nonempty ∙ w.begins;
    inside = λ i k. ⊎_elim (λ q. rw (at_end i q) l) (λ ne. rw (old i (omega (arith, ne, length_push p t))) (w.inside i (omega (arith, ne, length_push p t)))) (cases_eq i (length p));
    follows = λ i k. ⊎_elim
        (λ q. rw (old i (omega arith), at_end (suc i) q) (e i q))
        (λ ne. rw (old i (omega (arith, ne, length_push p t)), old (suc i) (omega (arith, ne, length_push p t))) (w.follows i (omega (arith, ne, length_push p t))))
        (cases_eq (suc i) (length p));
    once = λ i j k m q. ⊎_elim
        (λ z. new i (omega arith) (sym (old i (omega arith)) ∙ q ∙ at_end j z))
        (λ ne. w.once i j k (omega (arith, ne, length_push p t)) (sym (old i (omega (arith, ne, length_push p t))) ∙ q ∙ old j (omega (arith, ne, length_push p t))))
        (cases_eq j (length p));
  }
    where
      old : (i : ℕ) → i < length p → get_or (p ++ t ∷ []) i 0 ≡ get_or p i 0
      old i k = get_or_append_left p (t ∷ []) 0 i k

      at_end : (i : ℕ) → i ≡ length p → get_or (p ++ t ∷ []) i 0 ≡ t
      at_end i q = get_or_push p t 0 i (sym q)

  module _ (a b : ℕ → Bool) where
    abbrev Z : ℕ → ℕ → Bool
    Z = until_chain n steps a b

    pub record Descent (k s : ℕ) (p : List ℕ) : Type 0 where
      pub walk : WalkBy n steps s p
      pub low : (i : ℕ) → i < length p → Z k (get_or p i 0) ≡ true
      pub before : (i : ℕ) → suc i < length p → a (get_or p i 0) ≡ true
      pub last : (i : ℕ) → suc i ≡ length p → b (get_or p i 0) ≡ true

    pub descent : (k s : ℕ) → Z k s ≡ true → (p : List ℕ) × (Descent k s p)
    descent zero s e =
        let x = and_parts (ltb s n) (b s) e in (
          s ∷ [],
          record {
            walk = walk_one s (ltb-true s n x.0);
            low = elim [ zero ↦ λ _. e | suc i ↦ λ k. absurd (omega arith) ];
            before = λ i k. absurd (omega arith);
            last = elim [ zero ↦ λ _. x.1 | suc i ↦ λ k. absurd (omega arith) ];
          },
        )
    descent (suc k) s e = go (cases_Bool (Z k s)) (descent k)
      where
        onward : (t : ℕ) → a s ≡ true → s < n → steps s t ≡ true → Z k s ≡ false → (p : List ℕ) → Descent k t p → Descent (suc k) s (s ∷ p)
        onward t on l step off p d = record {
          walk = walk_cons s t p l step (λ i m q. both_ways (Z k s) off (ap (Z k) (sym q) ∙ d.low i m)) d.walk;
          low = elim [ zero ↦ λ _. e | suc i ↦ λ m. or_left (Z k (get_or p i 0)) _ (d.low i (omega arith)) ];
          before = elim [ zero ↦ λ _. on | suc i ↦ λ m. d.before i (omega arith) ];
          last = elim [ zero ↦ λ m. absurd (omega (arith, d.walk.nonempty)) | suc i ↦ λ m. d.last i (omega arith) ];
        }

        go : (Z k s ≡ true) ⊎ (Z k s ≡ false) → ((t : ℕ) → Z k t ≡ true → (p : List ℕ) × (Descent k t p)) → (p : List ℕ) × (Descent (suc k) s p)
        go (inl on) rec =
            let r = rec s on in
            (r.0, record { walk = r.1.walk; low = λ i l. or_left (Z k (get_or r.0 i 0)) _ (r.1.low i l); before = r.1.before; last = r.1.last })
        go (inr off) rec =
            let new = ⊎_elim (λ on. absurd (both_ways (Z k s) off on)) (λ x. and_parts (ltb s n) _ x) (or_cases (Z k s) _ e) in
            let y = and_parts (a s) (into n steps (Z k) s) new.1 in
            let x = (any_says n (λ t. Z k t && steps s t)).0 y.1 in
            let step = and_parts (Z k x.0) (steps s x.0) x.2 in
            let r = rec x.0 step.0 in
            (s ∷ r.0, onward x.0 y.0 (ltb-true s n new.0) step.1 off r.0 r.1)
