-- A chain whose measure falls at each change settles.
use Rattle.std.proofs.Common.{◌≡◌, ℕ, zero, suc, ◌+◌, ◌-◌, ◌<◌, ◌≤◌, Bool, true, false, ◌&&◌, ◌||◌, ltb, sym, refl, ◌∙◌, ⊎_elim, arith}
use Rattle.std.proofs.lemmas.Bool.{cases_Bool, cases_lt, both_ways, and_parts, and_left, or_left, or_from, le-ltb}
use Rattle.semantics.specs.Sets.{Same, below, count, same, least}
use Rattle.semantics.specs.Chains.{iterate, until_step, until_chain, globally_step, globally_chain, rounds, settled}
use Rattle.semantics.specs.Settling.{Settles, UntilSettles, GloballySettles}
use Rattle.semantics.proofs.Quantifiers.{same_says, differ, least_le, least_at, least_before}
use Rattle.semantics.proofs.Counts.{count_le, count_falls}

module _ (n : ℕ) (step : (ℕ → Bool) → ℕ → Bool) (start : ℕ → Bool) (size : (ℕ → Bool) → ℕ)
    (falls : (z : ℕ → Bool) → same n (step z) z ≡ false → size (step z) < size z) (small : size start ≤ n)
    (low : (k s : ℕ) → n ≤ s → iterate step start k s ≡ false) where
  abbrev Z : ℕ → ℕ → Bool
  Z = iterate step start

  abbrev still : ℕ → Bool
  still k = same n (Z (suc k)) (Z k)

  fallen : (k : ℕ) → ((j : ℕ) → j < k → still j ≡ false) → size (Z k) + k ≤ size start
  fallen zero f = omega arith
  fallen (suc k) f = omega (arith, fallen k (λ j l. f j (omega arith)), falls (Z k) (f k (omega arith)))

  still_at : still (least n still) ≡ true
  still_at = ⊎_elim (λ e. e) (λ e. absurd (never e)) (cases_Bool (still (least n still)))
    where
      never : still (least n still) ≡ false → ⊥
      never e = ⊎_elim (λ l. both_ways _ e (least_at n still l))
          (λ g. omega (arith, g, fallen (least n still) (least_before n still), falls (Z (least n still)) e, small))
          (cases_lt (least n still) n)

  outward : (m w : ℕ → Bool) → ((s : ℕ) → n ≤ s → m s ≡ false) → ((s : ℕ) → n ≤ s → w s ≡ false) → same n m w ≡ true → Same m w
  outward m w f g e s = ⊎_elim ((same_says n m w).0 e s) (λ l. f s l ∙ sym (g s l)) (cases_lt s n)

  settles : Settles n Z (settled n Z) (rounds n Z)
  unfolding rounds settled
  settles = record {
    reached = λ k. refl;
    settled = outward (Z (suc (least n still))) (Z (least n still)) (low (suc (least n still))) (low (least n still)) still_at;
    least = λ j l e. both_ways _ (least_before n still j l) ((same_says n (Z (suc j)) (Z j)).1 (λ s _. e s));
    bound = least_le n still;
  }

grows : (z w x : Bool) → w ≡ (z || x) → (w ≡ z → ⊥) → (z ≡ false) × (w ≡ true)
grows true w x e d = absurd (d e)
grows false true x e d = (refl, refl)
grows false false x e d = absurd (d refl)

shrinks : (z w x : Bool) → w ≡ (z && x) → (w ≡ z → ⊥) → (w ≡ false) × (z ≡ true)
shrinks true true x e d = absurd (d refl)
shrinks true false x e d = (refl, refl)
shrinks false w x e d = absurd (d e)

module _ (n : ℕ) (steps : ℕ → ℕ → Bool) (f h : ℕ → Bool) where
  pub until_low : (k s : ℕ) → n ≤ s → until_chain n steps f h k s ≡ false
  until_low zero s l = and_left (ltb s n) (h s) (le-ltb s n l)
  until_low (suc k) s l = or_from (until_chain n steps f h k s) _ (until_low k s l) (and_left (ltb s n) _ (le-ltb s n l))

  pub globally_low : (k s : ℕ) → n ≤ s → globally_chain n steps f k s ≡ false
  globally_low zero s l = and_left (ltb s n) (f s) (le-ltb s n l)
  globally_low (suc k) s l = and_left (globally_chain n steps f k s) _ (globally_low k s l)

  until_falls : (z : ℕ → Bool) → same n (until_step n steps f z) z ≡ false → n - count n (until_step n steps f z) < n - count n z
  until_falls z e =
      let d = differ n (until_step n steps f z) z e in
      let g = grows (z d.0) (until_step n steps f z d.0) _ refl d.2 in
      omega (
        arith,
        count_le n (until_step n steps f z),
        count_falls n z (until_step n steps f z) (λ k on. or_left (z k) _ on) d.0 d.1 g.0 g.1,
      )

  globally_falls : (z : ℕ → Bool) → same n (globally_step n steps z) z ≡ false → count n (globally_step n steps z) < count n z
  globally_falls z e =
      let d = differ n (globally_step n steps z) z e in
      let g = shrinks (z d.0) (globally_step n steps z d.0) _ refl d.2 in
      count_falls n (globally_step n steps z) z (λ k on. (and_parts (z k) _ on).0) d.0 d.1 g.0 g.1

pub until_settles : UntilSettles
until_settles n steps f h =
    settles n (until_step n steps f) (below n h) (λ z. n - count n z) (until_falls n steps f h) (omega arith) (until_low n steps f h)

pub globally_settles : GloballySettles
globally_settles n steps f =
    settles n (globally_step n steps) (below n f) (count n) (globally_falls n steps f f) (count_le n (below n f)) (globally_low n steps f f)
