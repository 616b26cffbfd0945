-- What a round of `globally` does to the set.
use Rattle.std.proofs.Common.{◌≡◌, ℕ, zero, suc, ◌<◌, Bool, true, false, not, ◌&&◌, ltb, sym, refl, ap, ◌∙◌, inl, inr}
use mathlib.Core.Path.{fun_ext}
use Rattle.std.proofs.lemmas.Bool.{cases_Bool, and_parts, and_right, not-true, ltb-true, both_ways}
use Rattle.semantics.specs.Sets.{Same, count, below, any, into}
use Rattle.semantics.proofs.Counts.{count_falls}
use Rattle.fixpoints.specs.Searches.{Inside}
use Rattle.semantics.specs.Chains.{globally_step, globally_chain}
use Rattle.semantics.specs.Settling.{Settles}
use Rattle.fixpoints.specs.Rounds.{leaving}
use Rattle.semantics.proofs.Quantifiers.{any_found, any_none}

stay : (z i : Bool) → (z && not i) ≡ false → (z && i) ≡ z
stay true true e = refl
stay true false e = sym e
stay false i e = refl

-- taking out those below n that leave keeps the others
pub round_keeps : (l z i : Bool) → (z ≡ true → l ≡ true) → (not (l && (z && not i)) && z) ≡ (z && i)
round_keeps true true true h = refl
round_keeps true true false h = refl
round_keeps true false i h = refl
round_keeps false true i h = absurd (both_ways false refl (h refl))
round_keeps false false i h = refl

module _ (n : ℕ) (steps : ℕ → ℕ → Bool) (z : ℕ → Bool) (more : Bool) (told : more ≡ any n (leaving n steps z)) where
  goes : more ≡ true → (k : ℕ) × (k < n) × (z k ≡ true) × (globally_step n steps z k ≡ false)
  goes e =
      let r = any_found n (leaving n steps z) (sym told ∙ e) in
      let ps = and_parts (z r.0) (not (into n steps z r.0)) r.2 in
      (r.0, r.1, ps.0, and_right (z r.0) (into n steps z r.0) (not-true (into n steps z r.0) ps.1))

  -- where none leaves, the set stays the same
  pub globally_stays : ((k : ℕ) → z k ≡ true → k < n) → more ≡ false → Same (globally_step n steps z) z
  globally_stays low e k = elim (cases_Bool (z k)) [
    | inl on ↦ stay (z k) (into n steps z k) (any_none n (leaving n steps z) (sym told ∙ e) k (low k on))
    | inr off ↦ (let a : (z k && into n steps z k) ≡ false = ap (λ v. v && into n steps z k) off in a ∙ sym off)
  ]

  -- where some leave, it changes, and has fewer
  pub globally_changes : more ≡ true → Same (globally_step n steps z) z → ⊥
  globally_changes e same = let r = goes e in both_ways (z r.0) (sym (same r.0) ∙ r.3) r.2

  pub globally_falls : (w : ℕ → Bool) → Same w (globally_step n steps z) → more ≡ true → count n w < count n z
  globally_falls w is e =
      let r = goes e in
      count_falls n w z (λ k h. (and_parts (z k) (into n steps z k) (sym (is k) ∙ h)).0) r.0 r.1 (is r.0 ∙ r.3) r.2

module _ (n : ℕ) (steps : ℕ → ℕ → Bool) (f : ℕ → Bool) where
  in_start : (i k : ℕ) → globally_chain n steps f i k ≡ true → below n f k ≡ true
  in_start zero k e = e
  in_start (suc i) k e = in_start i k (and_parts (globally_chain n steps f i k) (into n steps (globally_chain n steps f i) k) e).0

  pub chain_below : (i : ℕ) (z : ℕ → Bool) → z ≡ globally_chain n steps f i → (k : ℕ) → z k ≡ true → k < n
  chain_below i z is k e = ltb-true k n (and_parts (ltb k n) (f k) (in_start i k (ap (λ v. v k) (sym is) ∙ e))).0

  pub settles_inside : (r : ℕ) (m : ℕ → Bool) → Settles n (globally_chain n steps f) m r → Inside n steps f m
  settles_inside r m s k on =
      let Z = globally_chain n steps f r in
      let is : m ≡ Z = fun_ext s.reached in
      let here : Z k ≡ true = sym (s.reached k) ∙ on in
      let step : into n steps Z k ≡ true = (and_parts (Z k) (into n steps Z k) (s.settled k ∙ here)).1 in
      (chain_below r m is k on, (and_parts (ltb k n) (f k) (in_start r k here)).1, ap (λ v. into n steps v k) is ∙ step)
