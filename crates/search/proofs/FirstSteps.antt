-- What the first step from a state on says of all its steps.
use Rattle.std.proofs.Common.{◌≡◌, ℕ, ◌<◌, ◌≤◌, Bool, true, false, ◌&&◌, Some, None, inl, inr}
use Rattle.std.proofs.lemmas.Bool.{cases_lt}
use Rattle.semantics.specs.Sets.{any, into}
use Rattle.semantics.proofs.Quantifiers.{any_at, any_none, any_never}
use Rattle.search.specs.Next.{FirstStep}

-- none below low, and none from there on
none_between : (p : ℕ → Bool) (low k : ℕ) → any low p ≡ false → ((u : ℕ) → low ≤ u → u < k → p u ≡ false) → any k p ≡ false
none_between p low k first rest = any_never k p (λ u l. elim (cases_lt u low) [ inl lt ↦ any_none low p first u lt | inr ge ↦ rest u ge l ])

module _ (n : ℕ) (steps : ℕ → ℕ → Bool) (m : ℕ → Bool) (s low : ℕ) (passed : into low steps m s ≡ false) where
  pub first_none : FirstStep n steps m s low None → into n steps m s ≡ false
  first_none h = none_between (λ u. m u && steps s u) low n passed h

  pub first_passed : (t : ℕ) → FirstStep n steps m s low (Some t) → into t steps m s ≡ false
  first_passed t h = none_between (λ u. m u && steps s u) low t passed h.3

  pub first_into : (t : ℕ) → FirstStep n steps m s low (Some t) → into n steps m s ≡ true
  first_into t h = any_at n (λ u. m u && steps s u) t h.1 h.2
