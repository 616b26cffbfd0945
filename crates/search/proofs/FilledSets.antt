-- A set that is filled from a test with known answers.
use Rattle.std.proofs.Common.{◌≡◌, ℕ, Bool, Result, Ok, Err, MatchResult, is_ok, if◌then◌else◌, ◌&&◌, sym, ap, ◌∙◌, inl, inr}
use Rattle.std.proofs.lemmas.Bool.{cases_lt, lt-ltb, le-ltb}
use Rattle.semantics.specs.Sets.{Same, below}
use Rattle.search.specs.Filled.{Filled}

module _ {answers : ℕ → Bool → Type 0} (n : ℕ) (m p : ℕ → Bool) where
  filled_below : Filled answers n m → ((k : ℕ) (b : Bool) → answers k b → b ≡ p k) → Same m (below n p)
  filled_below f told k = elim (cases_lt k n) [
    | inl l ↦ told k (m k) (f.tested k l) ∙ sym (ap (λ b. b && p k) (lt-ltb k n l))
    | inr g ↦ f.others k g ∙ sym (ap (λ b. b && p k) (le-ltb k n g))
  ]

  pub same_filled : {T E : Type 0} (old : ℕ → Bool) (r : Result T E) → MatchResult r (λ _. Filled answers n m) (λ _. Same m old) → ((k : ℕ) (b : Bool) → answers k b → b ≡ p k) → Same m (if is_ok r then below n p else old)
  same_filled old (Ok _) f told = filled_below f told
  same_filled old (Err _) f told = f
