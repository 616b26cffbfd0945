-- Laws of sets as predicates.
use Rattle.std.specs.Prelude.{◌≡◌, ℕ, Bool, true, false, cond, not, ◌&&◌, ◌||◌, ◌==◌, refl}
use Rattle.std.proofs.Common.{sym, ap, ◌∙◌, inl, inr, arith}
use Rattle.std.proofs.lemmas.Bool.{cases_Bool, eqb-true, false≢true}

-- two tests that follow from each other
pub same_from : (a b : Bool) → (a ≡ true → b ≡ true) → (b ≡ true → a ≡ true) → a ≡ b
same_from true true f h = refl
same_from true false f h = sym (f refl)
same_from false true f h = h refl
same_from false false f h = refl

-- one more changes nothing where it was in
pub has_there : (m : ℕ → Bool) (v : ℕ) → m v ≡ true → (k : ℕ) → m k ≡ (k == v || m k)
has_there m v h k = elim (cases_Bool (k == v)) [
  | inl e ↦ (let t : m k ≡ true = ap m (eqb-true k v e) ∙ h in grind (arith, e, t))
  | inr e ↦ grind (arith, e)
]

-- one fewer changes nothing where it was out
pub has_not : (m : ℕ → Bool) (v : ℕ) → m v ≡ false → (k : ℕ) → m k ≡ (not (k == v) && m k)
has_not m v h k = elim (cases_Bool (k == v)) [
  | inl e ↦ (let t : m k ≡ false = ap m (eqb-true k v e) ∙ h in grind (arith, e, t))
  | inr e ↦ grind (arith, e)
]

-- what a choice between two sets holds, where the test is true
pub cond_on : (r : Bool) (f h : ℕ → Bool) → r ≡ true → (k : ℕ) → (cond r f h) k ≡ f k
cond_on true f h e k = refl
cond_on false f h e k = absurd (false≢true e)
