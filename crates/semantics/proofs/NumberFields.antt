-- Numbers are read from fields exactly where the fields are their digits and each is in its range.
use Rattle.std.proofs.Common.{◌≡◌, ℕ, ◌+◌, Bool, true, false, cond, List, [], ◌∷◌, map, length, Some, None, Ok, Err, decimal, Option, Result, refl, ap, ◌∙◌, subst, arith}
use Rattle.std.proofs.lemmas.Bool.{cond-true}
use Rattle.semantics.specs.Faults.{Fault, refused_at, and_then}
use Rattle.semantics.specs.LineReading.{number_at, numbers_in}
use Rattle.semantics.specs.Numbers.{number_of}
use Rattle.semantics.proofs.Decimals.{only_decimal, reads_decimal}
use Rattle.semantics.proofs.Rows.{Row, Fit}

pub ok_same : {A E : Type 0} (a b : A) → ◌≡◌ {A = Result A E} (Ok a) (Ok b) → a ≡ b
ok_same a b e = cc

pub err_ok : {A E : Type 0} (f : E) (a : A) → ◌≡◌ {A = Result A E} (Err f) (Ok a) → ⊥
err_ok f a e = let z : ◌≡◌ {A = ℕ} 0 1 = cc in omega arith

pub then_ok : {A B E : Type 0} (r : Result A E) (k : A → Result B E) (x : B) → and_then r k ≡ Ok x → (a : A) × (r ≡ Ok a) × (k a ≡ Ok x)
then_ok (Ok a) k x e = (a, refl, e)
then_ok (Err f) k x e = absurd (err_ok f x e)

-- a check that refuses where the test is false, or where it is true
pub passed : {A : Type 0} (b : Bool) (r : Result A Fault) (f : Fault) (x : A) → cond b r (Err f) ≡ Ok x → (b ≡ true) × (r ≡ Ok x)
passed true r f x e = (refl, e)
passed false r f x e = absurd (err_ok f x e)

pub held_back : {A : Type 0} (b : Bool) (r : Result A Fault) (f : Fault) (x : A) → cond b (Err f) r ≡ Ok x → (b ≡ false) × (r ≡ Ok x)
held_back true r f x e = absurd (err_ok f x e)
held_back false r f x e = (refl, e)

pub number_back : (n f : ℕ) (o : Option ℕ) (x : ℕ) → number_at n f o ≡ Ok x → o ≡ Some x
number_back n f None x e = absurd (err_ok _ x e)
number_back n f (Some y) x e = ap (λ v. Some v) (ok_same y x e)

-- numbers that pass the tests of their ranges
abbrev pub Ranged : List (ℕ → Bool) → List ℕ → Type 0
Ranged [] [] = Unit {0}
Ranged [] (x ∷ xs) = ⊥
Ranged (r ∷ rs) [] = ⊥
Ranged (r ∷ rs) (x ∷ xs) = (r x ≡ true) × (Ranged rs xs)

pub ranged_length : (rs : List (ℕ → Bool)) (xs : List ℕ) → Ranged rs xs → length (map decimal xs) ≡ length rs
ranged_length [] [] s = refl
ranged_length [] (x ∷ xs) s = absurd s
ranged_length (r ∷ rs) [] s = absurd s
ranged_length (r ∷ rs) (x ∷ xs) s = omega (arith, ranged_length rs xs s.1)

module _ (n : ℕ) where
  pub numbers_back : (rs : List (ℕ → Bool)) (fs : Row) (f : ℕ) (xs : List ℕ) → length fs ≡ length rs → numbers_in n f rs fs ≡ Ok xs → (fs ≡ map decimal xs) × (Ranged rs xs)
  unfolding numbers_in
  numbers_back [] [] f xs l e = let q = ok_same [] xs e in (ap (map decimal) q, subst (Ranged []) q tt)
  numbers_back [] (g ∷ fs) f xs l e = absurd (omega arith)
  numbers_back (r ∷ rs) [] f xs l e = absurd (omega arith)
  numbers_back (r ∷ rs) (g ∷ fs) f xs l e =
      let a = then_ok (number_at n f (number_of g)) _ xs e in
      let d = only_decimal g a.0 (number_back n f (number_of g) a.0 a.1) in
      let c = passed (r a.0) _ _ xs a.2 in
      let b = then_ok (numbers_in n (f + 1) rs fs) _ xs c.1 in
      let q = ok_same (a.0 ∷ b.0) xs b.2 in
      let s = numbers_back rs fs (f + 1) b.0 (omega arith) b.1 in
      (ap (λ v. v ∷ fs) d.0 ∙ ap (λ v. decimal a.0 ∷ v) s.0 ∙ ap (map decimal) q, subst (Ranged (r ∷ rs)) q (c.0, s.1))

  pub numbers_read : (rs : List (ℕ → Bool)) (xs : List ℕ) (f : ℕ) → Ranged rs xs → Fit xs → numbers_in n f rs (map decimal xs) ≡ Ok xs
  unfolding numbers_in
  numbers_read [] [] f s w = refl
  numbers_read [] (x ∷ xs) f s w = absurd s
  numbers_read (r ∷ rs) [] f s w = absurd s
  numbers_read (r ∷ rs) (x ∷ xs) f s w =
      ap (λ o. and_then (number_at n f o) (λ x. cond (r x) (and_then (numbers_in n (f + 1) rs (map decimal xs)) (λ xs. Ok (x ∷ xs))) (refused_at 10 n f)))
      (reads_decimal x w.0)
      ∙ cond-true (r x) _ _ s.0
      ∙ ap (λ r. and_then r (λ xs. Ok (x ∷ xs))) (numbers_read rs xs (f + 1) s.1 w.1)
