-- Laws of the count of the states below n.
use Rattle.std.proofs.Common.{◌≡◌, ℕ, zero, suc, ◌+◌, ◌<◌, ◌≤◌, Bool, true, false, cond, sym, refl, ap, ◌∙◌, inl, inr, arith}
use Rattle.std.proofs.lemmas.Bool.{cases_eq}
use Rattle.semantics.specs.Sets.{count}

-- what one state adds to a count
abbrev one : Bool → ℕ
one b = cond b 1 0

one_le : (b : Bool) → one b ≤ 1
one_le true = omega arith
one_le false = omega arith

pub count_le : (n : ℕ) (m : ℕ → Bool) → count n m ≤ n
count_le zero m = omega arith
count_le (suc n) m = omega (arith, count_le n m, one_le (m n))

one_mono : (a b : Bool) → (a ≡ true → b ≡ true) → one a ≤ one b
one_mono true true h = omega arith
one_mono true false h = grind (arith, h refl)
one_mono false b h = omega arith

-- a subset has no more states
pub count_mono : (n : ℕ) (q p : ℕ → Bool) → ((k : ℕ) → q k ≡ true → p k ≡ true) → count n q ≤ count n p
count_mono zero q p h = omega arith
count_mono (suc n) q p h = omega (arith, count_mono n q p h, one_mono (q n) (p n) (h n))

-- a subset that lacks one of them has fewer
pub count_falls : (n : ℕ) (q p : ℕ → Bool) → ((k : ℕ) → q k ≡ true → p k ≡ true) → (k : ℕ) → k < n → q k ≡ false → p k ≡ true → count n q < count n p
count_falls zero q p h k l e f = absurd (omega arith)
count_falls (suc n) q p h k l e f = elim (cases_eq k n) [
  | inl i ↦ (let a : one (q n) ≡ 0 = ap (λ v. one (q v)) (sym i) ∙ ap one e in
      let b : one (p n) ≡ 1 = ap (λ v. one (p v)) (sym i) ∙ ap one f in
      omega (arith, count_mono n q p h))
  | inr ne ↦ omega (arith, count_falls n q p h k (omega (arith, ne)) e f, one_mono (q n) (p n) (h n))
]

-- a set with at most one state more has at most one more
pub count_plus : (n : ℕ) (q p : ℕ → Bool) (x : ℕ) → ((k : ℕ) → (k ≡ x → ⊥) → q k ≡ true → p k ≡ true) →
    (n ≤ x → count n q ≤ count n p) × (count n q ≤ count n p + 1)
count_plus zero q p x h = (λ _. omega arith, omega arith)
count_plus (suc n) q p x h =
    let r = count_plus n q p x h in (
      λ l. omega (arith, r.0 (omega arith), one_mono (q n) (p n) (h n (λ e. omega arith))),
      elim (cases_eq n x) [
        | inl e ↦ omega (arith, r.0 (omega arith), one_le (q n))
        | inr ne ↦ omega (arith, r.1, one_mono (q n) (p n) (h n ne))
      ],
    )

-- a member adds to the count
pub count_less : (n : ℕ) (m : ℕ → Bool) (k : ℕ) → k < n → m k ≡ true → count k m < count n m
count_less zero m k l on = absurd (omega arith)
count_less (suc n) m k l on = elim (cases_eq k n) [
  | inl e ↦ (let a : one (m n) ≡ 1 = ap (λ v. one (m v)) (sym e) ∙ ap one on in omega (arith, ap (λ v. count v m) e))
  | inr ne ↦ omega (arith, count_less n m k (omega (arith, ne)) on)
]
