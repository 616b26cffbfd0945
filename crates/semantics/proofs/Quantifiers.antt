-- What the tests over the numbers below n say.
use Rattle.std.proofs.Common.{◌≡◌, ℕ, zero, suc, ◌<◌, ◌≤◌, Bool, true, false, cond, ◌&&◌, Decides, sym, refl, inl, inr, arith}
use mathlib.Core.Bool.{beq}
use Rattle.std.proofs.lemmas.Bool.{both_ways, cases_Bool}
use Rattle.std.proofs.lemmas.Bool.Decides.{Decides-below_or, Decides-below_and}
use Rattle.semantics.specs.Sets.{any, all, least, same}

pub any_says : (n : ℕ) (p : ℕ → Bool) → Decides (any n p) ((k : ℕ) × (k < n) × (p k ≡ true))
any_says n p = Decides-below_or p (λ k. p k ≡ true) (λ m. any m p) (λ k. (λ e. e, λ e. e)) refl (λ _. refl) n

pub all_says : (n : ℕ) (p : ℕ → Bool) → Decides (all n p) ((k : ℕ) → k < n → p k ≡ true)
all_says n p = Decides-below_and p (λ k. p k ≡ true) (λ m. all m p) (λ k. (λ e. e, λ e. e)) refl (λ _. refl) n

pub any_at : (n : ℕ) (p : ℕ → Bool) (k : ℕ) → k < n → p k ≡ true → any n p ≡ true
any_at n p k l h = (any_says n p).1 (k, l, h)

pub any_found : (n : ℕ) (p : ℕ → Bool) → any n p ≡ true → (k : ℕ) × (k < n) × (p k ≡ true)
any_found n p = (any_says n p).0

pub any_none : (n : ℕ) (p : ℕ → Bool) → any n p ≡ false → (k : ℕ) → k < n → p k ≡ false
any_none n p e k l = elim (cases_Bool (p k)) [ inl h ↦ absurd (both_ways (any n p) e (any_at n p k l h)) | inr h ↦ h ]

-- none passes
pub any_never : (n : ℕ) (p : ℕ → Bool) → ((k : ℕ) → k < n → p k ≡ false) → any n p ≡ false
any_never n p none = elim (cases_Bool (any n p)) [
  | inl h ↦ (let r = any_found n p h in absurd (both_ways (p r.0) (none r.0 r.1) r.2))
  | inr h ↦ h
]

-- fewer that pass, and still none
pub any_none_fewer : (n : ℕ) (p q : ℕ → Bool) → ((k : ℕ) → q k ≡ true → p k ≡ true) → any n p ≡ false → any n q ≡ false
any_none_fewer n p q sub e = any_never n q (λ k l. elim (cases_Bool (q k)) [
  | inl h ↦ absurd (both_ways (p k) (any_none n p e k l) (sub k h))
  | inr h ↦ h
])

beq_says : (a b : Bool) → Decides (beq a b) (a ≡ b)
beq_says true true = (λ _. refl, λ _. refl)
beq_says true false = (λ e. sym e, λ e. sym e)
beq_says false true = (λ e. e, λ e. e)
beq_says false false = (λ _. refl, λ _. refl)

pub same_says : (n : ℕ) (m w : ℕ → Bool) → Decides (same n m w) ((k : ℕ) → k < n → m k ≡ w k)
same_says n m w = (
  λ e k l. (beq_says (m k) (w k)).0 ((all_says n (λ k. beq (m k) (w k))).0 e k l),
  λ f. (all_says n (λ k. beq (m k) (w k))).1 (λ k l. (beq_says (m k) (w k)).1 (f k l)),
)

-- where two sets differ below n
pub differ : (n : ℕ) (m w : ℕ → Bool) → same n m w ≡ false → (k : ℕ) × (k < n) × (m k ≡ w k → ⊥)
differ zero m w e = absurd (both_ways true e refl)
differ (suc n) m w e = go (beq (m n) (w n)) refl e (differ n m w)
  where
    go : (b : Bool) → beq (m n) (w n) ≡ b → (b && same n m w) ≡ false → (same n m w ≡ false → (k : ℕ) × (k < n) × (m k ≡ w k → ⊥)) →
        (k : ℕ) × (k < suc n) × (m k ≡ w k → ⊥)
    go true is e rec = let r = rec e in (r.0, omega (arith, r.1), r.2)
    go false is e rec = (n, omega arith, λ q. both_ways _ is ((beq_says (m n) (w n)).1 q))

-- the least number that passes
pub least_le : (n : ℕ) (p : ℕ → Bool) → least n p ≤ n
least_le zero p = omega arith
least_le (suc n) p = go (p 0) (least_le n (λ k. p (suc k)))
  where
    go : (b : Bool) → least n (λ k. p (suc k)) ≤ n → cond b 0 (suc (least n (λ k. p (suc k)))) ≤ suc n
    go true l = omega arith
    go false l = omega arith

pub least_at : (n : ℕ) (p : ℕ → Bool) → least n p < n → p (least n p) ≡ true
least_at zero p l = absurd (omega arith)
least_at (suc n) p l = go (p 0) refl l (least_at n (λ k. p (suc k)))
  where
    go : (b : Bool) → p 0 ≡ b → cond b 0 (suc (least n (λ k. p (suc k)))) < suc n →
        (least n (λ k. p (suc k)) < n → p (suc (least n (λ k. p (suc k)))) ≡ true) → p (cond b 0 (suc (least n (λ k. p (suc k))))) ≡ true
    go true e l rec = e
    go false e l rec = rec (omega arith)

pub least_before : (n : ℕ) (p : ℕ → Bool) (j : ℕ) → j < least n p → p j ≡ false
least_before zero p j l = absurd (omega arith)
least_before (suc n) p j l = go (p 0) refl j l (least_before n (λ k. p (suc k)))
  where
    go : (b : Bool) → p 0 ≡ b → (j : ℕ) → j < cond b 0 (suc (least n (λ k. p (suc k)))) →
        ((i : ℕ) → i < least n (λ k. p (suc k)) → p (suc i) ≡ false) → p j ≡ false
    go true e j l rec = absurd (omega arith)
    go false e zero l rec = e
    go false e (suc j) l rec = rec j (omega arith)
