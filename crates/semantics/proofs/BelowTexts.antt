-- Texts of the numbers below n, and of the pairs of a relation.
use Rattle.std.proofs.Common.{◌≡◌, ℕ, zero, suc, ◌<◌, Bool, true, cond, ◌&&◌, ◌||◌, eqb, ◌⊎◌, List, [], ◌++◌, sym, refl, ap, ◌∙◌, ⊎_elim, append_assoc, append-nil, arith}
use Rattle.std.proofs.lemmas.Bool.{cases_Bool, cases_eq, cond-false, eq-eqb, ne_eqb}
use Rattle.semantics.specs.Written.{texts_below}

pub texts_same : (n : ℕ) (f g : ℕ → List ℕ) → ((k : ℕ) → k < n → f k ≡ g k) → texts_below n f ≡ texts_below n g
unfolding texts_below
texts_same zero f g e = refl
texts_same (suc n) f g e = ap (λ v. v ++ f n) (texts_same n f g (λ k l. e k (omega arith))) ∙ ap (λ v. texts_below n g ++ v) (e n (omega arith))

pub texts_none : (n : ℕ) (f : ℕ → List ℕ) → ((k : ℕ) → k < n → f k ≡ []) → texts_below n f ≡ []
unfolding texts_below
texts_none zero f e = refl
texts_none (suc n) f e = ap (λ v. v ++ f n) (texts_none n f (λ k l. e k (omega arith))) ∙ e n (omega arith)

-- one of the texts is longer, and none stands behind it
pub texts_push : (n : ℕ) (f g : ℕ → List ℕ) (a : ℕ) (t : List ℕ) → a < n → ((k : ℕ) → (k ≡ a → ⊥) → g k ≡ f k) → g a ≡ f a ++ t →
    ((k : ℕ) → a < k → f k ≡ []) → texts_below n g ≡ texts_below n f ++ t
unfolding texts_below
texts_push zero f g a t l others here behind = absurd (omega arith)
texts_push (suc n) f g a t l others here behind = ⊎_elim
    (λ e.
    ap (λ v. v ++ g n) (texts_same n g f (λ k m. others k (λ q. omega arith)))
    ∙ ap (λ i. texts_below n f ++ g i) (sym e)
    ∙ ap (λ v. texts_below n f ++ v) here
    ∙ ap (λ i. texts_below n f ++ (f i ++ t)) e
    ∙ sym (append_assoc (texts_below n f) (f n) t))
    (λ ne.
    ap (λ v. v ++ g n) (texts_push n f g a t (omega (arith, ne)) others here behind)
    ∙ ap (λ v. (texts_below n f ++ t) ++ v) (others n (λ q. ne (sym q)) ∙ behind n (omega (arith, ne)))
    ∙ append-nil (texts_below n f ++ t)
    ∙ ap (λ v. v ++ t) (sym (append-nil (texts_below n f)) ∙ ap (λ v. texts_below n f ++ v) (sym (behind n (omega (arith, ne))))))
    (cases_eq a n)

-- the pair c, d comes before a, b
abbrev pub Before : ℕ → ℕ → ℕ → ℕ → Type 0
Before c d a b = (c < a) ⊎ ((c ≡ a) × (d < b))

-- the texts of the pairs of a relation
abbrev pub pair_texts : ℕ → ℕ → (ℕ → ℕ → List ℕ) → (ℕ → ℕ → Bool) → List ℕ
pair_texts m n t r = texts_below m (λ a. texts_below n (λ b. cond (r a b) (t a b) []))

module _ (m n : ℕ) (t : ℕ → ℕ → List ℕ) (r : ℕ → ℕ → Bool) (a b : ℕ) (last : (c d : ℕ) → r c d ≡ true → Before c d a b) where
  absent : (c d : ℕ) → (Before c d a b → ⊥) → cond (r c d) (t c d) [] ≡ []
  absent c d f = ⊎_elim (λ on. absurd (f (last c d on))) (cond-false (r c d) _ _) (cases_Bool (r c d))

  more : ℕ → ℕ → Bool
  more c d = (eqb c a && eqb d b) || r c d

  other : (c d : ℕ) → (c ≡ a → d ≡ b → ⊥) → more c d ≡ r c d
  unfolding more
  other c d f = ⊎_elim
      (λ q. ap (λ v. (v && eqb d b) || r c d) (eq-eqb c a q) ∙ ap (λ v. v || r c d) (ne_eqb d b (f q)))
      (λ ne. ap (λ v. (v && eqb d b) || r c d) (ne_eqb c a ne))
      (cases_eq c a)

  -- a pair behind all others
  pub pairs_push : a < m → b < n → pair_texts m n t (λ c d. (eqb c a && eqb d b) || r c d) ≡ pair_texts m n t r ++ t a b
  unfolding more
  pairs_push la lb =
      texts_push m _ _ a (t a b) la
      (λ c ne. texts_same n _ _ (λ d _. ap (λ v. cond v (t c d) []) (other c d (λ q _. ne q))))
      (texts_push n _ _ b (t a b) lb
      (λ d ne. ap (λ v. cond v (t a d) []) (other a d (λ _ q. ne q)))
      (ap (λ v. cond v (t a b) []) here ∙ ap (λ v. v ++ t a b) (sym (absent a b (⊎_elim (λ l. omega arith) (λ x. omega (arith, x.1))))))
      (λ d l. absent a d (⊎_elim (λ q. omega arith) (λ x. omega (arith, x.1)))))
      (λ c l. texts_none n _ (λ d _. absent c d (⊎_elim (λ q. omega arith) (λ x. omega (arith, x.0)))))
    where
      here : ((eqb a a && eqb b b) || r a b) ≡ true
      here = ap (λ v. (v && eqb b b) || r a b) (eq-eqb a a refl) ∙ ap (λ v. v || r a b) (eq-eqb b b refl)
