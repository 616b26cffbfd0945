-- C and T lines that were read: their pairs rise, and are those of a relation, in order.
use Rattle.std.proofs.Common.{◌≡◌, ℕ, zero, suc, ◌+◌, ◌<◌, ◌≤◌, true, false, ◌&&◌, ◌||◌, eqb, ltb, List, [], ◌∷◌, ◌++◌, length, Ok, sym, refl, ap, ◌∙◌, subst, inl, inr, ⊎_elim, arith}
use Rattle.std.proofs.lemmas.Bool.{and_parts, or_cases, eqb-true, ltb-true, false≢true}
use Rattle.semantics.specs.Cuts.{fields_of}
use Rattle.semantics.specs.Edits.{with_moves}
use Rattle.semantics.specs.LineReading.{at}
use Rattle.semantics.specs.Sets.{count}
use Rattle.semantics.specs.SheetReading.{leads, plain_line, under, rises, listed, pair_line}
use Rattle.semantics.specs.Sheets.{Sheet}
use Rattle.semantics.specs.Validity.{moves_from}
use Rattle.semantics.specs.Written.{line_text}
use Rattle.semantics.proofs.BelowTexts.{Before, pair_texts, pairs_push}
use Rattle.semantics.proofs.MoveCounts.{moves_joined}
use Rattle.semantics.proofs.NumberFields.{ok_same, then_ok, Ranged}
use Rattle.semantics.proofs.PlainLines.{plain_back}

-- pairs below their limits that rise, the newest first
abbrev pub Rising : ℕ → ℕ → List (List ℕ) → Type 0
Rising m k [] = Unit {0}
Rising m k (xs ∷ ps) = (at xs 0 < m) × (at xs 1 < k) × (rises ps xs ≡ true) × (Rising m k ps)

before_from : (a b c d : ℕ) → (ltb a c || (eqb a c && ltb b d)) ≡ true → Before a b c d
before_from a b c d e = ⊎_elim
    (λ l. inl (ltb-true a c l))
    (λ r. let p = and_parts (eqb a c) (ltb b d) r in inr (eqb-true a c p.0, ltb-true b d p.1))
    (or_cases (ltb a c) (eqb a c && ltb b d) e)

before_trans : (a b c d e f : ℕ) → Before a b c d → Before c d e f → Before a b e f
before_trans a b c d e f p q = ⊎_elim
    (λ l. ⊎_elim (λ m. inl (omega arith)) (λ y. inl (omega (arith, y.0))) q)
    (λ x. ⊎_elim (λ m. inl (omega (arith, x.0))) (λ y. inr (x.0 ∙ y.0, omega (arith, x.1, y.1))) q)
    p

module _ (m k : ℕ) where
  -- the pairs come before the one that rises above the last of them
  pub listed_before : (ps : List (List ℕ)) (xs : List ℕ) → Rising m k ps → rises ps xs ≡ true → (c d : ℕ) → listed ps c d ≡ true → Before c d (at xs 0) (at xs 1)
  listed_before [] xs w r c d e = absurd (false≢true e)
  listed_before (ys ∷ ps) xs w r c d e =
      let last = before_from (at ys 0) (at ys 1) (at xs 0) (at xs 1) r in
      ⊎_elim
      (λ here.
      let p = and_parts (eqb c (at ys 0)) (eqb d (at ys 1)) here in
      rw (eqb-true c (at ys 0) p.0, eqb-true d (at ys 1) p.1) last)
      (λ there. before_trans c d (at ys 0) (at ys 1) (at xs 0) (at xs 1) (listed_before ps ys w.3 w.2 c d there) last)
      (or_cases (eqb c (at ys 0) && eqb d (at ys 1)) (listed ps c d) e)

  pub listed_below : (ps : List (List ℕ)) → Rising m k ps → (c d : ℕ) → listed ps c d ≡ true → (c < m) × (d < k)
  listed_below [] w c d e = absurd (false≢true e)
  listed_below (ys ∷ ps) w c d e = ⊎_elim
      (λ here.
      let p = and_parts (eqb c (at ys 0)) (eqb d (at ys 1)) here in
      let q = eqb-true c (at ys 0) p.0 in
      let r = eqb-true d (at ys 1) p.1 in
      (omega (arith, w.0), omega (arith, w.1)))
      (listed_below ps w.3 c d)
      (or_cases (eqb c (at ys 0) && eqb d (at ys 1)) (listed ps c d) e)

  two_numbers : (xs : List ℕ) → Ranged (under m ∷ under k ∷ []) xs → (xs ≡ at xs 0 ∷ at xs 1 ∷ []) × (at xs 0 < m) × (at xs 1 < k)
  two_numbers [] s = absurd s
  two_numbers (x ∷ []) s = absurd s.1
  two_numbers (x ∷ y ∷ []) s = (refl, ltb-true x m s.0, ltb-true y k s.1.0)
  two_numbers (x ∷ y ∷ z ∷ xs) s = absurd s.1.1

  module _ (t : ℕ) where
    abbrev pub pairs_text : List (List ℕ) → List ℕ
    pairs_text ps = pair_texts m k (λ a b. line_text t (a ∷ b ∷ [])) (listed ps)

    -- one line more is one pair more
    pub pair_step : (ps : List (List ℕ)) (n : ℕ) (l : List ℕ) (qs : List (List ℕ)) → Rising m k ps → leads t l ≡ true →
        pair_line m k ps n (fields_of l) ≡ Ok qs → (Rising m k qs) × (pairs_text qs ≡ pairs_text ps ++ (l ++ 10 ∷ [])) × (length qs ≡ length ps + 1)
    pair_step ps n l qs w first e =
        let a = then_ok (plain_line (under m ∷ under k ∷ []) (rises ps) n (fields_of l)) _ qs e in
        let xs = a.0 in
        let p = plain_back (under m ∷ under k ∷ []) (rises ps) t n l xs first a.1 in
        let two = two_numbers xs p.1 in
        let text = pairs_push m k (λ a b. line_text t (a ∷ b ∷ [])) (listed ps) (at xs 0) (at xs 1) (listed_before ps xs w p.2) two.1 two.2 in
        let line : line_text t (at xs 0 ∷ at xs 1 ∷ []) ≡ l ++ 10 ∷ [] = ap (line_text t) (sym two.0) ∙ sym p.0 in
        subst (λ v. (Rising m k v) × (pairs_text v ≡ pairs_text ps ++ (l ++ 10 ∷ [])) × (length v ≡ length ps + 1)) (ok_same (xs ∷ ps) qs a.2)
        ((two.1, two.2, p.2, w), text ∙ ap (λ v. pairs_text ps ++ v) line, omega arith)

no_moves : (h : Sheet) (k : ℕ) → moves_from (with_moves h (listed [])) k ≡ 0
no_moves h zero = refl
no_moves h (suc k) = omega (arith, none h.states, no_moves h k)
  where
    none : (n : ℕ) → count n (λ t. false) ≡ 0
    none zero = refl
    none (suc n) = omega (arith, none n)

-- no more moves than lines
pub listed_count : (h : Sheet) (ps : List (List ℕ)) (k : ℕ) → moves_from (with_moves h (listed ps)) k ≤ length ps
listed_count h [] k = omega (arith, no_moves h k)
listed_count h (ys ∷ ps) k = omega (arith, moves_joined h (listed ps) (at ys 0) (at ys 1) k, listed_count h ps k)
