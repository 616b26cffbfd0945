-- The pairs of a relation, in order, are read back as C or T lines.
use Rattle.std.proofs.Common.{◌≡◌, ℕ, zero, suc, ◌+◌, ◌<◌, ◌≤◌, Bool, true, false, cond, ◌&&◌, ◌||◌, eqb, ltb, List, [], ◌∷◌, length, Ok, Result, sym, refl, ap, ◌∙◌, ⊎_elim, arith}
use mathlib.Core.Path.{fun_ext}
use Rattle.std.proofs.lemmas.Bool.{and_parts, and_from, or_cases, or_left, or_right, cases_eq, eqb-true, eq-eqb, lt-ltb, false≢true}
use Rattle.semantics.specs.Faults.{Fault, and_then}
use Rattle.semantics.specs.Sets.{count}
use Rattle.semantics.specs.SheetReading.{under, rises, listed, pair_line}
use Rattle.semantics.proofs.PlainLines.{plain_read}
use Rattle.semantics.proofs.Rows.{plain, plain_clean}
use Rattle.semantics.proofs.RowsRead.{Turns, turns_none, turns_one, turns_below}
use Rattle.semantics.proofs.SheetRows.{pair_rows}

pub bool_same : (a b : Bool) → (a ≡ true → b ≡ true) → (b ≡ true → a ≡ true) → a ≡ b
bool_same true b f g = sym (f refl)
bool_same false true f g = g refl
bool_same false false f g = refl

module _ (r : ℕ → ℕ → Bool) (k : ℕ) where
  -- the pairs of a and the numbers below b, the newest first, before those that came earlier
  abbrev pub row_pairs : ℕ → ℕ → List (List ℕ) → List (List ℕ)
  row_pairs a zero ps = ps
  row_pairs a (suc b) ps = cond (r a b) ((a ∷ b ∷ []) ∷ row_pairs a b ps) (row_pairs a b ps)

  -- the pairs of the numbers below m and k
  abbrev pub pairs_of : ℕ → List (List ℕ)
  pairs_of zero = []
  pairs_of (suc a) = row_pairs a k (pairs_of a)

  row_rises : (a b : ℕ) (ps : List (List ℕ)) (c d : ℕ) → rises ps (c ∷ d ∷ []) ≡ true →
      ((j : ℕ) → j < b → (ltb a c || (eqb a c && ltb j d)) ≡ true) → rises (row_pairs a b ps) (c ∷ d ∷ []) ≡ true
  row_rises a zero ps c d old new = old
  row_rises a (suc b) ps c d old new = go (r a b) (row_rises a b ps c d old (λ j l. new j (omega arith)))
    where
      go : (v : Bool) → rises (row_pairs a b ps) (c ∷ d ∷ []) ≡ true → rises (cond v ((a ∷ b ∷ []) ∷ row_pairs a b ps) (row_pairs a b ps)) (c ∷ d ∷ []) ≡ true
      go true e = new b (omega arith)
      go false e = e

  pairs_rise : (a c d : ℕ) → a ≤ c → rises (pairs_of a) (c ∷ d ∷ []) ≡ true
  pairs_rise zero c d l = refl
  pairs_rise (suc a) c d l = row_rises a k (pairs_of a) c d (pairs_rise a c d (omega arith)) (λ j _. or_left (ltb a c) _ (lt-ltb a c (omega arith)))

  pub next_rises : (a b : ℕ) → rises (row_pairs a b (pairs_of a)) (a ∷ b ∷ []) ≡ true
  next_rises a b = row_rises a b (pairs_of a) a b (pairs_rise a a b (omega arith))
      (λ j l. or_right (ltb a a) _ (and_from (eqb a a) _ (eq-eqb a a refl) (lt-ltb j b l)))

  row_sound : (a b : ℕ) (ps : List (List ℕ)) (c d : ℕ) → (listed ps c d ≡ true → r c d ≡ true) → listed (row_pairs a b ps) c d ≡ true → r c d ≡ true
  row_sound a zero ps c d old e = old e
  row_sound a (suc b) ps c d old e = go (r a b) refl e (row_sound a b ps c d old)
    where
      go : (v : Bool) → r a b ≡ v → listed (cond v ((a ∷ b ∷ []) ∷ row_pairs a b ps) (row_pairs a b ps)) c d ≡ true →
          (listed (row_pairs a b ps) c d ≡ true → r c d ≡ true) → r c d ≡ true
      go true on e i = ⊎_elim
          (λ here. let p = and_parts (eqb c a) (eqb d b) here in rw (eqb-true c a p.0, eqb-true d b p.1) on)
          i (or_cases (eqb c a && eqb d b) (listed (row_pairs a b ps) c d) e)
      go false on e i = i e

  row_keeps : (a b : ℕ) (ps : List (List ℕ)) (c d : ℕ) → listed ps c d ≡ true → listed (row_pairs a b ps) c d ≡ true
  row_keeps a zero ps c d e = e
  row_keeps a (suc b) ps c d e = go (r a b) (row_keeps a b ps c d e)
    where
      go : (v : Bool) → listed (row_pairs a b ps) c d ≡ true → listed (cond v ((a ∷ b ∷ []) ∷ row_pairs a b ps) (row_pairs a b ps)) c d ≡ true
      go true e = or_right (eqb c a && eqb d b) _ e
      go false e = e

  row_has : (a b : ℕ) (ps : List (List ℕ)) (d : ℕ) → d < b → r a d ≡ true → listed (row_pairs a b ps) a d ≡ true
  row_has a zero ps d l on = absurd (omega arith)
  row_has a (suc b) ps d l on = go (r a b) refl (λ m. row_has a b ps d m on)
    where
      go : (v : Bool) → r a b ≡ v → (d < b → listed (row_pairs a b ps) a d ≡ true) → listed (cond v ((a ∷ b ∷ []) ∷ row_pairs a b ps) (row_pairs a b ps)) a d ≡ true
      go true at_b i = ⊎_elim
          (λ q. or_left (eqb a a && eqb d b) _ (and_from _ _ (eq-eqb a a refl) (eq-eqb d b q)))
          (λ ne. or_right (eqb a a && eqb d b) _ (i (omega (arith, ne))))
          (cases_eq d b)
      go false at_b i = ⊎_elim
          (λ q. absurd (false≢true (sym at_b ∙ ap (r a) (sym q) ∙ on)))
          (λ ne. i (omega (arith, ne)))
          (cases_eq d b)

  pairs_sound : (m c d : ℕ) → listed (pairs_of m) c d ≡ true → r c d ≡ true
  pairs_sound zero c d e = absurd (false≢true e)
  pairs_sound (suc m) c d e = row_sound m k (pairs_of m) c d (pairs_sound m c d) e

  pairs_have : (m c d : ℕ) → c < m → d < k → r c d ≡ true → listed (pairs_of m) c d ≡ true
  pairs_have zero c d l lk on = absurd (omega arith)
  pairs_have (suc m) c d l lk on = ⊎_elim
      (λ q. rw q (row_has m k (pairs_of m) d lk (rw (← q) on)))
      (λ ne. row_keeps m k (pairs_of m) c d (pairs_have m c d (omega (arith, ne)) lk on))
      (cases_eq c m)

  -- they are the relation, if it has no others
  pub listed_pairs : (m : ℕ) → ((c d : ℕ) → r c d ≡ true → (c < m) × (d < k)) → listed (pairs_of m) ≡ r
  listed_pairs m inside = fun_ext (λ c. fun_ext (λ d.
      bool_same (listed (pairs_of m) c d) (r c d) (pairs_sound m c d) (λ on. let l = inside c d on in pairs_have m c d l.0 l.1 on)))

  pub row_length : (a b : ℕ) (ps : List (List ℕ)) → length (row_pairs a b ps) ≡ count b (r a) + length ps
  row_length a zero ps = omega arith
  row_length a (suc b) ps = go (r a b) (row_length a b ps)
    where
      go : (v : Bool) → length (row_pairs a b ps) ≡ count b (r a) + length ps →
          length (cond v ((a ∷ b ∷ []) ∷ row_pairs a b ps) (row_pairs a b ps)) ≡ cond v 1 0 + count b (r a) + length ps
      go true e = omega arith
      go false e = omega arith

  -- the rows of the pairs are read where each line is
  pub pairs_turn : (m t : ℕ) (f : List (List ℕ) → ℕ → List (List ℕ) → Result (List (List ℕ)) Fault) → 57 < t → m ≤ 128 → k ≤ 128 →
      ((a b : ℕ) → a < m → b < k → r a b ≡ true → (n : ℕ) → f (row_pairs a b (pairs_of a)) n (plain t (a ∷ b ∷ [])) ≡ Ok ((a ∷ b ∷ []) ∷ row_pairs a b (pairs_of a))) →
      Turns t f [] (pair_rows t m k r) (pairs_of m)
  pairs_turn m t f capital lm lk read = turns_below t f m _ pairs_of
      (λ a la. turns_below t f k _ (λ b. row_pairs a b (pairs_of a)) (λ b lb. go a b la lb (r a b) (read a b la lb)))
    where
      go : (a b : ℕ) → a < m → b < k → (v : Bool) →
          (v ≡ true → (n : ℕ) → f (row_pairs a b (pairs_of a)) n (plain t (a ∷ b ∷ [])) ≡ Ok ((a ∷ b ∷ []) ∷ row_pairs a b (pairs_of a))) →
          Turns t f (row_pairs a b (pairs_of a)) (cond v (plain t (a ∷ b ∷ []) ∷ []) []) (cond v ((a ∷ b ∷ []) ∷ row_pairs a b (pairs_of a)) (row_pairs a b (pairs_of a)))
      go a b la lb true e = turns_one t f _ _ (plain t (a ∷ b ∷ []))
          (record { clean = plain_clean t (a ∷ b ∷ []) capital (omega arith, (omega arith, tt)); letter = eq-eqb t t refl }) (e refl)
      go a b la lb false e = turns_none t f (row_pairs a b (pairs_of a))

  pub pair_read : (m t a b n : ℕ) → a < m → b < k → m ≤ 128 → k ≤ 128 →
      pair_line m k (row_pairs a b (pairs_of a)) n (plain t (a ∷ b ∷ [])) ≡ Ok ((a ∷ b ∷ []) ∷ row_pairs a b (pairs_of a))
  pair_read m t a b n la lb lm lk =
      let ps = row_pairs a b (pairs_of a) in
      ap (λ v. and_then v (λ xs. Ok (xs ∷ ps)))
      (plain_read (under m ∷ under k ∷ []) (rises ps) t n (a ∷ b ∷ []) (lt-ltb a m la, (lt-ltb b k lb, tt)) (omega arith, (omega arith, tt)) (next_rises a b))
