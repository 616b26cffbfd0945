-- Sheet 7 is valid.
use Rattle.std.proofs.Common.{◌≡◌, ℕ, zero, suc, ◌^◌, ◌<◌, ◌≤◌, true, ◌&&◌, eqb, ltb, List, [], ◌∷◌, length, get_or, refl, ⊎_elim, arith, lit<, lit≤}
use Rattle.std.specs.List.{AllByRecursion as All}
use Rattle.std.proofs.lemmas.Bool.{and_parts, and_from, or_cases, eqb-true, ltb-true, lt-ltb, cond_both, false≢true}
use Rattle.semantics.specs.Validity.{Valid}
use Rattle.semantics.specs.Worked.{pairs, positions7, copies7, moves7, sheet7}

each_of : {A : Type 0} (P : A → Type 0) (xs : List A) (d : A) → P d → All P xs → (k : ℕ) → P (get_or xs k d)
each_of P [] d p a k = p
each_of P (x ∷ xs) d p a zero = a.0
each_of P (x ∷ xs) d p a (suc k) = each_of P xs d p a.1 k

-- a number that is not 0 stands in the list
placed : (xs : List ℕ) (k : ℕ) → 0 < get_or xs k 0 → k < length xs
placed [] k l = absurd (omega arith)
placed (x ∷ xs) zero l = omega arith
placed (x ∷ xs) (suc k) l = omega (arith, placed xs k l)

placed_row : (rows : List (List ℕ)) (s p : ℕ) → 0 < get_or (get_or rows s []) p 0 → (s < length rows) × (p < length (get_or rows s []))
placed_row [] s p l = absurd (omega arith)
placed_row (r ∷ rows) zero p l = (omega arith, placed r p l)
placed_row (r ∷ rows) (suc s) p l = let x = placed_row rows s p l in (omega (arith, x.0), x.1)

-- rows of two numbers up to 999
abbrev Row : List ℕ → Type 0
Row r = ((k : ℕ) → get_or r k 0 ≤ 999) × (length r ≤ 2)

row : (x y : ℕ) → x ≤ 999 → y ≤ 999 → Row (x ∷ y ∷ [])
row x y p q = (each_of (λ v. v ≤ 999) (x ∷ y ∷ []) 0 (omega arith) (p, (q, tt)), omega arith)

no_row : Row []
no_row = (λ k. omega arith, omega arith)

rows_fit : (rows : List (List ℕ)) → All Row rows → (s : ℕ) → Row (get_or rows s [])
rows_fit rows a s = each_of Row rows [] no_row a s

positions_fit : (s : ℕ) → Row (get_or positions7 s [])
positions_fit =
    rows_fit positions7
    (row 0 0 (omega arith) (omega arith), (row 1 0 (omega arith) (omega arith), (row 1 0 (omega arith) (omega arith), tt)))

copies_fit : (s : ℕ) → Row (get_or copies7 s [])
copies_fit =
    rows_fit copies7
    (row 300 300 (omega arith) (omega arith), (row 400 300 (omega arith) (omega arith), (row 400 400 (omega arith) (omega arith), tt)))

pairs_inside : (n : ℕ) (ps : List (ℕ × ℕ)) → All (λ p. (p.0 < n) × (p.1 < n)) ps → (s t : ℕ) → pairs ps s t ≡ true → (s < n) × (t < n)
pairs_inside n [] a s t e = absurd (false≢true e)
pairs_inside n (p ∷ ps) a s t e = ⊎_elim
    (λ q.
    let x = and_parts (eqb s p.0) (eqb t p.1) q in
    let u = eqb-true s p.0 x.0 in
    let w = eqb-true t p.1 x.1 in
    (omega (arith, a.0.0), omega (arith, a.0.1)))
    (pairs_inside n ps a.1 s t)
    (or_cases (eqb s p.0 && eqb t p.1) (pairs ps s t) e)

pub valid7 : Valid sheet7
unfolding sheet7
valid7 = record {
  sizes_fit = refl;
  holders_exist = λ c p e. let x = and_parts (eqb c 0) (ltb p 2) e in let z = eqb-true c 0 x.0 in (omega arith, ltb-true p 2 x.1);
  starts_exist = λ s e. let z = eqb-true s 0 e in omega arith;
  marks_fit = each_of (λ v. v < 2 ^ 2) (0 ∷ 2 ∷ 3 ∷ []) 0 (lit< tt) (lit< tt, (lit< tt, (lit< tt, tt)));
  marks_placed = placed (0 ∷ 2 ∷ 3 ∷ []);
  positions_fit = λ s p. (positions_fit s).0 p;
  positions_placed = λ s p l. let x = placed_row positions7 s p l in (x.0, omega (arith, x.1, (positions_fit s).1));
  copies_fit = λ s p c. cond_both (eqb c 0) (get_or (get_or copies7 s []) p 0) 0 (λ v. v ≤ 999) (λ _. (copies_fit s).0 p) (λ _. omega arith);
  copies_placed = λ s p c. cond_both (eqb c 0) (get_or (get_or copies7 s []) p 0) 0 (λ v. 0 < v → (s < 3) × ((eqb c 0 && ltb p 2) ≡ true))
      (λ e l. let x = placed_row copies7 s p l in (x.0, and_from (eqb c 0) (ltb p 2) e (lt-ltb p 2 (omega (arith, x.1, (copies_fit s).1)))))
      (λ _ l. absurd (omega arith));
  moves_exist = pairs_inside 3 moves7 ((lit< tt, lit< tt), ((lit< tt, lit< tt), ((lit< tt, lit< tt), tt)));
  moves_few = lit≤ tt;
  some_start = refl;
  moves_leave = refl;
  lines_fit = refl;
}
