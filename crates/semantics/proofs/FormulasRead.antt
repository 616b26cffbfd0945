-- The F lines of a valid sheet are read back.
use Rattle.std.proofs.Common.{◌≡◌, ℕ, ◌+◌, ◌<◌, ◌≤◌, true, cond, ◌&&◌, ltb, List, [], ◌∷◌, ◌++◌, length, Ok, sym, refl, ap, ◌∙◌, subst, append_assoc, append-nil, arith}
use Rattle.std.specs.List.{AllByRecursion as All}
use Rattle.std.proofs.lemmas.List.{length_push}
use Rattle.std.proofs.lemmas.Bool.{and_parts, cond-true, ltb-true}
use Rattle.semantics.specs.Faults.{refused_at, and_then}
use Rattle.semantics.specs.LineReading.{letter, at, a_party, a_mark, an_operand, lettered_line}
use Rattle.semantics.specs.SheetReading.{formula_letters, pair_shares, formula_line}
use Rattle.semantics.specs.Sheets.{Sheet, Line, mark, negation, disjunction, next, globally, until, commitment, fulfilment, shares}
use Rattle.semantics.specs.Validity.{paired, line_fits, lines_fit}
use Rattle.semantics.proofs.LinesRead.{Sound, line_read_law}
use Rattle.semantics.proofs.Rows.{Clean, lettered}
use Rattle.semantics.proofs.RowsRead.{Turns, turns_none, turns_one, turns_then}
use Rattle.semantics.proofs.SheetRows.{letter_of, numbers_of, formula_rows}

module _ (h : Sheet) (few_parties : h.parties ≤ 6) (few_marks : h.marks ≤ 16) where
  low : (a k : ℕ) → k < 64 → ltb a k ≡ true → a < 1000
  low a k l e = omega (arith, ltb-true a k e)

  pair_sound : (i j a k : ℕ) → k < 64 → (paired h i j && ltb a k) ≡ true → (Sound h 0 k (a_party ∷ a_party ∷ an_operand ∷ []) (i ∷ j ∷ a ∷ [])) × (shares h i j ≡ true)
  pair_sound i j a k l e =
      let p = and_parts (paired h i j) (ltb a k) e in
      let q = and_parts (ltb i h.parties) _ p.0 in
      let r = and_parts (ltb j h.parties) _ q.1 in (
        (q.0, refl, omega (arith, ltb-true i h.parties q.0), (r.0, refl, omega (arith, ltb-true j h.parties r.0), (refl, p.1, low a k l p.1, tt))),
        r.1,
      )

  two_sound : (a b k : ℕ) → k < 64 → (ltb a k && ltb b k) ≡ true → Sound h 0 k (an_operand ∷ an_operand ∷ []) (a ∷ b ∷ [])
  two_sound a b k l e = let p = and_parts (ltb a k) (ltb b k) e in (refl, p.0, low a k l p.0, (refl, p.1, low b k l p.1, tt))

  -- a line that fits is read from its row
  line_back : (l : Line) (k n : ℕ) → k < 64 → line_fits h k l ≡ true →
      (lettered_line formula_letters 64 h 0 k n (lettered 70 k (letter_of l) (numbers_of l)) ≡ Ok l) × (pair_shares h l ≡ true)
  line_back (mark m) k n l e = (
    line_read_law h 0 k n formula_letters 64 70 (letter 77 (a_mark ∷ []) (λ xs. mark (at xs 0))) (m ∷ []) refl (e, refl, omega (arith, ltb-true m h.marks e), tt) l (omega arith),
    refl,
  )
  line_back (negation a) k n l e = (
    line_read_law h 0 k n formula_letters 64 70 (letter 78 (an_operand ∷ []) (λ xs. negation (at xs 0))) (a ∷ []) refl (refl, e, low a k l e, tt) l (omega arith),
    refl,
  )
  line_back (disjunction a b) k n l e = (
    line_read_law h 0 k n formula_letters 64 70 (letter 79 (an_operand ∷ an_operand ∷ []) (λ xs. disjunction (at xs 0) (at xs 1))) (a ∷ b ∷ []) refl (two_sound a b k l e) l (omega arith),
    refl,
  )
  line_back (next a) k n l e = (
    line_read_law h 0 k n formula_letters 64 70 (letter 88 (an_operand ∷ []) (λ xs. next (at xs 0))) (a ∷ []) refl (refl, e, low a k l e, tt) l (omega arith),
    refl,
  )
  line_back (globally a) k n l e = (
    line_read_law h 0 k n formula_letters 64 70 (letter 71 (an_operand ∷ []) (λ xs. globally (at xs 0))) (a ∷ []) refl (refl, e, low a k l e, tt) l (omega arith),
    refl,
  )
  line_back (until a b) k n l e = (
    line_read_law h 0 k n formula_letters 64 70 (letter 85 (an_operand ∷ an_operand ∷ []) (λ xs. until (at xs 0) (at xs 1))) (a ∷ b ∷ []) refl (two_sound a b k l e) l (omega arith),
    refl,
  )
  line_back (commitment i j a) k n l e =
      let s = pair_sound i j a k l e in (
        line_read_law h 0 k n formula_letters 64 70 (letter 67 (a_party ∷ a_party ∷ an_operand ∷ []) (λ xs. commitment (at xs 0) (at xs 1) (at xs 2))) (i ∷ j ∷ a ∷ []) refl s.0 l (omega arith),
        s.1,
      )
  line_back (fulfilment i j a) k n l e =
      let s = pair_sound i j a k l e in (
        line_read_law h 0 k n formula_letters 64 70 (letter 75 (a_party ∷ a_party ∷ an_operand ∷ []) (λ xs. fulfilment (at xs 0) (at xs 1) (at xs 2))) (i ∷ j ∷ a ∷ []) refl s.0 l (omega arith),
        s.1,
      )

  formula_read : (ls : List Line) (l : Line) (n : ℕ) → length ls < 64 → line_fits h (length ls) l ≡ true →
      formula_line h ls n (lettered 70 (length ls) (letter_of l) (numbers_of l)) ≡ Ok (ls ++ l ∷ [])
  formula_read ls l n few e =
      let r = line_back l (length ls) n few e in
      ap (λ v. and_then v (λ l. cond (pair_shares h l) (Ok (ls ++ l ∷ [])) (refused_at 18 n 5))) r.0 ∙ cond-true (pair_shares h l) _ _ r.1

  pub formulas_turn : (ls pre : List Line) → All Clean (formula_rows (length pre) ls) → length pre + length ls ≤ 64 → lines_fit h (length pre) ls ≡ true →
      Turns 70 (formula_line h) pre (formula_rows (length pre) ls) (pre ++ ls)
  formulas_turn [] pre c few e = subst (λ v. Turns 70 (formula_line h) pre [] v) (sym (append-nil pre)) (turns_none 70 (formula_line h) pre)
  formulas_turn (l ∷ ls) pre c few e =
      let k = length pre in
      let p = and_parts (line_fits h k l) (lines_fit h (k + 1) ls) e in
      let push = length_push pre l in
      let row = lettered 70 k (letter_of l) (numbers_of l) in
      let one = turns_one 70 (formula_line h) pre (pre ++ l ∷ []) row (record { clean = c.0; letter = refl }) (λ n. formula_read pre l n (omega arith) p.0) in
      let more = formulas_turn ls (pre ++ l ∷ []) (rw push c.1) (omega arith) (ap (λ i. lines_fit h i ls) push ∙ p.1) in
      turns_then 70 (formula_line h) pre (pre ++ l ∷ []) (pre ++ l ∷ ls) (row ∷ []) (formula_rows (k + 1) ls) one
      (subst (λ i. Turns 70 (formula_line h) (pre ++ l ∷ []) (formula_rows i ls) (pre ++ l ∷ ls)) push
      (subst (λ v. Turns 70 (formula_line h) (pre ++ l ∷ []) (formula_rows (length (pre ++ l ∷ [])) ls) v) (append_assoc pre (l ∷ []) ls) more))
