-- The numbers of a valid sheet's text fit their fields.
use Rattle.std.proofs.Common.{◌≡◌, ℕ, ◌+◌, ◌^◌, ◌<◌, ◌≤◌, Bool, true, false, cond, ◌&&◌, ltb, List, [], ◌∷◌, length, arith, pow_mono}
use Rattle.std.specs.List.{AllByRecursion as All}
use Rattle.std.proofs.lemmas.Bool.{and_parts, ltb-true}
use Rattle.semantics.specs.Sheets.{Sheet, Line, mark, negation, disjunction, next, globally, until, commitment, fulfilment}
use Rattle.semantics.specs.Validity.{Valid, paired, line_fits, lines_fit}
use Rattle.semantics.proofs.Rows.{Clean, Fit, plain_clean, lettered_clean}
use Rattle.semantics.proofs.SheetRows.{all_append, all_below, all_cond, letter_of, numbers_of, formula_rows, header_numbers, pair_rows, state_numbers, local_numbers, state_rows, local_rows, holder_rows, move_rows, rows_of}
use Rattle.semantics.proofs.Sizes.{Limits, limits}

one_small : (b : Bool) → cond b 1 0 < 100000
one_small true = omega arith
one_small false = omega arith

pairs_clean : (l n m : ℕ) (r : ℕ → ℕ → Bool) → 57 < l → n ≤ 128 → m ≤ 128 → All Clean (pair_rows l n m r)
pairs_clean l n m r c ln lm =
    all_below Clean n _ (λ a la. all_below Clean m _ (λ b lb. all_cond Clean (r a b) _ (λ _. plain_clean l (a ∷ b ∷ []) c (omega arith, (omega arith, tt)))))

capital : (l : Line) → 57 < letter_of l
capital (mark m) = omega arith
capital (negation a) = omega arith
capital (disjunction a b) = omega arith
capital (next a) = omega arith
capital (globally a) = omega arith
capital (until a b) = omega arith
capital (commitment i j a) = omega arith
capital (fulfilment i j a) = omega arith

module _ (h : Sheet) (v : Valid h) where
  lim : Limits h
  lim = limits h v

  pub header_fit : Fit (header_numbers h)
  header_fit = (
    omega (arith, lim.small_number),
    (omega (arith, lim.few_parties), (omega (arith, lim.few_channels), (omega (arith, lim.few_states), (omega (arith, lim.few_marks), tt)))),
  )

  pub state_fit : (s : ℕ) → s < h.states → Fit (state_numbers h s)
  state_fit s l =
      let p : 2 ^ h.marks ≤ 2 ^ 16 = pow_mono lim.few_marks in
      (omega (arith, lim.few_states), (one_small (h.start s), (omega (arith, v.marks_fit s, p), tt)))

  pub local_fit : (s p : ℕ) → s < h.states → p < h.parties → Fit (local_numbers h s p)
  local_fit s p ls lp = (
    omega (arith, lim.few_states),
    (
      omega (arith, lim.few_parties),
      (
        omega (arith, v.positions_fit s p),
        all_below (λ n. n < 100000) h.channels _ (λ c _. all_cond (λ n. n < 100000) (h.holds c p) (h.copy s p c) (λ _. omega (arith, v.copies_fit s p c))),
      ),
    ),
  )

  below : (a k : ℕ) → k ≤ 64 → ltb a k ≡ true → a < 100000
  below a k l e = omega (arith, ltb-true a k e)

  paired_fit : (i j a k : ℕ) → k ≤ 64 → (paired h i j && ltb a k) ≡ true → Fit (i ∷ j ∷ a ∷ [])
  paired_fit i j a k l e =
      let p = and_parts (paired h i j) (ltb a k) e in
      let q = and_parts (ltb i h.parties) _ p.0 in
      let r = and_parts (ltb j h.parties) _ q.1 in
      (omega (arith, ltb-true i _ q.0, lim.few_parties), (omega (arith, ltb-true j _ r.0, lim.few_parties), (below a k l p.1, tt)))

  pub line_fit : (l : Line) (k : ℕ) → k ≤ 64 → line_fits h k l ≡ true → Fit (numbers_of l)
  line_fit (mark m) k l e = (omega (arith, ltb-true m h.marks e, lim.few_marks), tt)
  line_fit (negation a) k l e = (below a k l e, tt)
  line_fit (disjunction a b) k l e = let p = and_parts (ltb a k) (ltb b k) e in (below a k l p.0, (below b k l p.1, tt))
  line_fit (next a) k l e = (below a k l e, tt)
  line_fit (globally a) k l e = (below a k l e, tt)
  line_fit (until a b) k l e = let p = and_parts (ltb a k) (ltb b k) e in (below a k l p.0, (below b k l p.1, tt))
  line_fit (commitment i j a) k l e = paired_fit i j a k l e
  line_fit (fulfilment i j a) k l e = paired_fit i j a k l e

  pub formulas_clean : (ls : List Line) (k : ℕ) → k + length ls ≤ 64 → lines_fit h k ls ≡ true → All Clean (formula_rows k ls)
  formulas_clean [] k l e = tt
  formulas_clean (x ∷ ls) k l e =
      let p = and_parts (line_fits h k x) (lines_fit h (k + 1) ls) e in
      (lettered_clean 70 k (letter_of x) (numbers_of x) (omega arith) (capital x) (omega arith) (line_fit x k (omega arith) p.0), formulas_clean ls (k + 1) (omega arith) p.1)

  pub rows_clean : All Clean (rows_of h)
  rows_clean = (
    plain_clean 72 (header_numbers h) (omega arith) header_fit,
    all_append Clean (holder_rows h) _ (pairs_clean 67 h.channels h.parties h.holds (omega arith) (omega (arith, lim.few_channels)) (omega (arith, lim.few_parties)))
        (all_append Clean (state_rows h) _ (all_below Clean h.states _ (λ s l. (plain_clean 83 (state_numbers h s) (omega arith) (state_fit s l), tt)))
        (all_append Clean (local_rows h) _
        (all_below Clean h.states _ (λ s ls. all_below Clean h.parties _ (λ p lp. (plain_clean 76 (local_numbers h s p) (omega arith) (local_fit s p ls lp), tt))))
        (all_append Clean (move_rows h) _ (pairs_clean 84 h.states h.states h.moves (omega arith) lim.few_states lim.few_states)
        (formulas_clean h.lines 0 (omega (arith, lim.few_lines)) v.lines_fit)))),
  )
