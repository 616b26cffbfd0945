-- The text of a valid sheet is short enough to be read.
use Rattle.std.proofs.Common.{◌≡◌, ℕ, zero, suc, ◌+◌, ◌*◌, ◌<◌, ◌≤◌, Bool, true, false, cond, List, [], ◌∷◌, ◌++◌, length, decimal, ap, mul-add, arith, length-append}
use Rattle.std.proofs.lemmas.Bool.{and_parts}
use Rattle.std.proofs.lemmas.Fmt.{length-decimal-le}
use Rattle.semantics.specs.Sets.{count}
use Rattle.semantics.specs.Sheets.{Sheet, Line, mark, negation, disjunction, next, globally, until, commitment, fulfilment}
use Rattle.semantics.specs.SheetsRead.{TextsShort}
use Rattle.semantics.specs.SheetText.{header_text, holders_text, states_text, copies_text, local_text, locals_text, moves_text, formula_text, sheet_text}
use Rattle.semantics.specs.Validity.{Valid, moves_from, line_fits, lines_fit}
use Rattle.semantics.specs.Written.{fields_text, line_text, lettered_text, texts_below, numbered_text}
use Rattle.semantics.proofs.Decimals.{decimal_length}
use Rattle.semantics.proofs.Rows.{Fit}
use Rattle.semantics.proofs.SheetClean.{header_fit, state_fit, line_fit}
use Rattle.semantics.proofs.SheetRows.{header_numbers, state_numbers, letter_of, numbers_of, formula_lettered}
use Rattle.semantics.proofs.Sizes.{Limits, limits}
use Rattle.semantics.proofs.TextLengths.{text_length}

fit_length : (ns : List ℕ) → Fit ns → length (fields_text ns) ≤ 6 * length ns
fit_length [] f = omega arith
fit_length (n ∷ ns) f =
    omega (arith, length-append (44 ∷ decimal n) (fields_text ns), length-decimal-le 5 n (omega arith) (omega (arith, f.0)) (omega (arith, f.0)), fit_length ns f.1)

line_length : (l : ℕ) (ns : List ℕ) → Fit ns → length (line_text l ns) ≤ 2 + 6 * length ns
line_length l ns f = omega (arith, length-append (fields_text ns) (10 ∷ []), fit_length ns f)

cond_length : (b : Bool) (t : List ℕ) (most : ℕ) → length t ≤ most → length (cond b t []) ≤ most
cond_length true t most l = l
cond_length false t most l = omega arith

lettered_fit_length : (kind k letter : ℕ) (ns : List ℕ) → k < 100000 → Fit ns → length (lettered_text kind k letter ns) ≤ 10 + 6 * length ns
lettered_fit_length kind k letter ns l f =
    omega (
      arith,
      length-append (fields_text (k ∷ [])) (44 ∷ letter ∷ (fields_text ns ++ 10 ∷ [])),
      length-append (fields_text ns) (10 ∷ []),
      fit_length (k ∷ []) (l, tt),
      fit_length ns f,
    )

few_numbers : (l : Line) → length (numbers_of l) ≤ 3
few_numbers (mark m) = omega arith
few_numbers (negation a) = omega arith
few_numbers (disjunction a b) = omega arith
few_numbers (next a) = omega arith
few_numbers (globally a) = omega arith
few_numbers (until a b) = omega arith
few_numbers (commitment i j a) = omega arith
few_numbers (fulfilment i j a) = omega arith

-- texts of at most so many bytes each
below_length : (n most : ℕ) (f : ℕ → List ℕ) → ((k : ℕ) → k < n → length (f k) ≤ most) → length (texts_below n f) ≤ most * n
unfolding texts_below
below_length zero most f e = omega arith
below_length (suc n) most f e =
    omega (arith, length-append (texts_below n f) (f n), e n (omega arith), below_length n most f (λ k l. e k (omega arith)), mul-add most n 1)

-- a line of two numbers for each pair of a relation
pairs_length : (l n : ℕ) (r : ℕ → Bool) (a : ℕ) → a < 1000 → n ≤ 1000 → length (texts_below n (λ b. cond (r b) (line_text l (a ∷ b ∷ [])) [])) ≤ 14 * count n r
unfolding texts_below
pairs_length l zero r a la ln = omega arith
pairs_length l (suc n) r a la ln =
    omega (arith, length-append (texts_below n (λ b. cond (r b) (line_text l (a ∷ b ∷ [])) [])) (cond (r n) (line_text l (a ∷ n ∷ [])) []), pairs_length l n r a la (omega arith), one (r n))
  where
    one : (b : Bool) → length (cond b (line_text l (a ∷ n ∷ [])) []) ≤ 14 * cond b 1 0
    one true = omega (arith, line_length l (a ∷ n ∷ []) (omega arith, (omega arith, tt)))
    one false = omega arith

moves_length : (h : Sheet) (k : ℕ) → k ≤ h.states → h.states ≤ 128 →
    length (texts_below k (λ s. texts_below h.states (λ t. cond (h.moves s t) (line_text 84 (s ∷ t ∷ [])) []))) ≤ 14 * moves_from h k
unfolding texts_below
moves_length h zero l few = omega arith
moves_length h (suc k) l few =
    omega (
      arith,
      length-append (texts_below k (λ s. texts_below h.states (λ t. cond (h.moves s t) (line_text 84 (s ∷ t ∷ [])) [])))
          (texts_below h.states (λ t. cond (h.moves k t) (line_text 84 (k ∷ t ∷ [])) [])),
      moves_length h k (omega arith) few,
      pairs_length 84 h.states (h.moves k) k (omega arith) (omega arith),
    )

module _ (h : Sheet) (v : Valid h) where
  lim : Limits h
  lim = limits h v

  holders_length : length (holders_text h) ≤ 84 * h.channels
  holders_length = below_length h.channels 84 _ (λ c l.
      let few : h.channels ≤ 8 = lim.few_channels in
      let parties : h.parties ≤ 6 = lim.few_parties in
      let inner = below_length h.parties 14 (λ p. cond (h.holds c p) (line_text 67 (c ∷ p ∷ [])) [])
      (λ p k. cond_length (h.holds c p) _ 14 (omega (arith, line_length 67 (c ∷ p ∷ []) (omega arith, (omega arith, tt))))) in
      omega arith)

  states_length : length (states_text h) ≤ 20 * h.states
  states_length = below_length h.states 20 _ (λ s l. omega (arith, line_length 83 (state_numbers h s) (state_fit h v s l)))

  copies_length : (s p : ℕ) → length (copies_text h s p) ≤ 4 * h.channels
  copies_length s p = below_length h.channels 4 _ (λ c l.
      cond_length (h.holds c p) (44 ∷ decimal (h.copy s p c)) 4 (omega (arith, decimal_length (h.copy s p c) (omega (arith, v.copies_fit s p c)))))

  local_length : (s p : ℕ) → s < h.states → p < h.parties → length (local_text h s p) ≤ 46
  local_length s p ls lp =
      let states : h.states ≤ 128 = lim.few_states in
      let parties : h.parties ≤ 6 = lim.few_parties in
      let front = text_length (s ∷ p ∷ h.position s p ∷ []) (omega arith, (omega arith, (omega (arith, v.positions_fit s p), tt))) in
      omega (
        arith,
        length-append (fields_text (s ∷ p ∷ h.position s p ∷ [])) (copies_text h s p ++ 10 ∷ []),
        length-append (copies_text h s p) (10 ∷ []),
        copies_length s p,
        lim.few_channels,
      )

  locals_length : length (locals_text h) ≤ 276 * h.states
  locals_length = below_length h.states 276 _ (λ s ls.
      omega (arith, below_length h.parties 46 (local_text h s) (λ p lp. local_length s p ls lp), lim.few_parties))

  formulas_length : (ls : List Line) (k : ℕ) → k + length ls ≤ 64 → lines_fit h k ls ≡ true → length (numbered_text formula_text k ls) ≤ 28 * length ls
  formulas_length [] k l e = omega arith
  formulas_length (x ∷ ls) k l e =
      let p = and_parts (line_fits h k x) (lines_fit h (k + 1) ls) e in
      omega (
        arith,
        length-append (formula_text k x) (numbered_text formula_text (k + 1) ls),
        ap length (formula_lettered k x),
        lettered_fit_length 70 k (letter_of x) (numbers_of x) (omega arith) (line_fit h v x k (omega arith) p.0),
        few_numbers x,
        formulas_length ls (k + 1) (omega arith) p.1,
      )

  sheet_length : length (sheet_text h) ≤ 65536
  unfolding sheet_text
  sheet_length =
      let formulas = numbered_text formula_text 0 h.lines in
      let few = lim in
      let header = line_length 72 (header_numbers h) (header_fit h v) in
      let last = formulas_length h.lines 0 (omega arith) v.lines_fit in
      omega (
        arith,
        v.moves_few,
        holders_length,
        states_length,
        locals_length,
        moves_length h h.states (omega arith) few.few_states,
        length-append (header_text h) (holders_text h ++ (states_text h ++ (locals_text h ++ (moves_text h ++ formulas)))),
        length-append (holders_text h) (states_text h ++ (locals_text h ++ (moves_text h ++ formulas))),
        length-append (states_text h) (locals_text h ++ (moves_text h ++ formulas)),
        length-append (locals_text h) (moves_text h ++ formulas),
        length-append (moves_text h) formulas,
      )

pub texts_short : TextsShort
texts_short h v = sheet_length h v
