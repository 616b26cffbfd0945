-- The text of a valid sheet reads back as the sheet.
use Rattle.std.proofs.Common.{◌≡◌, ℕ, zero, suc, ◌+◌, ◌<◌, ◌≤◌, Bool, true, false, not, eqb, ltb, leb, List, [], ◌∷◌, ◌++◌, length, Ok, Result, sym, refl, ap, ◌∙◌, ⊎_elim, append_assoc, append-nil, arith}
use Rattle.std.specs.List.{flat_map, AllByRecursion as All}
use Rattle.std.proofs.lemmas.Bool.{and_parts, and_from, cases_eq, cases_lt, cond-true, cond-false, lt-leb, le-leb, le-ltb, not-true, both_ways}
use Rattle.semantics.specs.Cuts.{lines_of}
use Rattle.semantics.specs.Edits.{with_moves}
use Rattle.semantics.specs.Faults.{Fault, and_then}
use Rattle.semantics.specs.LineReading.{finished}
use Rattle.semantics.specs.Sets.{has_step}
use Rattle.semantics.specs.SheetReading.{Reading, header_line, holder_line, move_line, formula_line, listed, headed, with_holders, with_states, with_locals, with_lines, as_sheet, header_read, holders_read, states_read, locals_read, moves_read, formulas_read, stuck_state, last_checks, sections_read, sheet_read}
use Rattle.semantics.specs.Sheets.{Sheet, Line}
use Rattle.semantics.specs.SheetsRead.{SheetsReadBack, TextsDetermine}
use Rattle.semantics.specs.SheetText.{sheet_text}
use Rattle.semantics.specs.Validity.{Valid, between, moves_from}
use Rattle.semantics.proofs.Counts.{count_less}
use Rattle.semantics.proofs.EditValid.{lines_same}
use Rattle.semantics.proofs.FormulasRead.{formulas_turn}
use Rattle.semantics.proofs.NumberFields.{ok_same}
use Rattle.semantics.proofs.OnlySheets.{header_ranges}
use Rattle.semantics.proofs.PairsRead.{row_pairs, pairs_of, listed_pairs, row_length, pairs_turn, pair_read}
use Rattle.semantics.proofs.PlainLines.{plain_read}
use Rattle.semantics.proofs.Quantifiers.{all_says, least_at}
use Rattle.semantics.proofs.Rows.{Row, Clean, row_body, row_text, plain, plain_clean}
use Rattle.semantics.proofs.RowsRead.{lined, lines_rows, Apart, reading, due_read, turns_end}
use Rattle.semantics.proofs.SheetClean.{header_fit, state_fit, local_fit, formulas_clean, rows_clean}
use Rattle.semantics.proofs.SheetRows.{all_append, all_below, all_cond, header_numbers, state_numbers, local_numbers, holder_rows, state_rows, local_rows, move_rows, formula_rows, rows_of, sheet_text_law}
use Rattle.semantics.proofs.SheetSizes.{texts_short}
use Rattle.semantics.proofs.Sizes.{Limits, limits}
use Rattle.semantics.proofs.StatesRead.{states_take, locals_take, start_said, mark_sum_said, position_said, copy_said}
use Rattle.semantics.proofs.Uncutting.{Ends, finished_ends}

-- a section reads its rows, and the next one goes on behind them
abbrev Passes : (Reading Sheet → Result (Reading Sheet) Fault) → Sheet → List Row → Sheet → List Row → Type 0
Passes f g rows h rest = (n : ℕ) → (j : ℕ) × (f (reading g (rows ++ rest) n) ≡ Ok (reading h rest j))

after : (f : Reading Sheet → Result (Reading Sheet) Fault) (g : Sheet) (rows : List Row) (h : Sheet) (rest : List Row) → Passes f g rows h rest →
    (k : Reading Sheet → Result Sheet Fault) (n : ℕ) (r : Result Sheet Fault) → ((j : ℕ) → k (reading h rest j) ≡ r) →
    and_then (f (reading g (rows ++ rest) n)) k ≡ r
after f g rows h rest p k n r then = let x = p n in ap (λ v. and_then v k) x.1 ∙ then x.0

moves_rise : (h : Sheet) (k n : ℕ) → k ≤ n → moves_from h k ≤ moves_from h n
moves_rise h k zero l = let z : k ≡ 0 = omega arith in omega (arith, ap (moves_from h) z)
moves_rise h k (suc n) l = ⊎_elim
    (λ e. omega (arith, ap (moves_from h) e))
    (λ ne. omega (arith, moves_rise h k n (omega (arith, ne))))
    (cases_eq k (suc n))

formulas_apart : (b : ℕ) → eqb 70 b ≡ false → (ls : List Line) (k : ℕ) → All Clean (formula_rows k ls) → All (Apart b) (formula_rows k ls)
formulas_apart b e [] k c = tt
formulas_apart b e (l ∷ ls) k c = (record { clean = c.0; letter = e }, formulas_apart b e ls (k + 1) c.1)

rows_end : (rs : List Row) (r : Row) → Ends (flat_map row_text (r ∷ rs))
rows_end [] r = (row_body r, append-nil (row_text r))
rows_end (q ∷ rs) r = let x = rows_end rs q in (row_text r ++ x.0, ap (λ v. row_text r ++ v) x.1 ∙ sym (append_assoc (row_text r) x.0 (10 ∷ [])))

-- a sheet with the header and the holders of h
abbrev said : Sheet → (ℕ → Bool) → (ℕ → ℕ) → (ℕ → ℕ → ℕ) → (ℕ → ℕ → ℕ → ℕ) → (ℕ → ℕ → Bool) → List Line → Sheet
said h starts sums positions copies steps ls = record {
  number = h.number;
  parties = h.parties;
  channels = h.channels;
  states = h.states;
  marks = h.marks;
  holds = h.holds;
  start = starts;
  mark_sum = sums;
  position = positions;
  copy = copies;
  moves = steps;
  lines = ls;
}

module _ (h : Sheet) (v : Valid h) where
  lim : Limits h
  lim = limits h v

  abbrev after_h : Sheet
  after_h = headed (header_numbers h)

  abbrev after_c : Sheet
  after_c = with_holders after_h h.holds

  abbrev after_s : Sheet
  after_s = said h h.start h.mark_sum (λ s p. 0) (λ s p c. 0) (λ s t. false) []

  abbrev after_l : Sheet
  after_l = said h h.start h.mark_sum h.position h.copy (λ s t. false) []

  abbrev after_t : Sheet
  after_t = said h h.start h.mark_sum h.position h.copy h.moves []

  clean_formulas : All Clean (formula_rows 0 h.lines)
  clean_formulas = formulas_clean h v h.lines 0 (omega (arith, lim.few_lines)) v.lines_fit

  -- what stands behind the C lines
  abbrev behind_c : List Row
  behind_c = state_rows h ++ (local_rows h ++ (move_rows h ++ formula_rows 0 h.lines))

  apart_c : All (Apart 67) behind_c
  apart_c =
      all_append (Apart 67) (state_rows h) _
      (all_below _ h.states _ (λ s l. (record { clean = plain_clean 83 (state_numbers h s) (omega arith) (state_fit h v s l); letter = refl }, tt)))
      (all_append (Apart 67) (local_rows h) _
      (all_below _ h.states _ (λ s ls. all_below _ h.parties _ (λ p lp. (record { clean = plain_clean 76 (local_numbers h s p) (omega arith) (local_fit h v s p ls lp); letter = refl }, tt))))
      (all_append (Apart 67) (move_rows h) _
      (all_below _ h.states _ (λ s ls. all_below _ h.states _ (λ t lt. all_cond _ (h.moves s t) _
      (λ _. record { clean = plain_clean 84 (s ∷ t ∷ []) (omega arith) (omega (arith, lim.few_states), (omega (arith, lim.few_states), tt)); letter = refl }))))
      (formulas_apart 67 refl h.lines 0 clean_formulas)))

  header_passes : (rest : List Row) → header_read (lined (plain 72 (header_numbers h) ∷ rest)) ≡ Ok (reading after_h rest 2)
  header_passes rest =
      let a = and_parts (between 1 9999 h.number) _ v.sizes_fit in
      let b = and_parts (between 2 6 h.parties) _ a.1 in
      let c = and_parts (leb h.channels 8) _ b.1 in
      let d = and_parts (between 1 128 h.states) _ c.1 in
      let e = and_parts (leb h.marks 16) (leb (length h.lines) 64) d.1 in
      ap (as_sheet headed) (due_read 72 header_line 1 (plain 72 (header_numbers h)) rest (header_numbers h)
      (record { clean = plain_clean 72 (header_numbers h) (omega arith) (header_fit h v); letter = refl })
      (plain_read header_ranges (λ _. true) 72 1 (header_numbers h)
      (a.0, (b.0, (and_from (leb 0 h.channels) _ (le-leb 0 _ (omega arith)) c.0, (d.0, (and_from (leb 0 h.marks) _ (le-leb 0 _ (omega arith)) e.0, tt)))))
      (header_fit h v) refl))

  holders_pass : Passes holders_read after_h (holder_rows h) after_c behind_c
  holders_pass n =
      let few-c : h.channels ≤ 128 = omega (arith, lim.few_channels) in
      let few-p : h.parties ≤ 128 = omega (arith, lim.few_parties) in
      let t = turns_end 67 (holder_line after_h) [] (pairs_of h.holds h.parties h.channels) (holder_rows h) behind_c
      (pairs_turn h.holds h.parties h.channels 67 (holder_line after_h) (omega arith) few-c few-p
      (λ a b la lb _ n. pair_read h.holds h.parties h.channels 67 a b n la lb few-c few-p)) apart_c n in (
        t.0,
        ap (as_sheet (λ ps. with_holders after_h (listed ps))) t.1
            ∙ ap (λ r. Ok (reading (with_holders after_h r) behind_c t.0)) (listed_pairs h.holds h.parties h.channels v.holders_exist),
      )

  states_pass : (rest : List Row) → Passes states_read after_c (state_rows h) after_s rest
  states_pass rest n =
      let t = states_take after_c h v refl refl refl refl refl (reading after_c (state_rows h ++ rest) n) rest refl in
      (t.0, ap (as_sheet (with_states after_c)) t.1 ∙ (λ i. Ok (reading (said h (start_said h v i) (mark_sum_said h v i) (λ s p. 0) (λ s p c. 0) (λ s t. false) []) rest t.0)))

  locals_pass : (rest : List Row) → Passes locals_read after_s (local_rows h) after_l rest
  locals_pass rest n =
      let t = locals_take after_s h v refl refl refl refl refl (reading after_s (local_rows h ++ rest) n) rest refl in
      (t.0, ap (as_sheet (with_locals after_s)) t.1 ∙ (λ i. Ok (reading (said h h.start h.mark_sum (position_said h v i) (copy_said h v i) (λ s t. false) []) rest t.0)))

  pairs_count : (a : ℕ) → length (pairs_of h.moves h.states a) ≡ moves_from h a
  pairs_count zero = refl
  pairs_count (suc a) = row_length h.moves h.states a h.states (pairs_of h.moves h.states a) ∙ omega (arith, pairs_count a)

  -- where a move is to be read, not all have been
  few_read : (a b : ℕ) → a < h.states → b < h.states → h.moves a b ≡ true → length (row_pairs h.moves h.states a b (pairs_of h.moves h.states a)) < 1024
  few_read a b la lb on =
      omega (
        arith,
        row_length h.moves h.states a b (pairs_of h.moves h.states a),
        pairs_count a,
        count_less h.states (h.moves a) b lb on,
        moves_rise h (suc a) h.states (omega arith),
        v.moves_few,
      )

  moves_pass : Passes moves_read after_l (move_rows h) after_t (formula_rows 0 h.lines)
  moves_pass n =
      let few = lim.few_states in
      let t = turns_end 84 (move_line after_l) [] (pairs_of h.moves h.states h.states) (move_rows h) (formula_rows 0 h.lines)
      (pairs_turn h.moves h.states h.states 84 (move_line after_l) (omega arith) few few
      (λ a b la lb on n. cond-false (leb 1024 (length (row_pairs h.moves h.states a b (pairs_of h.moves h.states a)))) _ _ (lt-leb 1024 _ (few_read a b la lb on))
      ∙ pair_read h.moves h.states h.states 84 a b n la lb few few)) (formulas_apart 84 refl h.lines 0 clean_formulas) n in (
        t.0,
        ap (as_sheet (λ ps. with_moves after_l (listed ps))) t.1
            ∙ ap (λ r. Ok (reading (with_moves after_l r) (formula_rows 0 h.lines) t.0)) (listed_pairs h.moves h.states h.states v.moves_exist),
      )

  formulas_pass : Passes formulas_read after_t (formula_rows 0 h.lines) h []
  formulas_pass n =
      let t = turns_end 70 (formula_line after_t) [] h.lines (formula_rows 0 h.lines) []
      (formulas_turn after_t lim.few_parties lim.few_marks h.lines [] clean_formulas (omega (arith, lim.few_lines)) (lines_same after_t h refl (λ i j. refl) h.lines 0 ∙ v.lines_fit))
      tt n in
      (t.0, ap (as_sheet (with_lines after_t)) t.1)

  none_stuck : h.states ≤ stuck_state h
  none_stuck = ⊎_elim
      (λ l. absurd (both_ways _ (not-true _ (least_at h.states (λ s. not (has_step h.states h.moves s)) l)) ((all_says h.states (has_step h.states h.moves)).0 v.moves_leave _ l)))
      (λ m. m)
      (cases_lt (stuck_state h) h.states)

  sections_pass : sections_read (lined (rows_of h)) ≡ Ok h
  unfolding sections_read
  sections_pass =
      ap (λ r. and_then r (λ a. and_then (holders_read a) (λ b. and_then (states_read b) (λ c. and_then (locals_read c) (λ d. and_then (moves_read d) (λ e. and_then (formulas_read e) last_checks))))))
      (header_passes (holder_rows h ++ behind_c))
      ∙ after holders_read after_h (holder_rows h) after_c behind_c holders_pass _ 2 (Ok h) (λ i.
      after states_read after_c (state_rows h) after_s _ (states_pass _) _ i (Ok h) (λ j.
      after locals_read after_s (local_rows h) after_l _ (locals_pass _) _ j (Ok h) (λ k.
      after moves_read after_l (move_rows h) after_t _ moves_pass _ k (Ok h) (λ l.
      ap (λ rs. and_then (formulas_read (reading after_t rs l)) last_checks) (sym (append-nil (formula_rows 0 h.lines)))
      ∙ after formulas_read after_t (formula_rows 0 h.lines) h [] formulas_pass last_checks l (Ok h) (λ m.
      cond-true _ _ _ v.some_start ∙ cond-false (ltb (stuck_state h) h.states) _ _ (le-ltb _ _ none_stuck))))))

pub sheets_read_back : SheetsReadBack
unfolding sheet_read
sheets_read_back h v =
    cond-false (ltb 65536 (length (sheet_text h))) _ _ (le-ltb _ _ (texts_short h v))
    ∙ cond-true (finished (sheet_text h)) _ _ (ap finished (sheet_text_law h) ∙ finished_ends (flat_map row_text (rows_of h)) (rows_end (holder_rows h ++ behind_c h v) (plain 72 (header_numbers h))))
    ∙ ap sections_read (ap lines_of (sheet_text_law h) ∙ lines_rows (rows_of h) (rows_clean h v))
    ∙ sections_pass h v

-- so two valid sheets with one text are one sheet
pub texts_determine : TextsDetermine
texts_determine g h v w e = ok_same g h (sym (sheets_read_back g v) ∙ ap sheet_read e ∙ sheets_read_back h w)
