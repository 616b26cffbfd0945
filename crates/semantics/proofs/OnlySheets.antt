-- What is read as a sheet is the text of a valid sheet.
use Rattle.std.proofs.Common.{◌≡◌, ℕ, ◌^◌, ◌<◌, ◌≤◌, Bool, true, false, not, eqb, ltb, leb, ◌⊎◌, List, [], ◌∷◌, ◌++◌, length, get_or, drop, Ok, Err, Result, sym, refl, ap, ◌∙◌, subst, inl, inr, ⊎_elim, append-nil, arith, pow_pos}
use Rattle.std.proofs.lemmas.List.{get_or_past, nil_from_length}
use Rattle.std.proofs.lemmas.Bool.{and_parts, and_from, cases_lt, cond_both, not-false, leb-false, le-leb, ltb-false, false≢true}
use Rattle.semantics.specs.Cuts.{lines_of, fields_of}
use Rattle.semantics.specs.Edits.{with_moves}
use Rattle.semantics.specs.Faults.{Fault, and_then}
use Rattle.semantics.specs.LineReading.{at, finished}
use Rattle.semantics.specs.Sets.{any, has_step}
use Rattle.semantics.specs.SheetReading.{Reading, leads, while_in, due_in, due_line, each_due, listed, header_line, holder_line, state_line, held_below, local_line, move_line, formula_line, headed, with_holders, with_states, with_locals, with_lines, as_sheet, states_read, locals_read, moves_read, formulas_read, stuck_state, last_checks, sections_read, sheet_read}
use Rattle.semantics.specs.Sheets.{Sheet, Line}
use Rattle.semantics.specs.SheetsRead.{OnlySheetsRead}
use Rattle.semantics.specs.SheetText.{header_text, holders_text, states_text, locals_text, moves_text, formula_text, sheet_text}
use Rattle.semantics.specs.Validity.{Valid, between}
use Rattle.semantics.specs.Written.{line_text, numbered_text}
use Rattle.semantics.proofs.BelowTexts.{texts_none}
use Rattle.semantics.proofs.EditValid.{lines_same}
use Rattle.semantics.proofs.FormulasBack.{lines_each, Fitting, formula_step}
use Rattle.semantics.proofs.NumberFields.{ok_same, err_ok, passed, held_back, Ranged}
use Rattle.semantics.proofs.PairsBack.{Rising, listed_below, pairs_text, pair_step, listed_count}
use Rattle.semantics.proofs.PlainLines.{due_back}
use Rattle.semantics.proofs.Quantifiers.{all_says, least_before}
use Rattle.semantics.proofs.SectionsBack.{while_back}
use Rattle.semantics.proofs.StatesBack.{SmallValues, SmallRow, states_written, locals_written, states_back, locals_back}
use Rattle.semantics.proofs.Uncutting.{ended, lines_back}

-- a section that was read, and the sheet that the next one goes on with
section : {X : Type 0} (f : X → Sheet) (r : Result (Reading X) Fault) (k : Reading Sheet → Result Sheet Fault) (h : Sheet) → and_then (as_sheet f r) k ≡ Ok h →
    (b : Reading X) × (r ≡ Ok b) × (k (record { known = f b.known; left = b.left; line = b.line }) ≡ Ok h)
section f (Ok b) k h e = (b, refl, e)
section f (Err x) k h e = absurd (err_ok x h e)

abbrev pub header_ranges : List (ℕ → Bool)
header_ranges = between 1 9999 ∷ between 2 6 ∷ between 0 8 ∷ between 1 128 ∷ between 0 16 ∷ []

-- the numbers of a header
record Header (xs : List ℕ) : Type 0 where
  five : xs ≡ at xs 0 ∷ at xs 1 ∷ at xs 2 ∷ at xs 3 ∷ at xs 4 ∷ []
  number : between 1 9999 (at xs 0) ≡ true
  parties : between 2 6 (at xs 1) ≡ true
  channels : leb (at xs 2) 8 ≡ true
  states : between 1 128 (at xs 3) ≡ true
  marks : leb (at xs 4) 16 ≡ true

header_from : (xs : List ℕ) → Ranged header_ranges xs → Header xs
header_from [] r = absurd r
header_from (a ∷ []) r = absurd r.1
header_from (a ∷ b ∷ []) r = absurd r.1.1
header_from (a ∷ b ∷ c ∷ []) r = absurd r.1.1.1
header_from (a ∷ b ∷ c ∷ d ∷ []) r = absurd r.1.1.1.1
header_from (a ∷ b ∷ c ∷ d ∷ e ∷ []) r = record {
  five = refl;
  number = r.0;
  parties = r.1.0;
  channels = (and_parts (leb 0 c) (leb c 8) r.1.1.0).1;
  states = r.1.1.1.0;
  marks = (and_parts (leb 0 e) (leb e 16) r.1.1.1.1.0).1;
}
header_from (a ∷ b ∷ c ∷ d ∷ e ∷ f ∷ xs) r = absurd r.1.1.1.1.1

-- the sheets so far, behind each section
abbrev with_c : List ℕ → List (List ℕ) → Sheet
with_c xs ps = with_holders (headed xs) (listed ps)

abbrev with_s : List ℕ → List (List ℕ) → List (List ℕ) → Sheet
with_s xs ps rows = with_states (with_c xs ps) rows

abbrev with_l : List ℕ → List (List ℕ) → List (List ℕ) → List (List (List ℕ)) → Sheet
with_l xs ps rows locals = with_locals (with_s xs ps rows) locals

abbrev with_t : List ℕ → List (List ℕ) → List (List ℕ) → List (List (List ℕ)) → List (List ℕ) → Sheet
with_t xs ps rows locals qs = with_moves (with_l xs ps rows locals) (listed qs)

abbrev with_f : List ℕ → List (List ℕ) → List (List ℕ) → List (List (List ℕ)) → List (List ℕ) → List Line → Sheet
with_f xs ps rows locals qs fs = with_lines (with_t xs ps rows locals qs) fs

-- all that the sections said, put together
module _ (xs : List ℕ) (ps rows : List (List ℕ)) (locals : List (List (List ℕ))) (qs : List (List ℕ)) (fs : List Line) where
  abbrev held : Sheet
  held = with_s xs ps rows

  abbrev whole : Sheet
  whole = with_f xs ps rows locals qs fs

  record Parts : Type 0 where
    header : Header xs
    holders : Rising (at xs 2) (at xs 1) ps
    states : length rows ≡ at xs 3
    marks : (s : ℕ) → s < at xs 3 → at (get_or rows s []) 2 < 2 ^ at xs 4
    locals_states : length locals ≡ at xs 3
    small : (s : ℕ) → s < at xs 3 → SmallRow held (get_or locals s [])
    moves : Rising (at xs 3) (at xs 3) qs
    few_moves : length qs ≤ 1024
    formulas : Fitting (with_t xs ps rows locals qs) fs
    some_start : any (at xs 3) whole.start ≡ true
    none_stuck : at xs 3 ≤ stuck_state whole

  module _ (w : Parts) where
    state_row : (s : ℕ) → (s < at xs 3) ⊎ (get_or rows s [] ≡ [])
    state_row s = ⊎_elim inl (λ m. inr (get_or_past rows s [] (omega (arith, w.states)))) (cases_lt s (at xs 3))

    local_row : (s p : ℕ) → ((s < at xs 3) × (p < at xs 1)) ⊎ (get_or (get_or locals s []) p [] ≡ [])
    local_row s p = ⊎_elim
        (λ l. ⊎_elim (λ k. inl (l, k)) (λ m. inr (get_or_past (get_or locals s []) p [] (omega (arith, (w.small s l).0)))) (cases_lt p (at xs 1)))
        (λ m. inr (ap (λ v. get_or v p []) (get_or_past locals s [] (omega (arith, w.locals_states)))))
        (cases_lt s (at xs 3))

    values_small : (s p : ℕ) → SmallValues held (get_or (get_or locals s []) p [])
    values_small s p = ⊎_elim
        (λ l. (w.small s l.0).1 p l.1)
        (λ e. subst (SmallValues held) (sym e) (omega arith, λ i. omega arith))
        (local_row s p)

    start_exists : (s : ℕ) → whole.start s ≡ true → s < at xs 3
    start_exists s e = ⊎_elim (λ l. l) (λ z. absurd (false≢true (ap (λ v. eqb (at v 1) 1) (sym z) ∙ e))) (state_row s)

    mark_fits : (s : ℕ) → whole.mark_sum s < 2 ^ at xs 4
    mark_fits s = ⊎_elim (w.marks s) (λ z. subst (λ v. at v 2 < 2 ^ at xs 4) (sym z) (pow_pos (at xs 4))) (state_row s)

    mark_placed : (s : ℕ) → 0 < whole.mark_sum s → s < at xs 3
    mark_placed s l = ⊎_elim (λ m. m) (λ z. absurd (omega (arith, ap (λ v. at v 2) z))) (state_row s)

    position_placed : (s p : ℕ) → 0 < whole.position s p → (s < at xs 3) × (p < at xs 1)
    position_placed s p l = ⊎_elim (λ m. m) (λ z. absurd (omega (arith, ap (λ v. at v 2) z))) (local_row s p)

    copy_fits : (s p c : ℕ) → whole.copy s p c ≤ 999
    copy_fits s p c =
        let f = (values_small s p).1 (held_below held c p) in
        cond_both (listed ps c p) (at (drop 3 (get_or (get_or locals s []) p [])) (held_below held c p)) 0 (λ x. x ≤ 999) (λ _. omega arith) (λ _. omega arith)

    copy_placed : (s p c : ℕ) → 0 < whole.copy s p c → (s < at xs 3) × (listed ps c p ≡ true)
    copy_placed s p c =
        cond_both (listed ps c p) (at (drop 3 (get_or (get_or locals s []) p [])) (held_below held c p)) 0 (λ x. 0 < x → (s < at xs 3) × (listed ps c p ≡ true))
        (λ on l. ⊎_elim (λ m. (m.0, on)) (λ z. absurd (omega (arith, ap (λ v. at (drop 3 v) (held_below held c p)) z))) (local_row s p))
        (λ _ l. absurd (omega arith))

    valid : Valid whole
    valid = record {
      sizes_fit = and_from _ _ w.header.number (and_from _ _ w.header.parties (and_from _ _ w.header.channels
          (and_from _ _ w.header.states (and_from _ _ w.header.marks (le-leb _ _ w.formulas.0)))));
      holders_exist = listed_below (at xs 2) (at xs 1) ps w.holders;
      starts_exist = start_exists;
      marks_fit = mark_fits;
      marks_placed = mark_placed;
      positions_fit = λ s p. omega (arith, (values_small s p).0);
      positions_placed = position_placed;
      copies_fit = copy_fits;
      copies_placed = copy_placed;
      moves_exist = listed_below (at xs 3) (at xs 3) qs w.moves;
      moves_few = omega (arith, listed_count whole qs (at xs 3), w.few_moves);
      some_start = w.some_start;
      moves_leave = (all_says (at xs 3) (has_step (at xs 3) (listed qs))).1
          (λ s l. not-false _ (least_before (at xs 3) (λ s. not (has_step (at xs 3) (listed qs) s)) s (omega (arith, w.none_stuck))));
      lines_fit = lines_same whole (with_t xs ps rows locals qs) refl (λ i j. refl) fs 0 ∙ lines_each (with_t xs ps rows locals qs) fs 0 ∙ w.formulas.1;
    }

-- without lines there are no pairs
no_pairs : (m k t : ℕ) → pairs_text m k t [] ≡ []
no_pairs m k t = texts_none m _ (λ a _. texts_none k _ (λ b _. refl))

holders_back : (h : Sheet) (ls : List (List ℕ)) (n : ℕ) (r : Reading (List (List ℕ))) → while_in 67 (holder_line h) [] n ls ≡ Ok r →
    (Rising h.channels h.parties r.known) × (ended ls ≡ pairs_text h.channels h.parties 67 r.known ++ ended r.left)
holders_back h ls n r e =
    let m = h.channels in
    let k = h.parties in
    let t = while_back 67 (holder_line h) (Rising m k) (pairs_text m k 67) (λ ps n l qs w first e. let p = pair_step m k 67 ps n l qs w first e in (p.0, p.1)) ls [] n r tt e in
    (t.0, ap (λ v. v ++ ended ls) (sym (no_pairs m k 67)) ∙ t.1)

-- rising moves, of which there are not too many
abbrev Moves : ℕ → List (List ℕ) → Type 0
Moves m qs = (Rising m m qs) × (length qs ≤ 1024)

moves_back : (h : Sheet) (ls : List (List ℕ)) (n : ℕ) (r : Reading (List (List ℕ))) → while_in 84 (move_line h) [] n ls ≡ Ok r →
    (Moves h.states r.known) × (ended ls ≡ pairs_text h.states h.states 84 r.known ++ ended r.left)
moves_back h ls n r e =
    let m = h.states in
    let t = while_back 84 (move_line h) (Moves m) (pairs_text m m 84) step ls [] n r (tt, omega arith) e in
    (t.0, ap (λ v. v ++ ended ls) (sym (no_pairs m m 84)) ∙ t.1)
  where
    step : (ps : List (List ℕ)) (n : ℕ) (l : List ℕ) (qs : List (List ℕ)) → Moves h.states ps → leads 84 l ≡ true → move_line h ps n (fields_of l) ≡ Ok qs →
        (Moves h.states qs) × (pairs_text h.states h.states 84 qs ≡ pairs_text h.states h.states 84 ps ++ (l ++ 10 ∷ []))
    step ps n l qs w first e =
        let c = held_back (leb 1024 (length ps)) _ _ qs e in
        let p = pair_step h.states h.states 84 ps n l qs w.0 first c.1 in
        ((p.0, omega (arith, p.2, leb-false 1024 (length ps) c.0)), p.1)

formulas_back : (h : Sheet) (ls : List (List ℕ)) (n : ℕ) (r : Reading (List Line)) → while_in 70 (formula_line h) [] n ls ≡ Ok r →
    (Fitting h r.known) × (ended ls ≡ numbered_text formula_text 0 r.known ++ ended r.left)
formulas_back h ls n r e = while_back 70 (formula_line h) (Fitting h) (numbered_text formula_text 0) (formula_step h) ls [] n r (omega arith, refl) e

no_line : (ls : List (List ℕ)) → ltb 0 (length ls) ≡ false → ls ≡ []
no_line ls e = nil_from_length ls (omega (arith, ltb-false 0 (length ls) e))

-- what was read from each section on
record FromF (xs : List ℕ) (ps rows : List (List ℕ)) (locals : List (List (List ℕ))) (qs left : List (List ℕ)) (h : Sheet) : Type 0 where
  fs : List Line
  fitting : Fitting (with_t xs ps rows locals qs) fs
  text : ended left ≡ numbered_text formula_text 0 fs
  some_start : any (at xs 3) (with_f xs ps rows locals qs fs).start ≡ true
  none_stuck : at xs 3 ≤ stuck_state (with_f xs ps rows locals qs fs)
  same : with_f xs ps rows locals qs fs ≡ h

record FromT (xs : List ℕ) (ps rows : List (List ℕ)) (locals : List (List (List ℕ))) (left : List (List ℕ)) (h : Sheet) : Type 0 where
  qs : List (List ℕ)
  behind : List (List ℕ)
  moves : Moves (at xs 3) qs
  text : ended left ≡ pairs_text (at xs 3) (at xs 3) 84 qs ++ ended behind
  then : FromF xs ps rows locals qs behind h

record FromL (xs : List ℕ) (ps rows left : List (List ℕ)) (h : Sheet) : Type 0 where
  locals : List (List (List ℕ))
  behind : List (List ℕ)
  all : length locals ≡ at xs 3
  small : (s : ℕ) → s < at xs 3 → SmallRow (with_s xs ps rows) (get_or locals s [])
  text : ended left ≡ locals_written (with_s xs ps rows) locals ++ ended behind
  then : FromT xs ps rows locals behind h

record FromS (xs : List ℕ) (ps left : List (List ℕ)) (h : Sheet) : Type 0 where
  rows : List (List ℕ)
  behind : List (List ℕ)
  all : length rows ≡ at xs 3
  marks : (s : ℕ) → s < at xs 3 → at (get_or rows s []) 2 < 2 ^ at xs 4
  text : ended left ≡ states_written (with_c xs ps) rows ++ ended behind
  then : FromL xs ps rows behind h

from_f : (xs : List ℕ) (ps rows : List (List ℕ)) (locals : List (List (List ℕ))) (qs left : List (List ℕ)) (n : ℕ) (h : Sheet) →
    and_then (formulas_read (record { known = with_t xs ps rows locals qs; left = left; line = n })) last_checks ≡ Ok h → FromF xs ps rows locals qs left h
from_f xs ps rows locals qs left n h e =
    let so_far = with_t xs ps rows locals qs in
    let g = section (with_lines so_far) (while_in 70 (formula_line so_far) [] n left) last_checks h e in
    let f = formulas_back so_far left n g.0 g.1 in
    let i = held_back (ltb 0 (length g.0.left)) _ _ h g.2 in
    let j = passed (any (at xs 3) so_far.start) _ _ h i.1 in
    let k = held_back (ltb (stuck_state (with_lines so_far g.0.known)) (at xs 3)) _ _ h j.1 in
    record {
      fs = g.0.known;
      fitting = f.0;
      text = f.1 ∙ ap (λ v. numbered_text formula_text 0 g.0.known ++ ended v) (no_line g.0.left i.0) ∙ append-nil (numbered_text formula_text 0 g.0.known);
      some_start = j.0;
      none_stuck = ltb-false _ _ k.0;
      same = ok_same _ h k.1;
    }

from_t : (xs : List ℕ) (ps rows : List (List ℕ)) (locals : List (List (List ℕ))) (left : List (List ℕ)) (n : ℕ) (h : Sheet) →
    and_then (moves_read (record { known = with_l xs ps rows locals; left = left; line = n })) (λ e. and_then (formulas_read e) last_checks) ≡ Ok h →
    FromT xs ps rows locals left h
from_t xs ps rows locals left n h e =
    let so_far = with_l xs ps rows locals in
    let g = section (λ qs. with_moves so_far (listed qs)) (while_in 84 (move_line so_far) [] n left) (λ e. and_then (formulas_read e) last_checks) h e in
    let m = moves_back so_far left n g.0 g.1 in
    record {
      qs = g.0.known;
      behind = g.0.left;
      moves = m.0;
      text = m.1;
      then = from_f xs ps rows locals g.0.known g.0.left g.0.line h g.2;
    }

from_l : (xs : List ℕ) (ps rows left : List (List ℕ)) (n : ℕ) (h : Sheet) →
    and_then (locals_read (record { known = with_s xs ps rows; left = left; line = n })) (λ d. and_then (moves_read d) (λ e. and_then (formulas_read e) last_checks)) ≡ Ok h →
    FromL xs ps rows left h
from_l xs ps rows left n h e =
    let so_far = with_s xs ps rows in
    let r : Reading Sheet = record { known = so_far; left = left; line = n } in
    let g = section (with_locals so_far) (each_due (at xs 3) (λ s. each_due (at xs 1) (λ p. due_line 76 (local_line so_far s p))) r)
    (λ d. and_then (moves_read d) (λ e. and_then (formulas_read e) last_checks)) h e in
    let l = locals_back so_far r g.0 g.1 in
    record {
      locals = g.0.known;
      behind = g.0.left;
      all = l.all;
      small = l.holds;
      text = l.written;
      then = from_t xs ps rows g.0.known g.0.left g.0.line h g.2;
    }

from_s : (xs : List ℕ) (ps left : List (List ℕ)) (n : ℕ) (h : Sheet) →
    and_then (states_read (record { known = with_c xs ps; left = left; line = n }))
    (λ c. and_then (locals_read c) (λ d. and_then (moves_read d) (λ e. and_then (formulas_read e) last_checks))) ≡ Ok h → FromS xs ps left h
from_s xs ps left n h e =
    let so_far = with_c xs ps in
    let r : Reading Sheet = record { known = so_far; left = left; line = n } in
    let g = section (with_states so_far) (each_due (at xs 3) (λ s. due_line 83 (state_line so_far s)) r)
    (λ c. and_then (locals_read c) (λ d. and_then (moves_read d) (λ e. and_then (formulas_read e) last_checks))) h e in
    let l = states_back so_far r g.0 g.1 in
    record {
      rows = g.0.known;
      behind = g.0.left;
      all = l.all;
      marks = l.holds;
      text = l.written;
      then = from_l xs ps g.0.known g.0.left g.0.line h g.2;
    }

-- the texts of the sections make the text of the sheet
module _ (xs : List ℕ) (ps : List (List ℕ)) (behind : List (List ℕ)) (h : Sheet) (r : FromS xs ps behind h) where
  abbrev all_said : Sheet
  all_said = with_f xs ps r.rows r.then.locals r.then.then.qs r.then.then.then.fs

  rest_text : ended behind ≡
      states_text all_said ++ (locals_text all_said ++ (moves_text all_said ++ numbered_text formula_text 0 r.then.then.then.fs))
  rest_text =
      r.text ∙ ap (λ v. states_text all_said ++ v)
      (r.then.text ∙ ap (λ v. locals_text all_said ++ v)
      (r.then.then.text ∙ ap (λ v. moves_text all_said ++ v) r.then.then.then.text))

  valid_said : Header xs → Rising (at xs 2) (at xs 1) ps → Valid all_said
  valid_said header holders = valid xs ps r.rows r.then.locals r.then.then.qs r.then.then.then.fs (record {
    header = header;
    holders = holders;
    states = r.all;
    marks = r.marks;
    locals_states = r.then.all;
    small = r.then.small;
    moves = r.then.then.moves.0;
    few_moves = r.then.then.moves.1;
    formulas = r.then.then.then.fitting;
    some_start = r.then.then.then.some_start;
    none_stuck = r.then.then.then.none_stuck;
  })

sections_back : (ls : List (List ℕ)) (h : Sheet) → sections_read ls ≡ Ok h → (Valid h) × (ended ls ≡ sheet_text h)
unfolding sections_read sheet_text
sections_back ls h e =
    let a = section headed (due_in 72 header_line 1 ls) _ h e in
    let xs = a.0.known in
    let b = section (λ ps. with_holders (headed xs) (listed ps)) (while_in 67 (holder_line (headed xs)) [] a.0.line a.0.left) _ h a.2 in
    let ps = b.0.known in
    let header = due_back header_ranges (λ _. true) 72 1 ls a.0 a.1 in
    let head = header_from xs header.1 in
    let holders = holders_back (headed xs) a.0.left a.0.line b.0 b.1 in
    let r = from_s xs ps b.0.left b.0.line h b.2 in
    subst (λ v. (Valid v) × (ended ls ≡ sheet_text v)) r.then.then.then.same (
      valid_said xs ps b.0.left h r head holders.0,
      header.0
          ∙ ap (λ v. line_text 72 v ++ ended a.0.left) head.five
          ∙ ap (λ v. header_text (headed xs) ++ v) (holders.1 ∙ ap (λ v. holders_text (with_c xs ps) ++ v) (rest_text xs ps b.0.left h r)),
    )

pub only_sheets_read : OnlySheetsRead
unfolding sheet_read
only_sheets_read t h e =
    let a = held_back (ltb 65536 (length t)) _ _ h e in
    let b = passed (finished t) _ _ h a.1 in
    let r = sections_back (lines_of t) h b.1 in
    (r.0, sym (lines_back t b.0) ∙ r.1)
