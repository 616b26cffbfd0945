-- A sheet that is not blank is valid.
use Rattle.std.proofs.Common.{◌≡◌, ℕ, zero, suc, ◌+◌, ◌^◌, ◌<◌, ◌≤◌, true, false, ◌&&◌, eqb, ltb, leb, List, [], ◌∷◌, length, get_or, sym, refl, ap, ◌∙◌, inl, inr, arith, pow_pos}
use Rattle.std.proofs.lemmas.List.{get_or_past}
use Rattle.std.proofs.lemmas.Bool.{cases_lt, cases_Bool, and_parts, and_from, or_cases, ltb-true, leb-true, lt-ltb, le-leb, eqb-true, eq-eqb, cond-true, cond-false, both_ways, false≢true}
use Rattle.semantics.specs.Sets.{any, all, count, has_step}
use Rattle.semantics.specs.Validity as valid
use Rattle.semantics.specs.Validity.{Valid, between, sizes_fit}
use Rattle.semantics.proofs.Quantifiers.{any_says, all_says}
use Rattle.sheets.specs.declared.parts.State.{State}
use Rattle.sheets.specs.declared.sheet.Sheet.{Sheet}
use Rattle.sheets.specs.Fits.{Fits}
use Rattle.sheets.specs.Fitting.{copies_fit, local_fits, state_fits, states_fit, any_start, start_fits}
use Rattle.sheets.specs.Holding.{held}
use Rattle.sheets.specs.Model.{model_of, local_at}
use Rattle.sheets.specs.Moves.{no_state, move_within, moves_from, all_move}
use Rattle.sheets.specs.Sheets.{states_of}
use Rattle.sheets.proofs.Lines.{model_lines_fit, few_states, few_lines}
use Rattle.sheets.proofs.Model.{held_within, no_start, no_position, no_copy}

nothing_fits : (marks : ℕ) → state_fits marks no_state ≡ true
unfolding state_fits local_fits copies_fit
nothing_fits marks = and_from (ltb 0 (2 ^ marks)) _ (lt-ltb 0 (2 ^ marks) (pow_pos marks)) refl

-- also past the last state
pub fits_at : (marks : ℕ) (ss : List State) (k : ℕ) → states_fit marks ss ≡ true → state_fits marks (get_or ss k no_state) ≡ true
fits_at marks [] k e = nothing_fits marks
fits_at marks (s ∷ ss) zero e = (and_parts (state_fits marks s) _ e).0
fits_at marks (s ∷ ss) (suc k) e = fits_at marks ss k (and_parts (state_fits marks s) _ e).1

local_at_law : (marks : ℕ) (ss : List State) (k p : ℕ) → states_fit marks ss ≡ true → p < 6 → local_fits (local_at ss k p) ≡ true
unfolding state_fits
local_at_law marks ss k p e l =
    (all_says 6 (λ p. local_fits (local_at ss k p))).0 (and_parts (ltb (get_or ss k no_state).marks (2 ^ marks)) _ (fits_at marks ss k e)).1 p l

start_at : (ss : List State) → any_start ss ≡ true → (k : ℕ) × (k < length ss) × ((get_or ss k no_state).start ≡ true)
start_at [] e = absurd (false≢true e)
start_at (s ∷ ss) e = elim (or_cases s.start (any_start ss) e) [
  | inl on ↦ (0, omega arith, on)
  | inr more ↦ (let x = start_at ss more in (suc x.0, omega (arith, x.1), x.2))
]

module _ (s : Sheet) (f : Fits s) where
  abbrev ss : List State
  ss = states_of s

  marks_fit : (k : ℕ) → (model_of s).mark_sum k < 2 ^ (model_of s).marks
  unfolding model_of state_fits
  marks_fit k = ltb-true _ _ (and_parts (ltb (get_or ss k no_state).marks (2 ^ s.header.marks)) _ (fits_at s.header.marks ss k f.states_fit)).0

  marks_placed : (k : ℕ) → 0 < (model_of s).mark_sum k → k < (model_of s).states
  unfolding model_of
  marks_placed k l = elim (cases_lt k (length ss)) [
    | inl b ↦ b
    | inr g ↦ absurd (omega (arith, l, ap (λ (t : State). t.marks) (get_or_past ss k no_state g)))
  ]

  starts_exist : (k : ℕ) → (model_of s).start k ≡ true → k < (model_of s).states
  unfolding model_of
  starts_exist k on = elim (cases_lt k (length ss)) [
    | inl b ↦ b
    | inr g ↦ absurd (false≢true (no_start ss k g ∙ on))
  ]

  held_party : (c p : ℕ) → held s.holders c p ≡ true → (c < 8) × (p < 6)
  held_party c p on =
      let a = and_parts (ltb c 8) _ on in
      (ltb-true c 8 a.0, ltb-true p 6 (and_parts (ltb p 6) _ a.1).0)

  positions_fit : (k p : ℕ) → (model_of s).position k p ≤ 999
  unfolding model_of local_fits
  positions_fit k p = elim (cases_Bool (ltb p s.header.parties)) [
    | inl on ↦ (let few : p < 6 = omega (arith, ltb-true _ _ on, s.few_parties) in
        let e = cond-true (ltb p s.header.parties) (local_at ss k p).position 0 on in
        omega (arith, e, leb-true _ _ (and_parts (leb (local_at ss k p).position 999) _ (local_at_law s.header.marks ss k p f.states_fit few)).0))
    | inr off ↦ omega (arith, cond-false (ltb p s.header.parties) (local_at ss k p).position 0 off)
  ]

  positions_placed : (k p : ℕ) → 0 < (model_of s).position k p → (k < (model_of s).states) × (p < (model_of s).parties)
  unfolding model_of
  positions_placed k p l = (
    elim (cases_lt k (length ss)) [
      | inl b ↦ b
      | inr g ↦ absurd (omega (arith, l, no_position ss k p (ltb p s.header.parties) g))
    ],
    elim (cases_Bool (ltb p s.header.parties)) [
      | inl on ↦ ltb-true _ _ on
      | inr off ↦ absurd (omega (arith, l, cond-false (ltb p s.header.parties) (local_at ss k p).position 0 off))
    ],
  )

  copies_fit_law : (k p c : ℕ) → (model_of s).copy k p c ≤ 999
  unfolding model_of local_fits copies_fit
  copies_fit_law k p c = elim (cases_Bool (held s.holders c p)) [
    | inl on ↦ (let few = held_party c p on in
        let e = cond-true (held s.holders c p) (get_or (local_at ss k p).copies c 0) 0 on in
        let fit = (and_parts (leb (local_at ss k p).position 999) _ (local_at_law s.header.marks ss k p f.states_fit few.1)).1 in
        omega (arith, e, leb-true _ _ ((all_says 8 (λ c. leb (get_or (local_at ss k p).copies c 0) 999)).0 fit c few.0)))
    | inr off ↦ omega (arith, cond-false (held s.holders c p) (get_or (local_at ss k p).copies c 0) 0 off)
  ]

  copies_placed : (k p c : ℕ) → 0 < (model_of s).copy k p c → (k < (model_of s).states) × ((model_of s).holds c p ≡ true)
  unfolding model_of
  copies_placed k p c l = (
    elim (cases_lt k (length ss)) [
      | inl b ↦ b
      | inr g ↦ absurd (omega (arith, l, no_copy ss k p c (held s.holders c p) g))
    ],
    elim (cases_Bool (held s.holders c p)) [
      | inl on ↦ on
      | inr off ↦ absurd (omega (arith, l, cond-false (held s.holders c p) (get_or (local_at ss k p).copies c 0) 0 off))
    ],
  )

  moves_exist : (k t : ℕ) → (model_of s).moves k t ≡ true → (k < (model_of s).states) × (t < (model_of s).states)
  unfolding model_of
  moves_exist k t on =
      let a = and_parts (ltb k (length ss)) (ltb t (length ss)) (and_parts (ltb k (length ss) && ltb t (length ss)) _ on).0 in
      (ltb-true _ _ a.0, ltb-true _ _ a.1)

  moves_are : (k : ℕ) → valid.moves_from (model_of s) k ≡ moves_from ss k
  unfolding model_of moves_from
  moves_are zero = refl
  moves_are (suc k) = ap (λ n. count (length ss) (move_within ss k) + n) (moves_are k)

  moves_few : valid.move_count (model_of s) ≤ 1024
  unfolding model_of
  moves_few = omega (arith, moves_are (length ss), f.few_moves)

  moves_leave : all (model_of s).states (has_step (model_of s).states (model_of s).moves) ≡ true
  unfolding model_of all_move
  moves_leave = f.moves_leave

  holders_exist : (c p : ℕ) → (model_of s).holds c p ≡ true → (c < (model_of s).channels) × (p < (model_of s).parties)
  unfolding model_of
  holders_exist c p on = held_within s.header.channels s.header.parties s.holders f.holders_exist c p on

  module _ (some : false ≡ eqb (model_of s).states 0) where
    states : 0 < length ss
    unfolding model_of
    states = elim (cases_lt 0 (length ss)) [
      | inl l ↦ l
      | inr g ↦ absurd (both_ways _ (sym some) (eq-eqb (length ss) 0 (omega arith)))
    ]

    a_start : (ts : List State) → start_fits ts ≡ true → 0 < length ts → any_start ts ≡ true
    a_start [] e l = absurd (omega arith)
    a_start (t ∷ ts) e l = e

    some_start : any (model_of s).states (model_of s).start ≡ true
    unfolding model_of
    some_start = (any_says (length ss) (λ k. (get_or ss k no_state).start)).1 (start_at ss (a_start ss f.some_start states))

    used : (between 1 9999 s.header.number && leb 2 s.header.parties) ≡ true
    used = elim (or_cases (eqb s.header.states 0) _ f.header_fits) [
      | inl e ↦ absurd (omega (arith, eqb-true _ _ e, s.all_states, s.tables.states.ok.0, states))
      | inr e ↦ e
    ]

    sizes_fit_law : sizes_fit (model_of s) ≡ true
    unfolding model_of
    sizes_fit_law =
        let u = and_parts (between 1 9999 s.header.number) (leb 2 s.header.parties) used in
        and_from _ _ u.0 (and_from _ _ (and_from (leb 2 s.header.parties) _ u.1 (le-leb _ _ s.few_parties))
        (and_from (leb s.header.channels 8) _ (le-leb _ _ s.few_channels)
        (and_from _ _ (and_from (leb 1 (length ss)) _ (le-leb _ _ states) (le-leb _ _ (few_states s)))
        (and_from (leb s.header.marks 16) _ (le-leb _ _ s.few_marks) (le-leb _ _ (few_lines s))))))

    pub model_valid : Valid (model_of s)
    model_valid = record {
      sizes_fit = sizes_fit_law;
      holders_exist = holders_exist;
      starts_exist = starts_exist;
      marks_fit = marks_fit;
      marks_placed = marks_placed;
      positions_fit = positions_fit;
      positions_placed = positions_placed;
      copies_fit = copies_fit_law;
      copies_placed = copies_placed;
      moves_exist = moves_exist;
      moves_few = moves_few;
      some_start = some_start;
      moves_leave = moves_leave;
      lines_fit = model_lines_fit s f;
    }
