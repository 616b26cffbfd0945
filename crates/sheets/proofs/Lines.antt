-- The lines of sound rows fit.
use Rattle.std.proofs.Common.{◌≡◌, ℕ, ◌+◌, ◌<◌, ◌≤◌, true, ltb, List, [], ◌∷◌, map, length, get_or, sym, refl, ◌∙◌, arith}
use Rattle.std.proofs.lemmas.List.{get_or-map, length-map}
use Rattle.std.proofs.lemmas.Bool.{and_parts, and_from}
use Rattle.semantics.specs.Sheets.{mark, line_at}
use Rattle.semantics.specs.Validity.{paired, line_fits, lines_fit}
use Rattle.sheets.specs.declared.operator.Operator.{Operator}
use Rattle.sheets.specs.declared.operator.Operator.TheVariants.{Mark, Not, Or, Next, Globally, Until, Commitment, Fulfilment}
use Rattle.sheets.specs.declared.parts.Row.{Row}
use Rattle.sheets.specs.declared.sheet.Sheet.{Sheet}
use Rattle.sheets.specs.Fits.{Fits}
use Rattle.sheets.specs.Holding.{share_some}
use Rattle.sheets.specs.Model.{model_of, line_with, line_of}
use Rattle.sheets.specs.Operators.{kinds_of}
use Rattle.sheets.specs.Rows.{nth, fits, sharing, sound_row, sound_rows}
use Rattle.sheets.specs.Sheets.{rows_of, no_row}
use Rattle.sheets.proofs.Model.{shares_is}

module _ (s : Sheet) where
  abbrev Sound : ℕ → Operator → List ℕ → Type 0
  Sound k o xs =
      (fits (nth (kinds_of o) 0) s.header k (get_or xs 0 0) ≡ true) × (fits (nth (kinds_of o) 1) s.header k (get_or xs 1 0) ≡ true)
      × (fits (nth (kinds_of o) 2) s.header k (get_or xs 2 0) ≡ true) × (sharing s.holders o (get_or xs 0 0) (get_or xs 1 0) ≡ true)

  parts : (k : ℕ) (r : Row) → sound_row s.header s.holders k r ≡ true → Sound k r.operator r.operands
  parts k r e =
      let a = and_parts _ _ e in
      let b = and_parts _ _ a.1 in
      let c = and_parts _ _ b.1 in
      (a.0, b.0, c.0, c.1)

  module _ (f : Fits s) where
    pair : (i j : ℕ) → ltb i s.header.parties ≡ true → ltb j s.header.parties ≡ true → share_some 8 s.holders i j ≡ true → paired (model_of s) i j ≡ true
    unfolding model_of
    pair i j a b e = and_from _ _ a (and_from _ _ b (sym (shares_is s f i j) ∙ e))

    line_fits_law : (k : ℕ) (o : Operator) (xs : List ℕ) → Sound k o xs → line_fits (model_of s) k (line_with o xs) ≡ true
    unfolding model_of
    line_fits_law k Mark xs p = p.0
    line_fits_law k Not xs p = p.0
    line_fits_law k Or xs p = and_from _ _ p.0 p.1
    line_fits_law k Next xs p = p.0
    line_fits_law k Globally xs p = p.0
    line_fits_law k Until xs p = and_from _ _ p.0 p.1
    line_fits_law k Commitment xs p = and_from _ _ (pair (get_or xs 0 0) (get_or xs 1 0) p.0 p.1 p.3) p.2
    line_fits_law k Fulfilment xs p = and_from _ _ (pair (get_or xs 0 0) (get_or xs 1 0) p.0 p.1 p.3) p.2

    rows_fit : (rs : List Row) (k : ℕ) → sound_rows s.header s.holders k rs ≡ true → lines_fit (model_of s) k (map line_of rs) ≡ true
    rows_fit [] k e = refl
    rows_fit (r ∷ rs) k e =
        let p = and_parts (sound_row s.header s.holders k r) _ e in
        and_from _ _ (line_fits_law k r.operator r.operands (parts k r p.0)) (rows_fit rs (k + 1) p.1)

    pub model_lines_fit : lines_fit (model_of s) 0 (model_of s).lines ≡ true
    unfolding model_of
    model_lines_fit = rows_fit (rows_of s) 0 s.sound_rows

  pub model_length : length (model_of s).lines ≡ length (rows_of s)
  unfolding model_of
  model_length = length-map (rows_of s) line_of

  pub model_line : (k : ℕ) → k < length (rows_of s) → line_at (model_of s) k ≡ line_of (get_or (rows_of s) k no_row)
  unfolding model_of
  model_line k l = get_or-map line_of (rows_of s) k no_row (mark 0) l

  pub few_states : (model_of s).states ≤ 128
  unfolding model_of
  few_states = omega (arith, s.all_states, s.few_states, s.tables.states.ok.0)

  pub few_lines : length (model_of s).lines ≤ 64
  few_lines = omega (arith, model_length, s.few_rows, s.tables.rows.ok.0)
