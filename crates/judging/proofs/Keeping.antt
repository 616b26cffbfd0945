-- One line more whose set the buffer holds.
use Rattle.std.proofs.Common.{◌≡◌, ℕ, ◌+◌, ◌*◌, ◌/◌, ◌<◌, ◌≤◌, Bool, true, cond, List, length, get_or, sym, ap, ◌∙◌, inl, inr, arith}
use mathlib.Core.Path.{fun_ext}
use Rattle.std.proofs.lemmas.Bool.{cases_eq, cond-true, lt-ltb}
use Rattle.sets.specs.Bits.{in_bits}
use Rattle.semantics.specs.Judging.{set_of, rounds_of, line_set, line_rounds}
use Rattle.semantics.specs.Sets.{Same, nothing, below}
use Rattle.semantics.specs.Sheets.{line_at}
use Rattle.semantics.specs.Validity.{line_fits}
use Rattle.sheets.specs.declared.parts.Row.{Row}
use Rattle.sheets.specs.declared.sheet.Sheet.{Sheet}
use Rattle.sheets.specs.Fits.{Fits}
use Rattle.sheets.specs.Model.{model_of, line_of}
use Rattle.sheets.specs.Sheets.{rows_of, no_row}
use Rattle.sheets.proofs.Lines.{model_lines_fit, model_length, model_line}
use Rattle.workspace.specs.Rows.{row_in, within}
use Rattle.checker.specs.Evaluation.{sets_in}
use Rattle.checker.proofs.Evaluated.{set_in}
use Rattle.judging.specs.Judging.{Kept}
use Rattle.judging.proofs.Turning.{fits_at, line_turn, rounds_turn, line_below}

module _ (s : Sheet) (f : Fits s) (k : ℕ) (l : k < length (rows_of s)) where
  l' : k < length (model_of s).lines
  l' = omega (arith, model_length s)

  fits : line_fits (model_of s) k (line_at (model_of s) k) ≡ true
  fits = let z : 0 + k ≡ k = omega arith in
      ap (λ n. line_fits (model_of s) n (line_at (model_of s) k)) (sym z) ∙ fits_at (model_of s) (model_of s).lines 0 k (model_lines_fit s f) l'

  module _ (work : List ℕ) (row : Row) (kept : Kept (model_of s) k work) (is : row ≡ get_or (rows_of s) k no_row) where
    sets_are : (j : ℕ) → j < k → get_or (sets_in work) j nothing ≡ line_set (model_of s) j
    sets_are j b = sym (set_in work j) ∙ kept j b

    row_is : line_of row ≡ line_at (model_of s) k
    row_is = ap line_of is ∙ sym (model_line s k l)

    pub row_set : set_of (model_of s) (sets_in work) (line_of row) ≡ line_set (model_of s) k
    row_set = ap (set_of (model_of s) (sets_in work)) row_is ∙ line_turn (model_of s) k l' (sets_in work) fits sets_are

    pub row_rounds : rounds_of (model_of s) (sets_in work) (line_of row) ≡ line_rounds (model_of s) k
    row_rounds = ap (rounds_of (model_of s) (sets_in work)) row_is ∙ rounds_turn (model_of s) k l' (sets_in work) fits sets_are

    pub kept_more : (next : List ℕ) (m : ℕ → Bool) (n bits : ℕ) → Same m (set_of (model_of s) (sets_in work) (line_of row)) → n ≡ (model_of s).states →
        Same (in_bits bits) (below n m) → 16 + 16 * k ≤ length work →
        row_in next k ≡ cond (within work k) bits 0 → ((j : ℕ) → (j ≡ k → ⊥) → row_in next j ≡ row_in work j) → Kept (model_of s) (k + 1) next
    kept_more next m n bits set e same room here others j b = elim (cases_eq j k) [
      | inl i ↦ (
          ap (λ v. in_bits (row_in next v)) i
          ∙ ap in_bits (here ∙ cond-true _ _ _ (lt-ltb k (length work / 16) (omega arith)))
          ∙ fun_ext same ∙ ap (λ v. below v m) e ∙ ap (below (model_of s).states) (fun_ext set ∙ row_set) ∙ line_below (model_of s) k l' fits
          ∙ ap (line_set (model_of s)) (sym i))
      | inr ne ↦ (ap in_bits (others j ne) ∙ kept j (omega (arith, ne)))
    ]
