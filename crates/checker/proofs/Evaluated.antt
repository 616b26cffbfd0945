-- What a row's operands are, and what its operator makes of them.
use Rattle.std.proofs.Common.{◌≡◌, ℕ, ◌/◌, Bool, List, map, length, get_or, sym, ap, ◌∙◌, inl, inr, zero-add}
use mathlib.Core.Path.{fun_ext}
use Rattle.std.specs.List.{range_with_len}
use Rattle.std.proofs.lemmas.List.FromFn.{get_or-map-range_with_len, length-map-range_with_len}
use Rattle.std.proofs.lemmas.List.{get_or_past}
use Rattle.std.proofs.lemmas.Bool.{cases_lt, cond-false, le-ltb}
use Rattle.sets.specs.Bits.{in_bits}
use Rattle.sheets.proofs.Model.{no_bits}
use Rattle.semantics.specs.Sets.{nothing}
use Rattle.workspace.specs.Rows.{row_in, row_of, within}
use Rattle.checker.specs.Evaluation.{sets_in}

-- what a search makes of states and of what it searches by, whose number and which are known by other names
pub alike : {A : Type 0} (F : ℕ → A → ℕ → Bool) {n states : ℕ} {x y : A} → n ≡ states → x ≡ y → (k : ℕ) → F n x k ≡ F states y k
alike F e same k = λ i. F (e i) (same i) k

-- row a of the buffer as a set, also where the buffer has no such row
pub set_in : (work : List ℕ) (a : ℕ) → in_bits (row_in work a) ≡ get_or (sets_in work) a nothing
unfolding sets_in
set_in work a = elim (cases_lt a (length work / 16)) [
  | inl l ↦ sym (get_or-map-range_with_len (λ k. in_bits (row_in work k)) 0 (length work / 16) a a nothing l (zero-add a))
  | inr g ↦ (
      ap in_bits (cond-false (within work a) (row_of work a) 0 (le-ltb a (length work / 16) g))
      ∙ fun_ext no_bits
      ∙ sym (get_or_past (map (λ k. in_bits (row_in work k)) (range_with_len 0 (length work / 16))) a nothing (simp length-map-range_with_len g)))
]

-- the operand that was read from row a
pub operand_is : (work : List ℕ) (bits a : ℕ) → bits ≡ row_in work a → in_bits bits ≡ get_or (sets_in work) a nothing
operand_is work bits a e = ap in_bits e ∙ set_in work a
