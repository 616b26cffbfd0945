-- The sets that a buffer holds, and what a line makes of them.
use Rattle.std.specs.Prelude.{ℕ, ◌/◌, Bool, List, map, length}
use Rattle.std.specs.List.{range_with_len}
use Rattle.sets.specs.Bits.{in_bits}
use Rattle.semantics.specs.Judging.{set_of, rounds_of}
use Rattle.semantics.specs.Sheets.{Line}
use Rattle.sheets.specs.declared.sheet.Sheet.{Sheet}
use Rattle.sheets.specs.Model.{model_of}
use Rattle.workspace.specs.Rows.{row_in}

-- a set for each row of the buffer
unfoldable pub sets_in : List ℕ → List (ℕ → Bool)
sets_in work = map (λ k. in_bits (row_in work k)) (range_with_len 0 (length work / 16))

-- the set of a line of the sheet, from the sets in the buffer
abbrev pub set_of_line : Sheet → List ℕ → Line → ℕ → Bool
set_of_line s work l = set_of (model_of s) (sets_in work) l

-- its rounds
abbrev pub rounds_of_line : Sheet → List ℕ → Line → ℕ
rounds_of_line s work l = rounds_of (model_of s) (sets_in work) l
