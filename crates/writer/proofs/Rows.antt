-- The texts of rows are those of their lines.
use Rattle.std.proofs.Common.{◌≡◌, ℕ, ◌+◌, ◌<◌, List, ◌++◌, map, length, get_or, take, sym, refl, ap, ◌∙◌, zero-add, arith}
use Rattle.std.proofs.lemmas.List.{take_more, map_push, length-map, length-take-le}
use Rattle.semantics.specs.SheetText.{formula_text}
use Rattle.semantics.specs.Written.{numbered_text}
use Rattle.semantics.proofs.OnlyQueries.{numbered_push}
use Rattle.semantics.proofs.SheetRows as line
use Rattle.sheets.specs.declared.operator.Operator.{Operator}
use Rattle.sheets.specs.declared.operator.Operator.TheVariants.{Mark, Not, Or, Next, Globally, Until, Commitment, Fulfilment}
use Rattle.sheets.specs.declared.parts.Row.{Row}
use Rattle.sheets.specs.Model.{line_of, line_with}
use Rattle.sheets.specs.Operators.{letter_of}
use Rattle.sheets.specs.Sheets.{no_row}

pub same_letter : (o : Operator) (xs : List ℕ) → letter_of o ≡ line.letter_of (line_with o xs)
same_letter Mark xs = refl
same_letter Not xs = refl
same_letter Or xs = refl
same_letter Next xs = refl
same_letter Globally xs = refl
same_letter Until xs = refl
same_letter Commitment xs = refl
same_letter Fulfilment xs = refl

abbrev pub rows_text : List Row → List ℕ
rows_text rs = numbered_text formula_text 0 (map line_of rs)

pub rows_more : (rs : List Row) (k : ℕ) → k < length rs → rows_text (take k rs) ++ formula_text k (line_of (get_or rs k no_row)) ≡ rows_text (take (k + 1) rs)
rows_more rs k l =
    let before = map line_of (take k rs) in
    let row = line_of (get_or rs k no_row) in
    let many : 0 + length before ≡ k = zero-add (length before) ∙ length-map (take k rs) line_of ∙ length-take-le k rs (omega arith) in
    sym (ap rows_text (take_more rs k no_row l) ∙ ap (numbered_text formula_text 0) (map_push line_of (take k rs) (get_or rs k no_row))
    ∙ numbered_push formula_text before 0 row ∙ ap (λ i. numbered_text formula_text 0 before ++ formula_text i row) many)
