-- Formula lines that are in order.
use Rattle.std.proofs.Common.{◌≡◌, ℕ, ◌+◌, true, List, [], ◌∷◌, ◌++◌, length, refl, ap, ◌∙◌, arith}
use Rattle.std.proofs.lemmas.Bool.{and_from, and_parts}
use Rattle.sheets.specs.declared.holders.Holders.{Holders}
use Rattle.sheets.specs.declared.parts.Header.{Header}
use Rattle.sheets.specs.declared.parts.Row.{Row}
use Rattle.sheets.specs.Rows.{sound_row, sound_rows}

-- one sound row more
pub sound_push : (h : Header) (who : Holders) (k m : ℕ) (rs : List Row) (r : Row) → sound_rows h who k rs ≡ true → m ≡ k + length rs → sound_row h who m r ≡ true
    → sound_rows h who k (rs ++ r ∷ []) ≡ true
sound_push h who k m [] r s e t = and_from _ _ (ap (λ n. sound_row h who n r) (let z : k ≡ m = omega arith in z) ∙ t) refl
sound_push h who k m (q ∷ rs) r s e t =
    let p = and_parts (sound_row h who k q) (sound_rows h who (k + 1) rs) s in
    and_from _ _ p.0 (sound_push h who (k + 1) m rs r p.1 (omega arith) t)
