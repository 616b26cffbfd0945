-- The bytes kept about each line, and the report that they give.
use Rattle.std.proofs.Common.{◌≡◌, ℕ, ◌+◌, ◌<◌, ◌≤◌, Bool, true, false, cond, List, [], ◌∷◌, length, get_or, set, take, refl, sym, ap, ◌∙◌, inl, inr, arith}
use mathlib.Core.Path.{fun_ext}
use mir.Val.{bool_byte}
use Rattle.std.proofs.lemmas.Bool.{cases_eq}
use Rattle.std.proofs.lemmas.Grind.{get_or-set_at}
use Rattle.std.proofs.lemmas.List.{get_or-set_other, get_or-take, length-take-le}
use Rattle.texts.specs.Written.{line_text, texts_below}
use Rattle.semantics.specs.Judging.{line_set, line_rounds, verdict}
use Rattle.semantics.specs.Sets.{Same, count, all}
use Rattle.semantics.proofs.BelowTexts.{texts_same}
use Rattle.semantics.specs.Sheets.{Sheet}
use Rattle.sheets.specs.declared.sheet.Sheet as sheets
use Rattle.sheets.specs.Model.{model_of}
use Rattle.sheets.specs.Sheets.{rows_of}
use Rattle.sheets.proofs.Lines.{model_length}
use Rattle.judging.specs.Judging.{start_has}
use Rattle.judging.specs.Reporting.{summary_of, summary_text, Summarized, kept_text, kept_report, report_text}

-- the bytes kept about one line more
pub summarized_more : (h : Sheet) (ss : List (List ℕ)) (k : ℕ) (s : List ℕ) → k < length ss → Summarized h k ss → s ≡ summary_of h k → Summarized h (k + 1) (set ss k s)
summarized_more h ss k s l before here j b = elim (cases_eq j k) [
  | inl e ↦ (get_or-set_at ss k j s [] e l ∙ here ∙ ap (summary_of h) (sym e))
  | inr ne ↦ (get_or-set_other ss k j s [] ne ∙ before j (omega (arith, ne)))
]

as_byte : (b : Bool) → bool_byte b ≡ cond b 1 0
as_byte true = refl
as_byte false = refl

-- what was found of a line is what the report says of it
pub summary_found : (h : Sheet) (k : ℕ) (m : ℕ → Bool) (v r c n : ℕ) (holds : Bool) → Same m (line_set h k) → v ≡ bool_byte holds → holds ≡ all h.states (start_has h m) → r ≡ line_rounds h k →
    c ≡ count n m → n ≡ h.states → v ∷ r ∷ c ∷ [] ≡ summary_of h k
summary_found h k m v r c n holds is ev eh er ec en =
    let e : m ≡ line_set h k = fun_ext is in
    let verdict_is : v ≡ verdict h (line_set h k) = ev ∙ ap bool_byte eh ∙ as_byte (all h.states (start_has h m)) ∙ ap (verdict h) e in
    let members_are : c ≡ count h.states (line_set h k) = ec ∙ ap (λ i. count i m) en ∙ ap (count h.states) e in
    (λ i. verdict_is i ∷ er i ∷ members_are i ∷ [])

-- the bytes of all lines give the report
pub report_is : (s : sheets.Sheet) (ss : List (List ℕ)) (n : ℕ) → n ≡ length (rows_of s) → n ≤ length ss → Summarized (model_of s) (length (rows_of s)) ss → kept_report (take n ss) ≡ report_text (model_of s)
unfolding report_text
report_is s ss n e l each =
    let h = model_of s in
    let many : length (take n ss) ≡ length h.lines = length-take-le n ss l ∙ e ∙ sym (model_length s) in
    ap (λ i. texts_below i (kept_text (take n ss))) many
    ∙ texts_same (length h.lines) (kept_text (take n ss)) (summary_text h) (λ k b.
    let k_within : k < n = omega (arith, e, model_length s) in
    ap (λ s. line_text 82 (k ∷ get_or s 0 0 ∷ get_or s 1 0 ∷ get_or s 2 0 ∷ [])) (get_or-take n ss k [] k_within ∙ each k (omega (arith, e))))
