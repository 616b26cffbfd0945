-- The report on a sheet.
use Rattle.std.specs.Prelude.{◌≡◌, ℕ, ◌<◌, cond, List, [], ◌∷◌, ◌++◌, length, drop, Ok, Err, Result, ◌==◌, nat_lt, slice_index, slice_index_or}
use Rattle.texts.specs.declared.refusal.Refusal.{Refusal}
use Rattle.texts.specs.declared.refusal.Refusal.TheVariants.{Blank, ShortBuffer, SetTooSmall}
use Rattle.texts.specs.Written.{line_text, texts_below}
use Rattle.semantics.specs.Judging.{line_set, line_rounds, verdict}
use Rattle.semantics.specs.Sets.{count}
use Rattle.semantics.specs.Sheets.{Sheet}

-- what the report says of a line: verdict, rounds, number of states
abbrev pub summary_of : Sheet → ℕ → List ℕ
summary_of h k = verdict h (line_set h k) ∷ line_rounds h k ∷ count h.states (line_set h k) ∷ []

-- R: line, verdict, rounds, number of states
abbrev pub summary_text : Sheet → ℕ → List ℕ
summary_text h k = line_text 82 (k ∷ summary_of h k)

-- a line for each formula line
unfoldable pub report_text : Sheet → List ℕ
report_text h = texts_below (length h.lines) (summary_text h)

-- refused for a blank sheet, a work buffer or a text buffer that is too short, a set that is too small, in this order; else the text's length
abbrev pub report_answer : Sheet → ℕ → ℕ → ℕ → Result ℕ Refusal
report_answer h work out capacity =
    cond (h.states == 0) (Err Blank)
    (cond (nat_lt work 16384) (Err ShortBuffer)
    (cond (nat_lt out (length (report_text h))) (Err ShortBuffer)
    (cond (nat_lt capacity h.states) (Err SetTooSmall) (Ok (length (report_text h))))))

-- a text stands from the front and later bytes stay; a refusal leaves all
abbrev pub filled : Result ℕ Refusal → List ℕ → List ℕ → List ℕ
filled (Ok n) text old = text ++ drop n old
filled (Err e) text old = old

-- the bytes kept about the first n lines say what the report says of them
abbrev pub Summarized : Sheet → ℕ → List (List ℕ) → Type 0
Summarized h n ss = (k : ℕ) → k < n → slice_index_or ss k [] ≡ summary_of h k

-- the line of the report that the three bytes kept about line k give
abbrev pub kept_text : List (List ℕ) → ℕ → List ℕ
kept_text ss k = let s = slice_index_or ss k [] in line_text 82 (k ∷ slice_index s 0 ∷ slice_index s 1 ∷ slice_index s 2 ∷ [])

-- the report that the bytes kept about all lines give
abbrev pub kept_report : List (List ℕ) → List ℕ
kept_report ss = texts_below (length ss) (kept_text ss)
