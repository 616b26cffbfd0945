-- A report is short.
use Rattle.std.proofs.Common.{ℕ, zero, suc, ◌*◌, ◌<◌, ◌≤◌, Bool, true, false, cond, List, [], ◌∷◌, length, decimal, arith, length-append}
use Rattle.std.proofs.lemmas.Fmt.{length-decimal-le}
use Rattle.texts.specs.Written.{line_text, texts_below}
use Rattle.semantics.specs.Chains.{rounds}
use Rattle.semantics.specs.Judging.{line_set, line_sets, line_rounds, rounds_of, verdict}
use Rattle.semantics.specs.Sets.{count, all}
use Rattle.semantics.specs.Sheets.{Sheet, Line, mark, negation, disjunction, next, globally, until, commitment, fulfilment, line_at}
use Rattle.semantics.proofs.Counts.{count_le}
use Rattle.semantics.proofs.Quantifiers.{least_le}
use Rattle.sheets.specs.declared.sheet.Sheet as sheets
use Rattle.sheets.specs.Model.{model_of}
use Rattle.sheets.proofs.Lines.{few_states, few_lines}
use Rattle.judging.specs.Judging.{start_has}
use Rattle.judging.specs.Reporting.{summary_text, report_text}

module _ (h : Sheet) where
  few_rounds : (zs : List (ℕ → Bool)) (l : Line) → rounds_of h zs l ≤ h.states
  unfolding rounds
  few_rounds zs (mark m) = omega arith
  few_rounds zs (negation a) = omega arith
  few_rounds zs (disjunction a b) = omega arith
  few_rounds zs (next a) = omega arith
  few_rounds zs (globally a) = least_le h.states _
  few_rounds zs (until a b) = least_le h.states _
  few_rounds zs (commitment i j a) = omega arith
  few_rounds zs (fulfilment i j a) = omega arith

  small_verdict : (b : Bool) → cond b 1 0 ≤ 1
  small_verdict true = omega arith
  small_verdict false = omega arith

  small : (n : ℕ) → n < 1000 → length (decimal n) ≤ 3
  small n l = length-decimal-le 3 n (omega arith) l (omega arith)

  line_short : (a b c d : ℕ) → a < 1000 → b < 1000 → c < 1000 → d < 1000 → length (line_text 82 (a ∷ b ∷ c ∷ d ∷ [])) ≤ 18
  line_short a b c d la lb lc ld =
      simp length-append (omega (arith, small a la, small b lb, small c lc, small d ld))

  texts_short : h.states ≤ 128 → (n : ℕ) → n ≤ 64 → length (texts_below n (summary_text h)) ≤ 18 * n
  unfolding texts_below
  texts_short few zero l = omega arith
  texts_short few (suc n) l =
      let one = line_short n (verdict h (line_set h n)) (line_rounds h n) (count h.states (line_set h n)) (omega arith) (omega (arith, small_verdict (all h.states (start_has h (line_set h n)))))
      (omega (arith, few_rounds (line_sets h) (line_at h n))) (omega (arith, count_le h.states (line_set h n))) in
      omega (arith, texts_short few n (omega arith), one, length-append (texts_below n (summary_text h)) (summary_text h n))

  pub report_short : h.states ≤ 128 → length h.lines ≤ 64 → length (report_text h) ≤ 1152
  unfolding report_text
  report_short few lines = omega (arith, texts_short few (length h.lines) lines)

-- that of a sheet in its tables
pub sheet_report_short : (s : sheets.Sheet) → length (report_text (model_of s)) ≤ 1152
sheet_report_short s = report_short (model_of s) (few_states s) (few_lines s)
