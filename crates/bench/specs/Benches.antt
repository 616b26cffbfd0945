-- What the calls of a bench answer.
use Rattle.std.specs.Prelude.{◌≡◌, ℕ, ◌<◌, Bool, true, cond, ◌↔◌, List, length, Ok, Err, Result, ◌==◌}
use Rattle.texts.specs.declared.refusal.Fault.{Fault}
use Rattle.texts.specs.declared.refusal.Refusal.{Refusal}
use Rattle.texts.specs.declared.refusal.Refusal.TheVariants.{Blank}
use Rattle.texts.specs.Refusals.{fault_text}
use Rattle.texts.specs.Written.{fitted, placed}
use Rattle.semantics.specs.Formulas.{Holds, tree_at}
use Rattle.semantics.specs.Sheets as model
use Rattle.sheets.specs.declared.sheet.Sheet.{Sheet}
use Rattle.sheets.specs.Model.{model_of}
use Rattle.sheets.specs.Sheets.{states_of}
use Rattle.writer.specs.Writing.{text_of, write_result, write_buffer}
use Rattle.judging.specs.Reporting.{report_text, report_answer, filled}

-- a blank sheet is not written
abbrev pub write_answer : Sheet → List ℕ → Result ℕ Refusal
write_answer s old = cond (length (states_of s) == 0) (Err Blank) (write_result (text_of s) old)

abbrev pub written_out : Sheet → List ℕ → List ℕ
written_out s old = cond (length (states_of s) == 0) old (write_buffer (text_of s) old)

-- z has exactly the states at which line f holds along endless paths
abbrev pub WhereTrue : model.Sheet → ℕ → (ℕ → Bool) → Type 0
WhereTrue h f z = (s : ℕ) → z s ≡ true ↔ ((s < h.states) × Holds h (tree_at h f) s)

-- the answer to a text that was read as a: the report on the sheet that then stands, or the fault's line, which leaves the sheet
abbrev pub Answered : Result Unit Fault → Sheet → Sheet → ℕ → List ℕ → Result ℕ Refusal → List ℕ → Type 0
Answered (Ok u) before after work old r new =
    (r ≡ report_answer (model_of after) work (length old) 128) × (new ≡ filled r (report_text (model_of after)) old)
Answered (Err f) before after work old r new =
    (after ≡ before) × (r ≡ fitted (length (fault_text f)) (length old)) × (new ≡ placed (fault_text f) old)
