-- What writing a sheet leaves.
use Rattle.std.specs.Prelude.{◌≡◌, ℕ, cond, ◌↔◌, List, length, take, Ok, Err, Result, ◌==◌, nat_lt}
use Rattle.texts.specs.declared.refusal.Refusal.{Refusal}
use Rattle.texts.specs.declared.refusal.Refusal.TheVariants.{Blank, WrittenTooLong}
use Rattle.texts.specs.Written.{fitted, placed}
use Rattle.semantics.specs.SheetReading.{sheet_read}
use Rattle.semantics.specs.Sheets as semantics
use Rattle.semantics.specs.SheetText.{sheet_text}
use Rattle.sheets.specs.declared.sheet.Sheet.{Sheet}
use Rattle.writer.specs.Render.{render}
use Rattle.sheets.specs.Sheets.{states_of, rows_of}

abbrev pub text_of : Sheet → List ℕ
text_of s = render s.header s.holders (states_of s) (rows_of s)

-- a text that is too long for any buffer is refused before one that is too long for this one
abbrev pub write_result : List ℕ → List ℕ → Result ℕ Refusal
write_result text old = cond (nat_lt 65536 (length text)) (Err WrittenTooLong) (fitted (length text) (length old))

abbrev pub write_buffer : List ℕ → List ℕ → List ℕ
write_buffer text old = cond (nat_lt 65536 (length text)) old (placed text old)

-- of a sheet of the semantics: without states it is blank, and is not written; then the buffer must have room for the text
abbrev pub sheet_answer : semantics.Sheet → List ℕ → Result ℕ Refusal
sheet_answer h old = cond (h.states == 0) (Err Blank) (fitted (length (sheet_text h)) (length old))

-- a written text stands from the front, and later bytes stay; a refusal leaves the buffer
abbrev pub sheet_written : semantics.Sheet → List ℕ → List ℕ
sheet_written h old = cond (h.states == 0) old (placed (sheet_text h) old)

-- the first n bytes are the one text that is read as the sheet
abbrev pub ReadsBack : semantics.Sheet → List ℕ → ℕ → Type 0
ReadsBack h bytes n = (t : List ℕ) → sheet_read t ≡ Ok h ↔ (t ≡ take n bytes)
