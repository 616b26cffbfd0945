-- A text reads as a sheet exactly where it is the text of a valid sheet, and then as that sheet.
use Rattle.std.specs.Prelude.{◌≡◌, ℕ, ◌≤◌, List, length, Ok}
use Rattle.semantics.specs.SheetReading.{sheet_read}
use Rattle.semantics.specs.Sheets.{Sheet}
use Rattle.semantics.specs.SheetText.{sheet_text}
use Rattle.semantics.specs.Validity.{Valid}

-- nothing but the text of a valid sheet is read
abbrev pub OnlySheetsRead : Type 0
OnlySheetsRead = (t : List ℕ) (h : Sheet) → sheet_read t ≡ Ok h → (Valid h) × (t ≡ sheet_text h)

-- and it is read as that sheet
abbrev pub SheetsReadBack : Type 0
SheetsReadBack = (h : Sheet) → Valid h → sheet_read (sheet_text h) ≡ Ok h

-- so two valid sheets with one text are one sheet
abbrev pub TextsDetermine : Type 0
TextsDetermine = (g h : Sheet) → Valid g → Valid h → sheet_text g ≡ sheet_text h → g ≡ h

-- no text of a valid sheet is too long to be written
abbrev pub TextsShort : Type 0
TextsShort = (h : Sheet) → Valid h → length (sheet_text h) ≤ 65536
