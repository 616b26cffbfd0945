-- The tables of a sheet, and what stands past their ends.
use Rattle.std.specs.Prelude.{List, [], vec_items}
use Rattle.sheets.specs.declared.operator.Operator.TheVariants.{Mark}
use Rattle.sheets.specs.declared.parts.Header.{Header}
use Rattle.sheets.specs.declared.parts.Row.{Row}
use Rattle.sheets.specs.declared.parts.State.{State}
use Rattle.sheets.specs.declared.sheet.Sheet.{Sheet}

abbrev pub states_of : Sheet → List State
states_of s = vec_items s.tables.states

abbrev pub rows_of : Sheet → List Row
rows_of s = vec_items s.tables.rows

-- the header of a sheet before the first one is read
abbrev pub blank_header : Header
blank_header = record { number = 0; parties = 0; channels = 0; states = 0; marks = 0 }

abbrev pub no_row : Row
no_row = record { operator = Mark; operands = [] }
