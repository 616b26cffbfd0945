-- What a sheet keeps beside the invariant of its type, so that it is valid or blank.
use Rattle.std.specs.Prelude.{◌≡◌, ◌≤◌, true}
use Rattle.sheets.specs.declared.sheet.Sheet.{Sheet}
use Rattle.sheets.specs.Fitting.{header_fits, states_fit, start_fits}
use Rattle.sheets.specs.Holding.{holders_within}
use Rattle.sheets.specs.Moves.{all_move, move_count}
use Rattle.sheets.specs.Sheets.{states_of}

pub record Fits (s : Sheet) : Type 0 where
  -- holders and their channels are those of the header
  pub holders_exist : holders_within s.header.channels s.header.parties s.holders ≡ true
  -- the number and the count of parties are in their ranges
  pub header_fits : header_fits s.header ≡ true
  -- so are marks, positions and copies
  pub states_fit : states_fit s.header.marks (states_of s) ≡ true
  pub some_start : start_fits (states_of s) ≡ true
  pub few_moves : move_count (states_of s) ≤ 1024
  pub moves_leave : all_move (states_of s) ≡ true
