use Rattle.std.proofs.Common.{◌≡◌, true, vec_items, vec_len}
use Rattle.sheets.specs.Fitting.{states_fit}
use Rattle.reader.specs.Reading.{Unmoved}
use Rattle.reader.proofs.preamble.Preamble.read_states.Given as goal

abbrev pub invariant-loop-due : goal.invariant-loop-due
invariant-loop-due l = record {
  all : vec_len l.tables.states ≡ l.due;
  fit : states_fit l.self.header.marks (vec_items l.tables.states) ≡ true;
  unmoved : Unmoved (vec_items l.tables.states);
}
