use Rattle.std.proofs.Common.{◌≡◌, ◌≤◌, true, length}
use Rattle.sheets.specs.Fitting.{states_fit}
use Rattle.sheets.specs.Moves.{move_count}
use Rattle.reader.proofs.preamble.Preamble.read_moves.Given as goal

abbrev pub invariant-loop-line : goal.invariant-loop-line
invariant-loop-line l = record {
  fit : states_fit l.self.header.marks l.states ≡ true;
  counted : move_count l.states ≤ l.count;
  few : l.count ≤ 1024;
}

abbrev pub decreases-loop-line : goal.decreases-loop-line
decreases-loop-line l = length l.lines.rest.now
