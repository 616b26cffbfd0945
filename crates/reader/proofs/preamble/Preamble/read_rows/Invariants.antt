use Rattle.std.proofs.Common.{◌≡◌, length, vec_items}
use Rattle.reader.specs.Reading.{RowsRead}
use Rattle.reader.proofs.preamble.Preamble.read_rows.Given as goal

abbrev pub invariant-loop-line : goal.invariant-loop-line
invariant-loop-line l = (l.tables.states ≡ l.fn.tables.states) × RowsRead l.self.header l.self.holders (vec_items l.tables.rows)

abbrev pub decreases-loop-line : goal.decreases-loop-line
decreases-loop-line l = length l.lines.rest.now
