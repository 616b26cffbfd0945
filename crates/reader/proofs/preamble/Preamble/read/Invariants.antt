use Rattle.std.proofs.Common.{◌≡◌, ℕ, ◌<◌, true, length}
use Rattle.sheets.specs.Holding.{held}
use Rattle.reader.proofs.preamble.Preamble.read.Given as goal

abbrev pub invariant-loop-line : goal.invariant-loop-line
invariant-loop-line l = (c p : ℕ) → held l.holders c p ≡ true → (c < l.header.channels) × (p < l.header.parties)

abbrev pub decreases-loop-line : goal.decreases-loop-line
decreases-loop-line l = length l.lines.rest.now
