use Rattle.std.proofs.Common.{◌≡◌, ◌+◌, ◌-◌, ◌≤◌, true, replicate}
use Rattle.sheets.specs.Fitting.{copies_fit}
use Rattle.reader.specs.Readers.{copies_from}
use Rattle.reader.proofs.preamble.Preamble.copies.Given as goal

abbrev pub invariant-loop-channel : goal.invariant-loop-channel
invariant-loop-channel l = record {
  left : copies_from l.initial.line.line l.self.holders l.party (8 - l.channel) l.channel l.field l.copy-items l.line.rest.now
      ≡ copies_from l.initial.line.line l.self.holders l.party 8 0 5 (replicate 8 0) l.initial.line.rest.now;
  same_line : l.line.line ≡ l.initial.line.line;
  few : l.field ≤ 5 + l.channel;
  fit : copies_fit l.copy-items ≡ true;
}
