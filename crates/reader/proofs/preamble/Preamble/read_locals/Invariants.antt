use Rattle.std.proofs.Common.{◌≡◌, true}
use Rattle.sheets.specs.Fitting.{state_fits}
use Rattle.reader.proofs.preamble.Preamble.read_locals.Given as goal

abbrev pub invariant-loop-party : goal.invariant-loop-party
invariant-loop-party l = (state_fits l.self.header.marks l.state ≡ true) × (l.state.successors ≡ l.initial.state.successors)
