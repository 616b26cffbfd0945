use Rattle.reader.specs.Reading.{StatesRead}
use Rattle.reader.proofs.preamble.Preamble.read_all_locals.Given as goal

abbrev pub invariant-loop-number : goal.invariant-loop-number
invariant-loop-number l = StatesRead l.self.header l.states
