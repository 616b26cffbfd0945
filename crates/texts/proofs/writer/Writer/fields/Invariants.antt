use Rattle.std.proofs.Common.{take}
use Rattle.semantics.specs.Written.{fields_text}
use Rattle.texts.specs.Written.{Gave}
use Rattle.texts.proofs.writer.Writer.fields.Given as goal

abbrev pub invariant-loop-n : goal.invariant-loop-n
invariant-loop-n l = Gave l.initial.self (fields_text (take l.n-index l.numbers)) l.self
