use Rattle.writer.proofs.Operands.{Walked}
use Rattle.writer.proofs.writing.write_operands.Given as goal

abbrev pub invariant-loop-kind : goal.invariant-loop-kind
invariant-loop-kind l = Walked l.row l.kind-iterator.a.rest.now l.kind-iterator.b.rest.now l.initial.writer l.writer
