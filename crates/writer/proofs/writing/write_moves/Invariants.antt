use Rattle.texts.specs.Written.{Gave, texts_below}
use Rattle.writer.specs.Render.{state_moves_text}
use Rattle.writer.proofs.writing.write_moves.Given as goal

abbrev pub invariant-loop-from : goal.invariant-loop-from
invariant-loop-from l = Gave l.initial.writer (texts_below l.from (state_moves_text l.states)) l.writer
