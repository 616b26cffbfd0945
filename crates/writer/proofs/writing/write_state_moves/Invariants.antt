use Rattle.texts.specs.Written.{Gave, texts_below}
use Rattle.writer.specs.Render.{move_text}
use Rattle.writer.proofs.writing.write_state_moves.Given as goal

abbrev pub invariant-loop-to : goal.invariant-loop-to
invariant-loop-to l = Gave l.initial.writer (texts_below l.to (move_text l.states l.from)) l.writer
