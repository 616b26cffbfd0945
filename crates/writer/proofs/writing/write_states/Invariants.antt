use Rattle.texts.specs.Written.{Gave, texts_below}
use Rattle.writer.specs.Render.{state_text}
use Rattle.writer.proofs.writing.write_states.Given as goal

abbrev pub invariant-loop-k : goal.invariant-loop-k
invariant-loop-k l = Gave l.initial.writer (texts_below l.k (state_text l.states)) l.writer
