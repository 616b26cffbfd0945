use Rattle.texts.specs.Written.{Gave, texts_below}
use Rattle.writer.specs.Render.{copy_text}
use Rattle.writer.proofs.writing.write_copies.Given as goal

abbrev pub invariant-loop-channel : goal.invariant-loop-channel
invariant-loop-channel l = Gave l.initial.writer (texts_below l.channel (copy_text l.holders l.party l.known)) l.writer
