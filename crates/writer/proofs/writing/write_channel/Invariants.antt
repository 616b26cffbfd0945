use Rattle.texts.specs.Written.{Gave, texts_below}
use Rattle.writer.specs.Render.{holder_text}
use Rattle.writer.proofs.writing.write_channel.Given as goal

abbrev pub invariant-loop-party : goal.invariant-loop-party
invariant-loop-party l = Gave l.initial.writer (texts_below l.party (holder_text l.holders l.channel)) l.writer
