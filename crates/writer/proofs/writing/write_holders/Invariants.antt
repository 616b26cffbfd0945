use Rattle.texts.specs.Written.{Gave, texts_below}
use Rattle.writer.specs.Render.{channel_text}
use Rattle.writer.proofs.writing.write_holders.Given as goal

abbrev pub invariant-loop-channel : goal.invariant-loop-channel
invariant-loop-channel l = Gave l.initial.writer (texts_below l.channel (channel_text l.holders)) l.writer
