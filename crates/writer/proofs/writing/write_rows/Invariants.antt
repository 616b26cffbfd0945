use Rattle.texts.specs.Written.{Gave, texts_below}
use Rattle.writer.specs.Render.{row_text}
use Rattle.writer.proofs.writing.write_rows.Given as goal

abbrev pub invariant-loop-k : goal.invariant-loop-k
invariant-loop-k l = Gave l.initial.writer (texts_below l.k (row_text l.rows)) l.writer
