use Rattle.sheets.specs.Sheets.{states_of}
use Rattle.texts.specs.Written.{Gave, texts_below}
use Rattle.writer.specs.Render.{state_locals_text}
use Rattle.writer.proofs.writing.write_locals.Given as goal

abbrev pub invariant-loop-k : goal.invariant-loop-k
invariant-loop-k l = Gave l.initial.writer (texts_below l.k (state_locals_text l.sheet.holders l.sheet.header.parties (states_of l.sheet))) l.writer
