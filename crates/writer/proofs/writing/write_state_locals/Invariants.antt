use Rattle.texts.specs.Written.{Gave, texts_below}
use Rattle.writer.specs.Render.{party_text}
use Rattle.writer.proofs.writing.write_state_locals.Given as goal

abbrev pub invariant-loop-party : goal.invariant-loop-party
invariant-loop-party l = Gave l.initial.writer (texts_below l.party (party_text l.sheet.holders l.k l.state)) l.writer
