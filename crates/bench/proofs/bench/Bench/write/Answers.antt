use Rattle.std.proofs.Common.{sym, ◌∙◌}
use Rattle.writer.proofs.Back.{some_answer, some_written, blank_answer, blank_written, written_back}
use Rattle.bench.proofs.bench.Bench.write.Goals as goal

pub returns-then-is_blank-clause-answer : goal.returns-then-is_blank-clause-answer
returns-then-is_blank-clause-answer c = blank_answer c.args.self.now.sheet c.args.out.now (sym c.is_blank.ensures ∙ c.if-is_blank.true)

pub returns-then-is_blank-clause-filled : goal.returns-then-is_blank-clause-filled
returns-then-is_blank-clause-filled c = blank_written c.args.self.now.sheet c.args.out.now (sym c.is_blank.ensures ∙ c.if-is_blank.true)

pub returns-clause-answer : goal.returns-clause-answer
returns-clause-answer c = c.write.ensures.value ∙ some_answer c.args.self.now.sheet c.args.out.now c.args.self.now.fits (sym c.is_blank.ensures ∙ c.if-is_blank.false)

pub returns-clause-filled : goal.returns-clause-filled
returns-clause-filled c = c.write.ensures.after ∙ some_written c.args.self.now.sheet c.args.out.now c.args.self.now.fits (sym c.is_blank.ensures ∙ c.if-is_blank.false)

pub returns-clause-back : goal.returns-clause-back
returns-clause-back c =
    let s = c.args.self.now.sheet in
    let old = c.args.out.now in
    let f = c.args.self.now.fits in
    let off = sym c.is_blank.ensures ∙ c.if-is_blank.false in
    written_back s old f c.write.result c.write.new.out (c.write.ensures.value ∙ some_answer s old f off) (c.write.ensures.after ∙ some_written s old f off)
