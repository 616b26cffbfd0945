use Rattle.std.proofs.Common.{◌≡◌, ◌≤◌, length, sym, ◌∙◌, arith, rules}
use Rattle.std.proofs.lemmas.Bool.{cond-false, le-ltb}
use Rattle.texts.specs.Written.{placed}
use Rattle.texts.proofs.Writing.{gave_front}
use Rattle.texts.proofs.text.Measured.write_from_front.Goals as goal

pub returns-clause-after : goal.returns-clause-after
returns-clause-after g c =
    let text = g.T.Text.text c.args.self.now.text.now in
    let old = c.args.out.now in
    let room : length text ≤ length old = omega (arith, c.args.self.now.counted, c.if-self-out.false) in
    let f = gave_front text old c.new-writer.result c.write.new.writer c.new-writer.ensures.buffer c.new-writer.ensures.length c.write.ensures room (omega arith) in
    let done : c.write.new.writer.buffer.now ≡ placed text old = f.0 ∙ sym (cond-false _ _ _ (le-ltb (length old) (length text) room)) in
    search rules
