use Rattle.std.proofs.Common.{◌+◌, ◌*◌, ◌≤◌, length, ap, ◌∙◌, arith}
use Rattle.judging.proofs.Keeping.{row_set, row_rounds, kept_more}
use Rattle.judging.proofs.work_buffer.WorkBuffer.judge_row.Goals as goal

pub returns-clause-set : goal.returns-clause-set
returns-clause-set g c = λ f j.
    let set_is = row_set c.args.sheet.now f c.args.k c.requires.within c.args.self.now.sets.now c.args.row (c.requires.kept f) c.requires.row in
    c.evaluate-rounds.ensures.set f j ∙ ap (λ z. z j) set_is

pub returns-clause-rounds : goal.returns-clause-rounds
returns-clause-rounds g c = λ f. c.evaluate-rounds.ensures.rounds ∙ row_rounds c.args.sheet.now f c.args.k c.requires.within c.args.self.now.sets.now c.args.row (c.requires.kept f) c.requires.row

pub returns-clause-kept : goal.returns-clause-kept
returns-clause-kept g c = λ f.
    let s = c.args.sheet.now in
    let work = c.args.self.now.sets.now in
    let room : 16 + 16 * c.args.k ≤ length work = omega (arith, c.requires.within, s.few_rows, s.tables.rows.ok.0) in
    kept_more s f c.args.k c.requires.within work c.args.row (c.requires.kept f) c.requires.row c.put_row.new.work (g.S.StateSet.holds c.evaluate-rounds.new.set) c.state_count.result c.bits_of.result
    (c.evaluate-rounds.ensures.set f) c.state_count.ensures.value c.bits_of.ensures room c.put_row.ensures.here c.put_row.ensures.others
