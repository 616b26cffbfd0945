use Rattle.std.proofs.Common.{sym, refl, ap, ◌∙◌, arith}
use Rattle.std.proofs.lemmas.List.{set-get_or}
use Rattle.std.proofs.lemmas.Result.{err_from_is_err_and}
use Rattle.texts.specs.Cuts.{before}
use Rattle.texts.specs.Fields.{field_of}
use Rattle.texts.specs.Lines.{at}
use Rattle.sheets.proofs.Filling.{no_copies, copy_fits}
use Rattle.reader.proofs.Copies.{copies_held, copies_skip, copies_fault, copies_end}
use Rattle.reader.proofs.preamble.Preamble.copies.Goals as goal
use Rattle.reader.proofs.preamble.Preamble.copies.Goals.{then-has+in_ok-copy, else-has}

pub loop-channel-init : goal.loop-channel-init
loop-channel-init c = record { left = refl; same_line = refl; few = omega arith; fit = no_copies }

pub returns-in_err-copy-clause-value : goal.returns-in_err-copy-clause-value
returns-in_err-copy-clause-value c =
    let p = err_from_is_err_and c.from_residual.result c.from_residual.ensures.1 in
    let l = c.loop-channel in
    rw (p.1, p.2)
    (sym (sym l.invariant.left ∙ copies_fault c.args.line.now.line c.args.self.now.holders c.args.party l.channel l.field l.copy-items l.line.rest.now _
    c.loop-channel-test.true (sym c.has.ensures ∙ c.if-has.true)
    (ap (λ n. field_of 0 1000 (at n l.field) (before 44 l.line.rest.now)) (sym l.invariant.same_line) ∙ sym c.in_err-copy.ensures.value)))

pub loop-channel-preserved : goal.loop-channel-preserved
loop-channel-preserved c =
    let l = c.loop-channel in
    elim c.if-has.branch [
      | then-has+in_ok-copy w ↦ rw (w.line-is, w.field-is, w.copy-items-is) (record {
        left = copies_held c.args.line.now.line c.args.self.now.holders c.args.party l.channel l.field l.copy-items l.line.rest.now w.in_ok-copy.field-0
            c.loop-channel-test.true (sym c.has.ensures ∙ w.if-has.true)
            (ap (λ n. field_of 0 1000 (at n l.field) (before 44 l.line.rest.now)) (sym l.invariant.same_line) ∙ sym w.in_ok-copy.ensures.value)
            w.in_ok-copy.ensures.rest ∙ l.invariant.left;
        same_line = w.in_ok-copy.ensures.line ∙ l.invariant.same_line;
        few = omega arith;
        fit = copy_fits l.copy-items l.channel w.in_ok-copy.field-0 l.invariant.fit (omega (arith, w.in_ok-copy.ensures.within.1));
      })
      | else-has w ↦ rw (w.line-is, w.field-is, w.copy-items-is, set-get_or) (record {
        left = copies_skip c.args.line.now.line c.args.self.now.holders c.args.party l.channel l.field l.copy-items l.line.rest.now
            c.loop-channel-test.true (sym c.has.ensures ∙ w.if-has.false) ∙ l.invariant.left;
        same_line = l.invariant.same_line;
        few = omega arith;
        fit = l.invariant.fit;
      })
    ]

pub returns-clause-value : goal.returns-clause-value
returns-clause-value c =
    let l = c.loop-channel in
    sym (sym l.invariant.left ∙ copies_end c.args.line.now.line c.args.self.now.holders c.args.party l.channel l.field l.copy-items l.line.rest.now (omega arith))
