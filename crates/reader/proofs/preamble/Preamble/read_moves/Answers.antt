use Rattle.std.proofs.Common.{length, get_or, refl, arith}
use Rattle.sets.specs.Bits.{in_bits}
use Rattle.sheets.specs.declared.parts.State.{State}
use Rattle.sheets.specs.Moves.{no_state}
use Rattle.sheets.proofs.Filling.{fit_set, moves_set, unmoved_count, moves_more}
use Rattle.sheets.proofs.Validity.{fits_at}
use Rattle.reader.proofs.Filled.{put_adds}
use Rattle.reader.proofs.preamble.Preamble.read_moves.Goals as goal

pub loop-line-init : goal.loop-line-init
loop-line-init c =
    let ss = c.args.states.now in
    record { fit = c.requires.fit; counted = omega (arith, unmoved_count ss c.requires.unmoved (length ss)); few = omega arith }

pub loop-line-preserved : goal.loop-line-preserved
loop-line-preserved c =
    let marks = c.args.self.now.header.marks in
    let ss = c.loop-line.states in
    let i = c.in_ok-step.step.first in
    let x = c.in_ok-step.step.second in
    let s : State = get_or ss i no_state in
    let t : State = record { start = s.start; marks = s.marks; locals = s.locals; successors = c.put.new.self } in
    let more = moves_more ss i x t (put_adds c.put.result (in_bits c.put.new.self.bits) (in_bits s.successors.bits) x c.put.ensures.after) in
    record {
      fit = fit_set marks ss i t c.loop-line.invariant.fit (moves_set marks s t (fits_at marks ss i c.loop-line.invariant.fit) refl refl);
      counted = omega (arith, more);
      few = omega arith;
    }
