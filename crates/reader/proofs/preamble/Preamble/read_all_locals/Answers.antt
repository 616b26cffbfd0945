use Rattle.std.proofs.Common.{◌∙◌, length-set}
use Rattle.sheets.proofs.Filling.{fit_set}
use Rattle.sheets.proofs.Validity.{fits_at}
use Rattle.reader.proofs.Filled.{unmoved_set}
use Rattle.reader.proofs.preamble.Preamble.read_all_locals.Goals as goal

pub read_locals-requires : goal.read_locals-requires
read_locals-requires c = fits_at c.args.self.now.header.marks c.loop-number.states c.loop-number.number c.loop-number.invariant.fit

pub loop-number-preserved : goal.loop-number-preserved
loop-number-preserved c =
    let ss = c.loop-number.states in
    let i = c.loop-number.number in
    let t = c.read_locals.new.state in
    record {
      all = length-set ss i t ∙ c.loop-number.invariant.all;
      fit = fit_set c.args.self.now.header.marks ss i t c.loop-number.invariant.fit c.in_ok-read_locals.ensures.fits;
      unmoved = unmoved_set ss i t c.loop-number.invariant.unmoved c.in_ok-read_locals.ensures.moves;
    }
