use Rattle.std.proofs.Common.{arith}
use Rattle.sheets.proofs.Filling.{known_fits}
use Rattle.reader.proofs.preamble.Preamble.local_line.Goals as goal

pub returns-clause-fits : goal.returns-clause-fits
returns-clause-fits c = known_fits _ (omega (arith, c.in_ok-position.ensures.within.1)) c.in_ok-copies.ensures.fits
