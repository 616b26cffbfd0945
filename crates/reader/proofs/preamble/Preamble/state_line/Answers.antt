use Rattle.std.proofs.Common.{refl, rules}
use Rattle.sheets.proofs.Filling.{plain_fits}
use Rattle.reader.proofs.preamble.Preamble.state_line.Goals as goal

pub returns-clause-fits : goal.returns-clause-fits
returns-clause-fits c = plain_fits c.args.self.now.header.marks _ (search rules) refl
