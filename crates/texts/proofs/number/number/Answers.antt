use Rattle.std.proofs.Common.{sym, ◌∙◌}
use Rattle.texts.proofs.Decimals.{number_same, reads_decimals, only_decimals}
use Rattle.texts.proofs.number.number.Goals as goal

pub returns : goal.returns
returns c = record { value = c.digits.ensures ∙ sym (number_same c.args.bytes.now); read = c.digits.ensures; decimals = (reads_decimals, only_decimals) }
