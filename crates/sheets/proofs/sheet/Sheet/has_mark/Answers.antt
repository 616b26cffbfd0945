use Rattle.std.proofs.Common.{rules}
use Rattle.sheets.specs.Model.{model_of}
use Rattle.sheets.proofs.Model.{small_bits}
use Rattle.sheets.proofs.sheet.Sheet.has_mark.Goals as goal

pub returns : goal.returns
unfolding model_of
returns c =
    let e = small_bits c.from_bits.result.bits c.args.mark (search rules) in
    search rules
