use Rattle.std.proofs.Common.{◌&&◌, sym, ◌∙◌, rules}
use Rattle.sets.proofs.Ranges.{any_upto}
use Rattle.sheets.specs.Holding.{held}
use Rattle.sheets.proofs.Model.{shares_any}
use Rattle.sheets.proofs.holders.Holders.share.Goals as goal

pub returns : goal.returns
returns c =
    any_upto (λ k. held c.args.self.now k c.args.one && held c.args.self.now k c.args.other) c.any.ensures.ran (λ x b q k. search rules)
    ∙ sym (shares_any c.args.self.now c.args.one c.args.other 8)
