use Rattle.std.proofs.Common.{◌∙◌}
use Rattle.sheets.proofs.Model.{shares_is}
use Rattle.sheets.proofs.sheet.Sheet.share.Goals as goal

pub returns : goal.returns
returns c = λ f. c.share.ensures ∙ shares_is c.args.self.now f c.args.one c.args.other
