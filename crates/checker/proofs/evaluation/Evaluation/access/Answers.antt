use Rattle.std.proofs.Common.{ap, ◌∙◌}
use Rattle.sheets.specs.Sheets.{states_of}
use Rattle.checker.specs.Access.{accessible}
use Rattle.checker.proofs.SameAccess.{access_same}
use Rattle.checker.proofs.evaluation.Evaluation.access.Goals as goal

pub returns : goal.returns
returns g c = λ f.
    let s = c.args.self.now.sheet.now in
    ap (λ ss. accessible s.holders ss c.from.result c.from-2.result) c.states.ensures.value
    ∙ ap (λ i. accessible s.holders (states_of s) i c.from-2.result) c.from.ensures
    ∙ ap (λ j. accessible s.holders (states_of s) c.args.debtor j) c.from-2.ensures
    ∙ access_same s f c.args.debtor c.args.creditor
