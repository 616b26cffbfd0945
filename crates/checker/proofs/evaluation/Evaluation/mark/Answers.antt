use Rattle.std.proofs.Common.{ap, arith, rules}
use Rattle.std.proofs.lemmas.Grind.{common_steps}
use Rattle.search.proofs.FilledSets.{same_filled}
use Rattle.semantics.specs.Sets.{below}
use Rattle.semantics.specs.Sheets.{marked}
use Rattle.sheets.specs.Model.{model_of}
use Rattle.checker.proofs.evaluation.Evaluation.mark.Goals as goal

pub returns : goal.returns
returns g c = λ k.
    let has = marked (model_of c.args.self.now.sheet.now) c.args.number in
    let after = same_filled c.state_count.result (g.S.StateSet.holds c.fill.new.set) has (g.S.StateSet.holds c.args.set.now) c.fill.result c.fill.ensures.after (λ k b q. search rules) k in
    let e = ap (λ n. below n has k) c.state_count.ensures.value in
    grind (arith, common_steps)
