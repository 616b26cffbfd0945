use Rattle.std.proofs.Common.{ap, ◌∙◌, rules}
use Rattle.sets.proofs.Ranges.{all_upto}
use Rattle.semantics.specs.Sets.{all}
use Rattle.sheets.specs.Model.{model_of}
use Rattle.judging.specs.Judging.{start_has}
use Rattle.judging.proofs.judge.holds_at_starts.Goals as goal

pub returns : goal.returns
returns g c =
    let has = start_has (model_of c.args.sheet.now) (g.S.StateSet.holds c.args.set.now) in
    all_upto has c.all.ensures.ran (λ x b q k. search rules) ∙ ap (λ n. all n has) c.state_count.ensures.value
