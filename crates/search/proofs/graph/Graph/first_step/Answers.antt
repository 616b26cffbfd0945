use Rattle.std.proofs.Common.{◌≡◌, ℕ, Bool, ◌&&◌, true, false, rules}
use Rattle.std.proofs.lemmas.Iterator.{first_from_Range}
use Rattle.search.proofs.graph.Graph.first_step.Goals as goal

pub returns : goal.returns
returns g c =
    let p : ℕ → Bool = λ t. g.S.StateSet.holds c.args.set.now t && g.R.StepRule.steps c.args.self.now.rule.now c.args.state t in
    let found = first_from_Range _ _ _ c.find.result (λ t. p t ≡ true) (λ t. p t ≡ false) c.find.ensures.ran (λ x q k. search rules) (λ x q k. search rules) in
    search rules
