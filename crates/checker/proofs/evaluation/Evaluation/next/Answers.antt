use Rattle.std.proofs.Common.{ℕ, Bool, ap, ◌∙◌, arith}
use Rattle.std.proofs.lemmas.Grind.{common_steps}
use Rattle.semantics.specs.Sets.{some_next}
use Rattle.sheets.specs.Moves.{move_within}
use Rattle.checker.proofs.Evaluated.{alike}
use Rattle.checker.proofs.evaluation.Evaluation.next.Goals as goal

pub returns : goal.returns
returns g c = λ k.
    let steps_are = ap (λ r. move_within r.moves.states.now) c.graph.ensures.rule ∙ c.moves-moves.ensures in
    let e = alike (λ n ((st, z) : (ℕ → ℕ → Bool) × (ℕ → Bool)). some_next n st z) c.graph.ensures.states (λ i. (steps_are i, c.operand.ensures i)) k in
    grind (arith, common_steps)
