use Rattle.std.proofs.Common.{ℕ, Bool, arith}
use Rattle.std.proofs.lemmas.Grind.{common_steps}
use Rattle.semantics.specs.Sets.{every_next}
use Rattle.checker.proofs.Evaluated.{alike}
use Rattle.checker.proofs.evaluation.Evaluation.commitment.Goals as goal

pub returns : goal.returns
returns g c = λ f k.
    let after = rw c.graph-graph.ensures.rule at c.every_next.ensures.after k in
    let e = alike (λ n ((st, z) : (ℕ → ℕ → Bool) × (ℕ → Bool)). every_next n st z) c.graph-graph.ensures.states (λ i. (c.access-access.ensures f i, c.operand.ensures i)) k in
    grind (arith, common_steps)
