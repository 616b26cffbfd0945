use Rattle.std.proofs.Common.{ℕ, Bool, arith}
use Rattle.std.proofs.lemmas.Grind.{common_steps}
use Rattle.semantics.specs.Sets.{below, union}
use Rattle.checker.proofs.Evaluated.{alike}
use Rattle.checker.proofs.evaluation.Evaluation.or.Goals as goal

pub returns : goal.returns
returns g c = λ k.
    let e = alike (λ n ((z, w) : (ℕ → Bool) × (ℕ → Bool)). below n (union z w)) c.state_count-states.ensures.value (λ i. (c.operand.ensures i, c.operand-2.ensures i)) k in
    grind (arith, common_steps)
