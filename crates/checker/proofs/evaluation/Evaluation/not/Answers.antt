use Rattle.std.proofs.Common.{arith}
use Rattle.std.proofs.lemmas.Grind.{common_steps}
use Rattle.semantics.specs.Sets.{below, outside}
use Rattle.checker.proofs.Evaluated.{alike}
use Rattle.checker.proofs.evaluation.Evaluation.not.Goals as goal

pub returns : goal.returns
returns g c = λ k. let e = alike (λ n z. below n (outside z)) c.state_count.ensures.value c.operand.ensures k in grind (arith, common_steps)
