use Rattle.std.proofs.Common.{rules}
use Rattle.checker.proofs.Evaluated.{operand_is}
use Rattle.checker.proofs.evaluation.Evaluation.operand.Goals as goal

pub returns : goal.returns
returns g c = operand_is c.args.self.now.work.now c.from_bits.result.bits c.args.k (search rules)
