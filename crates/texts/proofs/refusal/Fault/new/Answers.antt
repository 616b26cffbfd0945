use Rattle.std.proofs.Common.{arith}
use Rattle.texts.specs.Refusals.{code_of}
use Rattle.texts.proofs.Lengths.{line_short}
use Rattle.texts.proofs.Codes.{code_small}
use Rattle.texts.proofs.refusal.Fault.new.Goals as goal

pub returns-clause-short : goal.returns-clause-short
returns-clause-short c = line_short 69 (code_of c.args.refusal) c.args.line c.args.field (code_small c.args.refusal) (omega arith) (omega arith)
