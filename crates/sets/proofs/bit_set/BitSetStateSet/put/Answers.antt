use Rattle.std.proofs.Common.{arith, rules}
use Rattle.sets.proofs.BitLaws.{bits_put}
use Rattle.sets.proofs.bit_set.BitSetStateSet.put.Goals as goal

pub returns : goal.returns
returns c = record { fits = search rules; after = bits_put c.args.self.now.bits c.args.state (omega arith) }
