use Rattle.sets.proofs.BitLaws.{bits_join}
use Rattle.sets.proofs.bit_set.BitSetStateSet.join.Goals as goal

pub returns : goal.returns
returns c = bits_join c.args.self.now.bits c.args.other.now.bits
