use Rattle.sets.proofs.BitLaws.{bits_take}
use Rattle.sets.proofs.bit_set.BitSetStateSet.take.Goals as goal

pub returns-then-state-lt-CAPACITY : goal.returns-then-state-lt-CAPACITY
returns-then-state-lt-CAPACITY c = bits_take c.args.self.now.bits c.args.state c.if-state-lt-CAPACITY.true
