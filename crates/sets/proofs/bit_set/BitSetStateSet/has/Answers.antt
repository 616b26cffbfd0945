use Rattle.sets.proofs.BitLaws.{bits_has}
use Rattle.sets.proofs.bit_set.BitSetStateSet.has.Goals as goal

pub returns-then-state-lt-CAPACITY : goal.returns-then-state-lt-CAPACITY
returns-then-state-lt-CAPACITY c = bits_has c.args.self.now.bits c.args.state c.if-state-lt-CAPACITY.true
