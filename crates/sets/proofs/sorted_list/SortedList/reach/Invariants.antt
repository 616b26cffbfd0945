use Rattle.std.proofs.Common.{◌-◌, ◌<◌, ◌≤◌}
use Rattle.sets.proofs.sorted_list.SortedList.reach.Given as goal

abbrev pub invariant-doubling : goal.invariant-doubling
invariant-doubling l = (0 < l.reach) × (l.reach ≤ 128)

abbrev pub decreases-doubling : goal.decreases-doubling
decreases-doubling l = l.self.len - l.reach
