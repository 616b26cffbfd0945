use Rattle.std.proofs.Common.{◌≡◌, ℕ, ◌||◌}
use Rattle.sets.specs.Sorted.{among}
use Rattle.sets.proofs.sorted_list.SortedListStateSet.join.Given as goal

abbrev pub invariant-loop-item : goal.invariant-loop-item
invariant-loop-item l =
    (k : ℕ) → among l.self.items l.self.len k ≡ (among l.initial.self.items l.initial.self.len k || among l.other.items l.item-index k)
