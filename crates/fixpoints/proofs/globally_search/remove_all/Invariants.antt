use Rattle.std.proofs.Common.{◌≡◌, ℕ, not, ◌&&◌, length}
use Rattle.fixpoints.specs.Rounds.{among}
use Rattle.search.specs.Stack.{contents, capacity}
use Rattle.fixpoints.proofs.globally_search.remove_all.Given as goal

abbrev pub invariant-loop-state : goal.invariant-loop-state
invariant-loop-state g l =
    (capacity l.stack ≡ capacity l.initial.stack)
    × ((k : ℕ) → (not (among (contents l.stack) k) && g.S.StateSet.holds l.set k) ≡ (not (among (contents l.initial.stack) k) && g.S.StateSet.holds l.initial.set k))

abbrev pub decreases-loop-state : goal.decreases-loop-state
decreases-loop-state g l = length (contents l.stack)
