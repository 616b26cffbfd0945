use Rattle.std.proofs.Common.{◌≡◌, ℕ, ◌+◌, ◌<◌, ◌≤◌, Bool, true, length, get_or}
use Rattle.search.specs.Stack.{contents, Behind}
use Rattle.fixpoints.specs.Rounds.{among, Ordered}
use Rattle.fixpoints.proofs.Descents.{Descending}
use Rattle.fixpoints.proofs.small_graph.SmallGraph.descend.Given as goal

abbrev pub invariant-loop-before : goal.invariant-loop-before
invariant-loop-before g l =
    (l.place < length l.order)
    × (length (contents l.walk) + l.place ≤ length l.order)
    × (0 < length (contents l.walk))
    × Behind l.initial.walk l.walk
    × ((n : ℕ) (f : ℕ → Bool) → ((k : ℕ) → among l.order k ≡ true → k < n) → Ordered (g.R.StepRule.steps l.self.rule.now) f (g.H.StateSet.holds l.goal) l.order →
    Descending n (g.R.StepRule.steps l.self.rule.now) f l.order (get_or l.order l.start 0) l.place (contents l.walk))

abbrev pub decreases-loop-before : goal.decreases-loop-before
decreases-loop-before g l = l.place
