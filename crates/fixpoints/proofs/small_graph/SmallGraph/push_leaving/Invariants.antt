use Rattle.std.proofs.Common.{◌≡◌, ℕ, ◌<◌, ◌≤◌, true, false}
use Rattle.fixpoints.specs.Rounds.{leaving, Starts, KeepsStep}
use Rattle.search.specs.Stack.{capacity}
use Rattle.fixpoints.proofs.Lists.{Filling}
use Rattle.fixpoints.proofs.small_graph.SmallGraph.push_leaving.Given as goal

abbrev pub invariant-loop-state : goal.invariant-loop-state
invariant-loop-state g l =
    let n = l.self.states in
    let steps = g.R.StepRule.steps l.self.rule.now in
    let z = g.S.StateSet.holds l.set in
    Starts n steps z l.starts
    × Filling (capacity l.initial.stack) (leaving n steps z) l.state l.stack
    × ((k : ℕ) → k < l.state → leaving n steps z k ≡ false → KeepsStep n steps z l.starts k)
    × (l.found ≡ true → (k : ℕ) → l.state ≤ k → KeepsStep n steps z l.starts k)
