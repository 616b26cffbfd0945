use Rattle.search.specs.Filled.{Filled}
use Rattle.search.proofs.filling.fill.Given as goal

abbrev pub invariant-loop-state : goal.invariant-loop-state
invariant-loop-state g l = Filled (goal.F-post g l.test) l.state (g.S.StateSet.holds l.set)
