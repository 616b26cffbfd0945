-- The set and the rounds of each B line, as computed.
use Rattle.std.specs.Prelude.{◌≡◌, ℕ, ◌<◌, Bool, true, ◌↔◌, List, [], slice_index_or}
use Rattle.semantics.specs.Actions.{Action, never, action_formulas, admitted}
use Rattle.semantics.specs.Chains.{until_chain, globally_chain, rounds, settled}
use Rattle.semantics.specs.Queries.{Query, QueryLine, atom, neg, or, EX, AX, EG, EU, TrueAt}
use Rattle.semantics.specs.Sets.{nothing, union, below, outside, some_next, every_next}
use Rattle.semantics.specs.Sheets.{Sheet, marked}
use Rattle.semantics.specs.Turns.{in_turn}

-- the steps under A line a
abbrev pub steps_under : Sheet → List (Action → Bool) → ℕ → ℕ → ℕ → Bool
steps_under h ps a = admitted h (slice_index_or ps a never)

-- the set of a B line, from the sets of the B lines before it
abbrev pub query_set_of : Sheet → List (Action → Bool) → List (ℕ → Bool) → QueryLine → ℕ → Bool
query_set_of h ps zs (atom m) = below h.states (marked h m)
query_set_of h ps zs (neg b) = below h.states (outside (slice_index_or zs b nothing))
query_set_of h ps zs (or b c) = below h.states (union (slice_index_or zs b nothing) (slice_index_or zs c nothing))
query_set_of h ps zs (EX a b) = some_next h.states (steps_under h ps a) (slice_index_or zs b nothing)
query_set_of h ps zs (AX a b) = every_next h.states (steps_under h ps a) (slice_index_or zs b nothing)
query_set_of h ps zs (EG a b) = settled h.states (globally_chain h.states (steps_under h ps a) (slice_index_or zs b nothing))
query_set_of h ps zs (EU a b c) = settled h.states (until_chain h.states (steps_under h ps a) (slice_index_or zs b nothing) (slice_index_or zs c nothing))

-- the set of each B line
unfoldable pub query_sets : Sheet → Query → List (ℕ → Bool)
query_sets h q = in_turn (query_set_of h (action_formulas q.actions)) [] q.lines

-- the set of B line b
abbrev pub query_set : Sheet → Query → ℕ → ℕ → Bool
query_set h q b = slice_index_or (query_sets h q) b nothing

-- the rounds of a B line, from the sets of the B lines
abbrev pub query_rounds_of : Sheet → List (Action → Bool) → List (ℕ → Bool) → QueryLine → ℕ
query_rounds_of h ps zs (atom m) = 0
query_rounds_of h ps zs (neg b) = 0
query_rounds_of h ps zs (or b c) = 0
query_rounds_of h ps zs (EX a b) = 0
query_rounds_of h ps zs (AX a b) = 0
query_rounds_of h ps zs (EG a b) = rounds h.states (globally_chain h.states (steps_under h ps a) (slice_index_or zs b nothing))
query_rounds_of h ps zs (EU a b c) = rounds h.states (until_chain h.states (steps_under h ps a) (slice_index_or zs b nothing) (slice_index_or zs c nothing))

-- the rounds of B line b
abbrev pub query_rounds : Sheet → Query → ℕ → ℕ
query_rounds h q b = query_rounds_of h (action_formulas q.actions) (query_sets h q) (slice_index_or q.lines b (atom 0))

-- the set of a B line has exactly the states at which the line is true
abbrev pub QuerySetsAreTruth : Type 0
QuerySetsAreTruth = (h : Sheet) (q : Query) (b s : ℕ) → query_set h q b s ≡ true ↔ ((s < h.states) × (TrueAt h q b s))
