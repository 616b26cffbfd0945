-- The set, the verdict and the rounds of each line, as computed.
use Rattle.std.specs.Prelude.{ℕ, Bool, cond, not, ◌||◌, List, [], slice_index_or}
use Rattle.semantics.specs.Access.{commitment_access, fulfilment_access}
use Rattle.semantics.specs.Chains.{until_chain, globally_chain, rounds, settled}
use Rattle.semantics.specs.Sets.{nothing, union, below, outside, all, some_next, every_next, reversed}
use Rattle.semantics.specs.Sheets.{Sheet, Line, mark, negation, disjunction, next, globally, until, commitment, fulfilment, marked, line_at}
use Rattle.semantics.specs.Turns.{in_turn}

-- the set of a line, from the sets of the lines before it
abbrev pub set_of : Sheet → List (ℕ → Bool) → Line → ℕ → Bool
set_of h zs (mark m) = below h.states (marked h m)
set_of h zs (negation a) = below h.states (outside (slice_index_or zs a nothing))
set_of h zs (disjunction a b) = below h.states (union (slice_index_or zs a nothing) (slice_index_or zs b nothing))
set_of h zs (next a) = some_next h.states h.moves (slice_index_or zs a nothing)
set_of h zs (globally a) = settled h.states (globally_chain h.states h.moves (slice_index_or zs a nothing))
set_of h zs (until a b) = settled h.states (until_chain h.states h.moves (slice_index_or zs a nothing) (slice_index_or zs b nothing))
set_of h zs (commitment i j a) = every_next h.states (commitment_access h i j) (slice_index_or zs a nothing)
set_of h zs (fulfilment i j a) =
    some_next h.states (reversed (fulfilment_access h i j)) (every_next h.states (commitment_access h i j) (slice_index_or zs a nothing))

-- the set of each line
unfoldable pub line_sets : Sheet → List (ℕ → Bool)
line_sets h = in_turn (set_of h) [] h.lines

-- the set of line f
abbrev pub line_set : Sheet → ℕ → ℕ → Bool
line_set h f = slice_index_or (line_sets h) f nothing

-- the rounds of a line, from the sets of the lines
abbrev pub rounds_of : Sheet → List (ℕ → Bool) → Line → ℕ
rounds_of h zs (mark m) = 0
rounds_of h zs (negation a) = 0
rounds_of h zs (disjunction a b) = 0
rounds_of h zs (next a) = 0
rounds_of h zs (globally a) = rounds h.states (globally_chain h.states h.moves (slice_index_or zs a nothing))
rounds_of h zs (until a b) = rounds h.states (until_chain h.states h.moves (slice_index_or zs a nothing) (slice_index_or zs b nothing))
rounds_of h zs (commitment i j a) = 0
rounds_of h zs (fulfilment i j a) = 0

-- the rounds of line f
abbrev pub line_rounds : Sheet → ℕ → ℕ
line_rounds h f = rounds_of h (line_sets h) (line_at h f)

-- 1 if every start is in the set, else 0
abbrev pub verdict : Sheet → (ℕ → Bool) → ℕ
verdict h z = cond (all h.states (λ s. not (h.start s) || z s)) 1 0
