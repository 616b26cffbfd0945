-- The moves of a table of states, and what stands past its end.
use Rattle.std.specs.Prelude.{ℕ, zero, suc, ◌+◌, Bool, false, ◌&&◌, List, [], length, nat_lt, slice_index_or}
use Rattle.semantics.specs.Sets.{all, count, has_step}
use Rattle.sets.specs.Bits.{in_bits}
use Rattle.sheets.specs.declared.parts.Local.{Local}
use Rattle.sheets.specs.declared.parts.State.{State}

-- what stands past the end of a table of states
abbrev pub no_state : State
no_state = record { start = false; marks = 0; locals = []; successors = record { bits = 0 } }

-- what stands past the last party
abbrev pub no_local : Local
no_local = record { position = 0; copies = [] }

-- there is a move from one state to another
abbrev pub move_in : List State → ℕ → ℕ → Bool
move_in states from to = nat_lt from (length states) && in_bits (slice_index_or states from no_state).successors.bits to

-- there is one, and the other is a state of the table too
abbrev pub move_within : List State → ℕ → ℕ → Bool
move_within states from to = (nat_lt from (length states) && nat_lt to (length states)) && in_bits (slice_index_or states from no_state).successors.bits to

-- every state has a move
unfoldable pub all_move : List State → Bool
all_move states = all (length states) (has_step (length states) (move_within states))

-- how many moves there are from the first k states
unfoldable pub moves_from : List State → ℕ → ℕ
moves_from states zero = 0
moves_from states (suc k) = count (length states) (move_within states k) + moves_from states k

-- how many moves there are
abbrev pub move_count : List State → ℕ
move_count states = moves_from states (length states)
