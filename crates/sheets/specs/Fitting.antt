-- Which headers and tables of states fit.
use Rattle.std.specs.Prelude.{ℕ, ◌^◌, Bool, true, false, ◌&&◌, ◌||◌, leb, List, [], ◌∷◌, ◌==◌, nat_le, nat_lt, slice_index, slice_index_or}
use Rattle.semantics.specs.Sets.{all}
use Rattle.semantics.specs.Validity.{between}
use Rattle.sheets.specs.declared.parts.Header.{Header}
use Rattle.sheets.specs.declared.parts.Local.{Local}
use Rattle.sheets.specs.declared.parts.State.{State}
use Rattle.sheets.specs.Moves.{no_local}

-- a blank sheet, or a sheet with a number and two parties at least
abbrev pub header_fits : Header → Bool
header_fits h = h.states == 0 || (between 1 9999 h.number && nat_le 2 h.parties)

-- copies are at most 999
unfoldable pub copies_fit : List ℕ → Bool
copies_fit copies = all 8 (λ c. leb (slice_index copies c) 999)

-- so are positions
unfoldable pub local_fits : Local → Bool
local_fits l = nat_le l.position 999 && copies_fit l.copies

-- there are no other marks, and what each party knows fits
unfoldable pub state_fits : ℕ → State → Bool
state_fits marks s = nat_lt s.marks (2 ^ marks) && all 6 (λ p. local_fits (slice_index_or s.locals p no_local))

abbrev pub states_fit : ℕ → List State → Bool
states_fit marks [] = true
states_fit marks (s ∷ ss) = state_fits marks s && states_fit marks ss

-- some state is a start
abbrev pub any_start : List State → Bool
any_start [] = false
any_start (s ∷ ss) = s.start || any_start ss

-- a blank sheet, or some state is a start
abbrev pub start_fits : List State → Bool
start_fits [] = true
start_fits (s ∷ ss) = any_start (s ∷ ss)
