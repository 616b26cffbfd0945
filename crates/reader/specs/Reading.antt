-- What a whole sheet must have.
use Rattle.std.specs.Prelude.{◌≡◌, ℕ, ◌<◌, ◌≤◌, true, false, cond, List, length, Ok, Err, vec_items, vec_len, Result, slice_index_or}
use Rattle.texts.specs.declared.refusal.Fault.{Fault}
use Rattle.texts.specs.declared.refusal.Refusal.TheVariants.{NoStart, NoMove}
use Rattle.texts.specs.Fields.{fault_at}
use Rattle.texts.specs.Lines.{at}
use Rattle.semantics.specs.Sets.{has_step}
use Rattle.sheets.specs.declared.holders.Holders.{Holders}
use Rattle.sheets.specs.declared.parts.Header.{Header}
use Rattle.sheets.specs.declared.parts.Row.{Row}
use Rattle.sheets.specs.declared.parts.State.{State}
use Rattle.sheets.specs.declared.tables.Tables.{Tables}
use Rattle.sheets.specs.Fitting.{states_fit, any_start}
use Rattle.sheets.specs.Holding.{holders_within}
use Rattle.sheets.specs.Moves.{no_state, move_in, all_move, move_count}
use Rattle.sheets.specs.Rows.{sound_rows}
use Rattle.reader.specs.Readers.{Bounded}

-- the checks of the states as a whole: some start, then a move from every state, or the lowest state without one
abbrev pub WholeStates : List State → Result Unit Fault → Type 0
WholeStates ss (Ok u) = (any_start ss ≡ true) × ((s : ℕ) → s < length ss → has_step (length ss) (move_in ss) s ≡ true)
WholeStates ss (Err f) =
    cond (any_start ss)
    ((s : ℕ) × (f ≡ fault_at NoMove (at 0 s)) × (s < length ss) × (has_step (length ss) (move_in ss) s ≡ false) × ((u : ℕ) → u < s → has_step (length ss) (move_in ss) u ≡ true))
    (f ≡ fault_at NoStart (at 0 0))

-- no state has a move yet
abbrev pub Unmoved : List State → Type 0
Unmoved ss = (k : ℕ) → (slice_index_or ss k no_state).successors.bits ≡ 0

-- the states of a header, whose moves are still to come
pub record StatesRead (h : Header) (ss : List State) : Type 0 where
  pub all : length ss ≡ h.states
  pub fit : states_fit h.marks ss ≡ true
  pub unmoved : Unmoved ss

-- they fit, and have no more moves than a sheet may have
pub record MovesRead (h : Header) (ss : List State) : Type 0 where
  pub fit : states_fit h.marks ss ≡ true
  pub few : move_count ss ≤ 1024

-- the rows of a sheet
pub record RowsRead (h : Header) (who : Holders) (rs : List Row) : Type 0 where
  pub few : length rs ≤ 64
  pub sound : sound_rows h who 0 rs ≡ true

-- tables that belong to a header
pub record Filled (h : Header) (who : Holders) (t : Tables) : Type 0 where
  pub bounded : Bounded h
  pub states : vec_len t.states ≡ h.states
  pub few_rows : vec_len t.rows ≤ 64
  pub holders_exist : holders_within h.channels h.parties who ≡ true
  pub states_fit : states_fit h.marks (vec_items t.states) ≡ true
  pub some_start : any_start (vec_items t.states) ≡ true
  pub few_moves : move_count (vec_items t.states) ≤ 1024
  pub moves_leave : all_move (vec_items t.states) ≡ true
  pub sound_rows : sound_rows h who 0 (vec_items t.rows) ≡ true
