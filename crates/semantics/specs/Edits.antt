-- Edits of a sheet, and when they are refused.
use Rattle.std.specs.Prelude.{ℕ, ◌^◌, Bool, cond, not, ◌&&◌, ◌||◌, List, [], ◌∷◌, Some, None, Option, ◌==◌, nat_le, nat_lt}
use Rattle.semantics.specs.Sets.{any}
use Rattle.semantics.specs.Sheets.{Sheet}
use Rattle.semantics.specs.Validity.{move_count}

-- a value of a local state: the position, or the copy of a channel
pub data Value : Type 0 where
  the_position : Value
  the_copy : ℕ → Value

-- an edit: a move from one state to another, a value of a party at a state, the marks of a state as a sum
pub data Edit : Type 0 where
  join_move cut_move : ℕ → ℕ → Edit
  set_value : ℕ → ℕ → Value → ℕ → Edit
  set_marks : ℕ → ℕ → Edit

-- the sheet with other moves
abbrev pub with_moves : Sheet → (ℕ → ℕ → Bool) → Sheet
with_moves h m = record {
  number = h.number;
  parties = h.parties;
  channels = h.channels;
  states = h.states;
  marks = h.marks;
  holds = h.holds;
  start = h.start;
  mark_sum = h.mark_sum;
  position = h.position;
  copy = h.copy;
  moves = m;
  lines = h.lines;
}

-- the sheet with other marks, positions and copies
abbrev pub with_values : Sheet → (ℕ → ℕ) → (ℕ → ℕ → ℕ) → (ℕ → ℕ → ℕ → ℕ) → Sheet
with_values h m p c = record {
  number = h.number;
  parties = h.parties;
  channels = h.channels;
  states = h.states;
  marks = h.marks;
  holds = h.holds;
  start = h.start;
  mark_sum = m;
  position = p;
  copy = c;
  moves = h.moves;
  lines = h.lines;
}

-- the sheet with an edit made
abbrev pub edited : Sheet → Edit → Sheet
edited h (join_move from to) = with_moves h (λ s t. (s == from && t == to) || h.moves s t)
edited h (cut_move from to) = with_moves h (λ s t. not (s == from && t == to) && h.moves s t)
edited h (set_value state party the_position v) =
    with_values h h.mark_sum (λ s p. cond (s == state && p == party) v (h.position s p)) h.copy
edited h (set_value state party (the_copy channel) v) =
    with_values h h.mark_sum h.position (λ s p c. cond (s == state && (p == party && c == channel)) v (h.copy s p c))
edited h (set_marks state sum) = with_values h (λ s. cond (s == state) sum (h.mark_sum s)) h.position h.copy

-- the sheet with edits made, the first one first
abbrev pub made : Sheet → List Edit → Sheet
made h [] = h
made h (e ∷ es) = made (edited h e) es

-- refusals in the order of their checks: the first one whose test is true
abbrev pub first_of : List (Bool × ℕ) → Option ℕ
first_of [] = None
first_of (x ∷ xs) = cond x.0 (Some x.1) (first_of xs)

-- another move than the one to a state leaves the state from
abbrev pub other_move : Sheet → ℕ → ℕ → Bool
other_move h from to = any h.states (λ t. h.moves from t && not (t == to))

-- the checks of an edit, of which the amendment has accepted so many
abbrev pub edit_checks : Sheet → ℕ → Edit → List (Bool × ℕ)
edit_checks h count (join_move from to) =
    (not (nat_lt from h.states && nat_lt to h.states), 22)
    ∷ (h.moves from to, 24)
    ∷ (nat_le 1024 (move_count h), 27)
    ∷ (nat_le 64 count, 28)
    ∷ []
edit_checks h count (cut_move from to) =
    (not (nat_lt from h.states && nat_lt to h.states), 22)
    ∷ (not (h.moves from to), 25)
    ∷ (not (other_move h from to), 26)
    ∷ (nat_le 64 count, 28)
    ∷ []
edit_checks h count (set_value state party the_position v) =
    (not (nat_lt state h.states && (nat_lt party h.parties && nat_le v 999)), 22)
    ∷ (nat_le 64 count, 28)
    ∷ []
edit_checks h count (set_value state party (the_copy channel) v) =
    (not (nat_lt state h.states && (nat_lt party h.parties && (nat_lt channel h.channels && nat_le v 999))), 22)
    ∷ (not (h.holds channel party), 23)
    ∷ (nat_le 64 count, 28)
    ∷ []
edit_checks h count (set_marks state sum) =
    (not (nat_lt state h.states && nat_lt sum (2 ^ h.marks)), 22)
    ∷ (nat_le 64 count, 28)
    ∷ []
