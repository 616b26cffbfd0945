-- Edits taken back.
use Rattle.std.specs.Prelude.{◌≡◌, ℕ, None}
use Rattle.semantics.specs.Edits.{Value, Edit, join_move, cut_move, set_value, set_marks, the_position, the_copy, edited, first_of, edit_checks}
use Rattle.semantics.specs.Sheets.{Sheet}
use Rattle.semantics.specs.Validity.{Valid}

-- a value of a party at a state
abbrev pub value_at : Sheet → ℕ → ℕ → Value → ℕ
value_at h state party the_position = h.position state party
value_at h state party (the_copy channel) = h.copy state party channel

-- the edit that takes an edit of the sheet back
abbrev pub inverse : Sheet → Edit → Edit
inverse h (join_move from to) = cut_move from to
inverse h (cut_move from to) = join_move from to
inverse h (set_value state party value v) = set_value state party value (value_at h state party value)
inverse h (set_marks state sum) = set_marks state (h.mark_sum state)

-- an accepted edit is taken back by its inverse, which passes its own checks
abbrev pub EditsUndone : Type 0
EditsUndone = (h : Sheet) → Valid h → (k : ℕ) (e : Edit) → first_of (edit_checks h k e) ≡ None →
    (first_of (edit_checks (edited h e) 0 (inverse h e)) ≡ None) × (edited (edited h e) (inverse h e) ≡ h)
