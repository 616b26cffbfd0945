-- The reference state: the sheet, and while an amendment is open the stored sheet and the count of accepted edits.
use Rattle.std.specs.Prelude.{ℕ, ◌+◌, not, [], ◌∷◌, Some, None, Option, ◌==◌}
use Rattle.semantics.specs.Edits.{Edit, edited, first_of, edit_checks}
use Rattle.semantics.specs.Sheets.{Sheet}

-- the sheet at begin, and how many edits were accepted since
pub record Amending : Type 0 where
  pub stored : Sheet
  pub count : ℕ

-- the sheet as it stands, and the open amendment
pub record Book : Type 0 where
  pub sheet : Sheet
  pub amending : Option Amending

-- begin is refused while an amendment is open
abbrev pub begin_refusal : Option Amending → Option ℕ
begin_refusal None = None
begin_refusal (Some a) = Some 20

-- a ticket is good while an amendment of a sheet with its number is open
abbrev pub close_refusal : Sheet → Option Amending → ℕ → Option ℕ
close_refusal h None ticket = Some 21
close_refusal h (Some a) ticket = first_of ((not (ticket == h.number), 21) ∷ [])

-- the ticket is checked before the edit
abbrev pub edit_refusal : Sheet → Option Amending → ℕ → Edit → Option ℕ
edit_refusal h None ticket e = Some 21
edit_refusal h (Some a) ticket e = first_of ((not (ticket == h.number), 21) ∷ edit_checks h a.count e)

-- an amendment is open, with no edit yet
abbrev pub begun : Book → Book
begun b = record { sheet = b.sheet; amending = Some (record { stored = b.sheet; count = 0 }) }

-- one accepted edit more
abbrev pub counted : Option Amending → Option Amending
counted None = None
counted (Some a) = Some (record { stored = a.stored; count = a.count + 1 })

-- an edit is made and counted
abbrev pub amended : Book → Edit → Book
amended b e = record { sheet = edited b.sheet e; amending = counted b.amending }

-- the count of accepted edits
abbrev pub edit_count : Option Amending → ℕ
edit_count None = 0
edit_count (Some a) = a.count

-- the amendment is closed, and its edits stay
abbrev pub kept : Book → Book
kept b = record { sheet = b.sheet; amending = None }

-- the sheet that withdrawing gives back
abbrev pub stored_or : Sheet → Option Amending → Sheet
stored_or h None = h
stored_or h (Some a) = a.stored

-- the amendment is closed, and the sheet is the stored one
abbrev pub withdrawn : Book → Book
withdrawn b = record { sheet = stored_or b.sheet b.amending; amending = None }

-- what a call that may be refused leaves
abbrev pub unless : {X : Type 0} → Option ℕ → X → X → X
unless None old new = new
unless (Some r) old new = old
