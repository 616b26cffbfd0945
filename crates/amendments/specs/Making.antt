-- What an edit makes of the states of a sheet.
use Rattle.std.specs.Prelude.{◌≡◌, ◌<◌, true, List}
use Rattle.semantics.specs.Edits.{Edit, join_move, cut_move, set_value, set_marks, the_position, the_copy, edited}
use Rattle.sheets.specs.declared.holders.Holders.{Holders}
use Rattle.sheets.specs.declared.parts.Header.{Header}
use Rattle.sheets.specs.declared.parts.Row.{Row}
use Rattle.sheets.specs.declared.parts.State.{State}
use Rattle.sheets.specs.Holding.{held}
use Rattle.sheets.specs.Model.{model_from}

-- the sheet has the value that the edit sets: a party has a position, and a copy of each channel that it holds
abbrev pub HasValue : Header → Holders → Edit → Type 0
HasValue head who (join_move from to) = Unit
HasValue head who (cut_move from to) = Unit
HasValue head who (set_value state party the_position v) = party < head.parties
HasValue head who (set_value state party (the_copy channel) v) = held who channel party ≡ true
HasValue head who (set_marks state sum) = Unit

-- a sheet with the old states is, with the new ones instead, the sheet with the edit made
abbrev pub Makes : List State → List State → Edit → Type 0
Makes old new edit = (head : Header) (who : Holders) (rows : List Row) → HasValue head who edit
    → model_from head who new rows ≡ edited (model_from head who old rows) edit
