-- The edits of the program, as the semantics has them.
use Rattle.std.specs.Prelude.{ℕ, Some, None, Ok, Err, Option, Result}
use Rattle.semantics.specs.Edits.{join_move, cut_move, set_value, set_marks, the_position, the_copy}
use Rattle.semantics.specs.Edits as semantics
use Rattle.texts.specs.declared.refusal.Refusal.{Refusal}
use Rattle.texts.specs.Refusals.{code_of}
use Rattle.amendments.specs.declared.edit.Edit.{Edit}
use Rattle.amendments.specs.declared.edit.Edit.TheVariants.{Join, Cut, Set, Mark}
use Rattle.amendments.specs.declared.edit.Value.{Value}
use Rattle.amendments.specs.declared.edit.Value.TheVariants.{Position, Copy}

abbrev pub value_of : Value → semantics.Value
value_of Position = the_position
value_of (Copy channel) = the_copy channel

abbrev pub edit_of : Edit → semantics.Edit
edit_of (Join from to) = join_move from to
edit_of (Cut from to) = cut_move from to
edit_of (Set state party value number) = set_value state party (value_of value) number
edit_of (Mark state sum) = set_marks state sum

-- the number of the refusal, if there is one
abbrev pub refusal_in : {A : Type 0} → Result A Refusal → Option ℕ
refusal_in (Ok a) = None
refusal_in (Err r) = Some (code_of r)
