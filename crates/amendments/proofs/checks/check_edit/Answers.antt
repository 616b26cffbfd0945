use Rattle.std.proofs.Common.{◌≡◌, ℕ, Some, arith}
use Rattle.std.proofs.lemmas.Grind.{common_steps}
use Rattle.semantics.specs.Edits.{Edit, join_move, cut_move, set_value, set_marks, the_position, the_copy, first_of, edit_checks}
use Rattle.semantics.specs.Sheets.{Sheet}
use Rattle.sheets.specs.Model.{model_of}
use Rattle.amendments.specs.Edits.{value_of}
use Rattle.amendments.proofs.checks.check_edit.Goals as goal

-- what refuses the first edit refuses a later one
still_refused : (h : Sheet) (count r : ℕ) (e : Edit) → Some r ≡ first_of (edit_checks h 0 e) → Some r ≡ first_of (edit_checks h count e)
still_refused h count r (join_move from to) e = grind (arith, common_steps)
still_refused h count r (cut_move from to) e = grind (arith, common_steps)
still_refused h count r (set_value state party the_position number) e = grind (arith, common_steps)
still_refused h count r (set_value state party (the_copy channel) number) e = grind (arith, common_steps)
still_refused h count r (set_marks state sum) e = grind (arith, common_steps)

pub returns-in_err-check_join-in-Join : goal.returns-in_err-check_join-in-Join
returns-in_err-check_join-in-Join c =
    let e = still_refused (model_of c.args.sheet.now) c.args.count _ (join_move c.in-Join.from c.in-Join.to) c.in_err-check_join-in-Join.ensures in
    grind (arith, common_steps)

pub returns-in_err-check_cut-in-Cut : goal.returns-in_err-check_cut-in-Cut
returns-in_err-check_cut-in-Cut c =
    let e = still_refused (model_of c.args.sheet.now) c.args.count _ (cut_move c.in-Cut.from c.in-Cut.to) c.in_err-check_cut-in-Cut.ensures in
    grind (arith, common_steps)

pub returns-in_err-check_set-in-Set : goal.returns-in_err-check_set-in-Set
returns-in_err-check_set-in-Set c =
    let e = still_refused (model_of c.args.sheet.now) c.args.count _ (set_value c.in-Set.state c.in-Set.party (value_of c.in-Set.value) c.in-Set.number) c.in_err-check_set-in-Set.ensures in
    grind (arith, common_steps)
