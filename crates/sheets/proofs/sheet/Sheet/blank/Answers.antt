use Rattle.std.proofs.Common.{refl, ap, ◌∙◌, arith}
use Rattle.std.proofs.lemmas.Bool.{both_ways}
use Rattle.sheets.specs.Fitting.{states_fit, start_fits}
use Rattle.sheets.specs.Moves.{all_move, move_count}
use Rattle.sheets.proofs.Model.{within_from, none_move, no_moves}
use Rattle.sheets.proofs.sheet.Sheet.blank.Goals as goal

pub returns-clause-fits : goal.returns-clause-fits
returns-clause-fits c =
    let none = c.in_ok-tables.ensures.0 in
    record {
      holders_exist = within_from 0 0 c.none.result (λ k p on. absurd (both_ways _ (c.none.ensures k p) on));
      header_fits = refl;
      states_fit = ap (states_fit 0) none;
      some_start = ap start_fits none;
      few_moves = omega (arith, ap move_count none, no_moves);
      moves_leave = ap all_move none ∙ none_move;
    }
