use Rattle.std.proofs.Common.{vec_items, sym, ap, ◌∙◌, subst, rules}
use Rattle.sheets.specs.Fitting.{states_fit}
use Rattle.sheets.proofs.Filling.{fit_push}
use Rattle.reader.specs.Reading.{Unmoved}
use Rattle.reader.proofs.Filled.{unmoved_push}
use Rattle.reader.proofs.preamble.Preamble.read_states.Goals as goal

pub loop-due-preserved : goal.loop-due-preserved
loop-due-preserved c =
    let ss = vec_items c.loop-due.tables.states in
    let t = c.in_ok-state_line.field-0 in
    record {
      all = search rules;
      fit = ap (states_fit c.args.self.now.header.marks) c.push_reserved.ensures.items ∙ fit_push c.args.self.now.header.marks ss t c.loop-due.invariant.fit c.in_ok-state_line.ensures.fits;
      unmoved = subst Unmoved (sym c.push_reserved.ensures.items) (unmoved_push ss t c.loop-due.invariant.unmoved c.in_ok-state_line.ensures.unmoved);
    }
