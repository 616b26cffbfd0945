use Rattle.std.proofs.Common.{ap, ◌∙◌}
use Rattle.amendments.proofs.checks.has_move.Goals as goal

pub returns : goal.returns
returns c = c.leads.ensures ∙ ap (λ m. m c.args.from c.args.to) c.moves.ensures
