use Rattle.std.proofs.Common.{◌&&◌, ltb, sym, ◌∙◌}
use Rattle.std.proofs.lemmas.Bool.{and_parts, ltb-true}
use Rattle.semantics.proofs.Quantifiers.{any_found}
use Rattle.sheets.specs.Holding.{held, share_some}
use Rattle.checker.proofs.access.AccessStepRule.leads.Goals as goal

-- a debtor that holds some channel is one of the six parties
pub keeps_position-requires : goal.keeps_position-requires
unfolding share_some
keeps_position-requires c =
    let a = c.args.self.now in
    let k = any_found 8 (λ k. held a.holders.now k a.debtor && held a.holders.now k a.creditor) (sym c.share.ensures ∙ c.if-share.true) in
    let debtor_holds = (and_parts (held a.holders.now k.0 a.debtor) _ k.2).0 in
    ltb-true a.debtor 6 (and_parts (ltb a.debtor 6) _ (and_parts (ltb k.0 8) _ debtor_holds).1).0
