use Rattle.std.proofs.Common.{rules}
use Rattle.sets.proofs.Ranges.{all_upto}
use Rattle.checker.specs.Access.{agreed, all_agreed}
use Rattle.checker.proofs.access.Access.all_agree.Goals as goal

pub returns : goal.returns
unfolding all_agreed
returns c =
    let a = c.args.self.now in
    all_upto (agreed a.holders.now c.args.before.now c.args.after.now a.debtor a.creditor) c.all.ensures.ran (λ x b q k. search rules)
