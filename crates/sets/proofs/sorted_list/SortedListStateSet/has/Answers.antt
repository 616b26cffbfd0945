use Rattle.std.proofs.Common.{rules}
use Rattle.sets.proofs.SortedLaws.{above_none}
use Rattle.sets.proofs.sorted_list.SortedListStateSet.has.Goals as goal

pub returns : goal.returns
returns c =
    let x = c.args.self.now in
    search (rules, above_none x.items x.len c.args.state x.small)
