use Rattle.std.proofs.Common.{arith, rules}
use Rattle.sets.proofs.SortedLaws.{found_in, found_farther, found_member, room_left}
use Rattle.sets.proofs.sorted_list.SortedList.find.Goals as goal

pub returns : goal.returns
returns c =
    let x = c.args.self.now in
    let n = c.reach.result in
    let near = found_in x.items n c.args.value _ (search rules) (λ i j h l. x.rising i j h (omega (arith, l, c.reach.ensures.within))) c.binary_search.ensures.position in
    let place = found_farther x.items n x.len c.args.value _ x.rising c.reach.ensures.within c.reach.ensures.far near in
    record { place = place; member = found_member x.items x.len c.args.value _ place; room = room_left x.items x.len c.args.value _ x.short x.small x.rising place }
