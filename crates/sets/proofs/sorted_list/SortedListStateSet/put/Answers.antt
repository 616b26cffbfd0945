use Rattle.std.proofs.Common.{rules, sym}
use Rattle.sets.specs.Sorted.{among}
use Rattle.sets.proofs.MemberLaws.{has_there}
use Rattle.sets.proofs.SortedLaws.{inserted_has, inserted_small, inserted_rises}
use Rattle.sets.proofs.sorted_list.SortedListStateSet.put.Goals as goal

pub invariant_of-self-clause-small : goal.invariant_of-self-clause-small
invariant_of-self-clause-small c =
    let x = c.args.self.now in
    let moved = c.copy_within.ensures.by_index in
    inserted_small x.items _ x.len _ _ (search rules) moved.0 moved.1 c.in-Err.ensures.place.within c.if-state-ge-CAPACITY.false x.small

pub invariant_of-self-clause-rising : goal.invariant_of-self-clause-rising
invariant_of-self-clause-rising c =
    let x = c.args.self.now in
    let moved = c.copy_within.ensures.by_index in
    let b = c.in-Err.ensures.place in
    inserted_rises x.items _ x.len _ _ (search rules) moved.0 moved.1 b.within x.rising b

pub returns-in-Err-clause-after : goal.returns-in-Err-clause-after
returns-in-Err-clause-after c =
    let x = c.args.self.now in
    let moved = c.copy_within.ensures.by_index in
    inserted_has x.items _ x.len _ _ (search rules) moved.0 moved.1 c.in-Err.ensures.place.within

pub returns-in_default-clause-after : goal.returns-in_default-clause-after
returns-in_default-clause-after c =
    let x = c.args.self.now in
    has_there (among x.items x.len) c.args.state (sym c.in_default.ensures.member)
