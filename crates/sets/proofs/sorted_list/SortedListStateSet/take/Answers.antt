use Rattle.std.proofs.Common.{rules, sym}
use Rattle.sets.specs.Sorted.{among}
use Rattle.sets.proofs.MemberLaws.{has_not}
use Rattle.sets.proofs.SortedLaws.{above_none, removed_has, removed_small, removed_rises}
use Rattle.sets.proofs.sorted_list.SortedListStateSet.take.Goals as goal

pub returns-then-state-ge-CAPACITY : goal.returns-then-state-ge-CAPACITY
returns-then-state-ge-CAPACITY c =
    let x = c.args.self.now in
    has_not (among x.items x.len) c.args.state (above_none x.items x.len c.args.state x.small (search rules))

pub invariant_of-self-clause-small : goal.invariant_of-self-clause-small
invariant_of-self-clause-small c =
    let x = c.args.self.now in
    let a = c.in-Ok.ensures.place in
    let moved = c.copy_within.ensures.by_index in
    removed_small x.items _ x.len _ _ moved.0 moved.1 a.within a.here x.rising x.small

pub invariant_of-self-clause-rising : goal.invariant_of-self-clause-rising
invariant_of-self-clause-rising c =
    let x = c.args.self.now in
    let a = c.in-Ok.ensures.place in
    let moved = c.copy_within.ensures.by_index in
    removed_rises x.items _ x.len _ _ moved.0 moved.1 a.within a.here x.rising

pub returns-in-Ok : goal.returns-in-Ok
returns-in-Ok c =
    let x = c.args.self.now in
    let a = c.in-Ok.ensures.place in
    let moved = c.copy_within.ensures.by_index in
    removed_has x.items _ x.len _ c.args.state moved.0 moved.1 a.within a.here x.rising

pub returns-in_default : goal.returns-in_default
returns-in_default c =
    let x = c.args.self.now in
    has_not (among x.items x.len) c.args.state (sym c.in_default.ensures.member)
