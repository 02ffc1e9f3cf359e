use Rattle.std.proofs.Common.{length, sym, subst, arith}
use Rattle.crossbeam_deque.specs.Handles.{worker_view}
use Rattle.steal_workers.specs.Gathers.{AreOwnMarked}
use Rattle.steal_workers.specs.WholeDeals.{common_deal}
use Rattle.steal_workers.specs.inside.Items.{MarksLast}
use Rattle.steal_workers.proofs.GatherSteps.{one_owner}
use Rattle.steal_workers.proofs.EmptySteps.{whole_column, column_dealt, share_is_marks, drain_room, emptied_one}
use Rattle.steal_workers.proofs.gathering.empty.Goals as goal

pub whole-requires-clause-shares : goal.whole-requires-clause-shares
whole-requires-clause-shares g c =
    let seats = c.args.seats.now.value.items in
    whole_column (AreOwnMarked seats) (common_deal seats) c.args.deque c.args.stacks.now c.pop_each.new.stacks c.pop_each.new.column.items
    (let k = c.pop_each.ensures.popped.count in let w = c.requires.deque in omega arith) c.pop_each.ensures.popped

pub whole-requires-clause-owner : goal.whole-requires-clause-owner
whole-requires-clause-owner g c =
    let seats = c.args.seats.now.value.items in
    one_owner (AreOwnMarked seats) (common_deal seats) c.args.deque (length c.args.stacks.now) c.args.stacks.now c.pop_each.new.stacks c.pop_each.new.column.items c.pop_each.ensures.popped c.requires.deque
    (c.requires.emptying.once c.args.deque c.requires.deque)

pub drain-requires-clause-share : goal.drain-requires-clause-share
drain-requires-clause-share g c =
    share_is_marks c.args.seats.now.value.items c.args.deque c.args.stacks.now c.pop_each.new.stacks c.args.left.now.items c.pop_each.new.column.items (worker_view c.whole.result)
    c.requires.emptying c.requires.dealt c.requires.deque c.pop_each.ensures.popped c.whole.ensures.back

pub drain-requires-clause-some : goal.drain-requires-clause-some
drain-requires-clause-some g c =
    let share = c.whole.ensures.back.share in
    let count = c.pop_each.ensures.popped.count in
    let within = c.requires.deque in
    omega arith

pub drain-requires-clause-last : goal.drain-requires-clause-last
drain-requires-clause-last g c =
    let seats = c.args.seats.now.value.items in
    let same = c.whole.ensures.back.dealt _ (column_dealt (AreOwnMarked seats) (common_deal seats) c.args.deque c.args.stacks.now c.pop_each.new.stacks c.pop_each.new.column.items c.pop_each.ensures.popped) in
    subst MarksLast (sym same) (c.requires.dealt.marks_last c.args.deque)

pub drain-requires-clause-room : goal.drain-requires-clause-room
drain-requires-clause-room g c =
    let room = drain_room c.args.seats.now.value.items c.args.deque c.args.stacks.now c.pop_each.new.stacks c.args.left.now.items c.pop_each.new.column.items (worker_view c.whole.result)
    c.requires.emptying c.requires.deque c.pop_each.ensures.popped c.whole.ensures.back in
    let asked = c.requires.room in
    omega (arith, c.args.left.now.ok.0)

pub returns-clause-emptying : goal.returns-clause-emptying
returns-clause-emptying g c =
    let seats = c.args.seats.now.value.items in
    emptied_one seats c.args.deque c.args.stacks.now c.pop_each.new.stacks c.args.left.now.items c.drain.new.left.items c.pop_each.new.column.items (worker_view c.whole.result)
    c.requires.emptying c.requires.dealt c.requires.deque c.pop_each.ensures.popped
    (one_owner (AreOwnMarked seats) (common_deal seats) c.args.deque (length c.args.stacks.now) c.args.stacks.now c.pop_each.new.stacks c.pop_each.new.column.items c.pop_each.ensures.popped c.requires.deque
    (c.requires.emptying.once c.args.deque c.requires.deque))
    c.whole.ensures.back c.drain.ensures.drains
