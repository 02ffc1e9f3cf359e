use Rattle.std.proofs.Common.{◌≡◌, ◌≤◌, ◌++◌, List, length, vec_len, vec_capacity}
use Rattle.std.specs.Vec.Iter.{into_iter_items}
use Rattle.steal_workers.specs.SeatViews.{SeatView, seat_count}
use Rattle.steal_workers.specs.WholeDeals.{common_deal}
use Rattle.steal_workers.specs.Deals.{IsDealt}
use Rattle.steal_workers.proofs.SeatStacks.{AreStacked}
use Rattle.steal_workers.proofs.gathering.stacks_of.Given as goal

abbrev pub invariant-loop-seat : goal.invariant-loop-seat
invariant-loop-seat g l = record {
  so_far : (done : List (SeatView g.row.T.Denot)) × (length done ≡ vec_len l.stacks) × (l.fn.seats.items ≡ done ++ into_iter_items l.seat-iterator) × AreStacked l.fn.seats.items done l.stacks.items;
  room : vec_len l.fn.seats ≤ vec_capacity l.stacks;
  dealt : 1 ≤ vec_len l.stacks → IsDealt (common_deal l.fn.seats.items).queues (common_deal l.fn.seats.items).tasks × (length (common_deal l.fn.seats.items).queues ≡ seat_count (common_deal l.fn.seats.items));
}
