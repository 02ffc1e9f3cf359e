use Rattle.std.proofs.Common.{◌≡◌, ◌+◌, ◌<◌, ◌≤◌, ℕ, length, get_or, vec_capacity}
use Rattle.steal_workers.specs.declared.item.Item.{Item}
use Rattle.list_weights.specs.Places.{EachAt}
use Rattle.list_weights.specs.Weights.{weigh}
use Rattle.steal_workers.specs.WholeDeals.{common_deal}
use Rattle.steal_workers.specs.Gathers.{IsStack, IsShareAt, AreOwnMarked, places, all_taken, share_taken}
use Rattle.steal_workers.proofs.gathering.pop_each.Given as goal

abbrev pub invariant-loop-seat : goal.invariant-loop-seat
invariant-loop-seat g l = record {
  same_places : places l.stacks ≡ places l.initial.stacks;
  stacks : EachAt (λ j stack. (j < l.seat → IsStack (AreOwnMarked l._seats.value.items) (common_deal l._seats.value.items) l._deque stack)
      × (l.seat ≤ j → IsStack (AreOwnMarked l._seats.value.items) (common_deal l._seats.value.items) (l._deque + 1) stack)) l.stacks;
  count : length l.column.items ≡ l.seat;
  tops : EachAt (λ s share. IsShareAt (AreOwnMarked l._seats.value.items) (common_deal l._seats.value.items) l._deque (get_or (places l.initial.stacks) s 0) share) l.column.items;
  taken : (h : Item g.row.T.Denot → ℕ) → all_taken h l.stacks + weigh (share_taken h) l.column.items ≡ all_taken h l.initial.stacks;
  capacity : vec_capacity l.column ≡ vec_capacity l.initial.column;
}
