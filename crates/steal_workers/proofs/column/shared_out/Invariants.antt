use Rattle.std.proofs.Common.{◌≡◌, ◌≤◌, ◌+◌, true, false, [], All, length, vec_len, vec_capacity}
use Rattle.std.specs.Vec.Iter.{into_iter_items}
use Rattle.crossbeam_deque.specs.Handles.{worker_deque, worker_flavor, worker_view}
use Rattle.list_weights.specs.Places.{EachAt}
use Rattle.steal_workers.specs.inside.Columns.{IsFresh}
use Rattle.steal_workers.specs.inside.Decks.{IsThiefOf}
use Rattle.steal_workers.specs.inside.Handles.{is_own}
use Rattle.steal_workers.specs.OneDeque.{hand}
use Rattle.steal_workers.proofs.column.shared_out.Given as goal

abbrev pub invariant-loop-thief : goal.invariant-loop-thief
invariant-loop-thief g l = record {
  fifo : worker_flavor l.deque ≡ 0;
  same : worker_deque l.deque ≡ worker_deque l.initial.deque;
  view : worker_view l.deque ≡ hand true (length (into_iter_items l.thief-iterator) + 1) (worker_view l.initial.deque).dealt [];
  thieves : All (IsThiefOf (worker_deque l.initial.deque)) (into_iter_items l.thief-iterator);
  count : vec_len l.shares + length (into_iter_items l.thief-iterator) ≡ vec_len l.fn.thieves;
  room : vec_len l.fn.thieves + 1 ≤ vec_capacity l.shares;
  each : EachAt (λ i share. IsFresh (worker_deque l.initial.deque) (worker_view l.initial.deque).dealt share × (is_own share.handle ≡ false)) l.shares.items;
}
