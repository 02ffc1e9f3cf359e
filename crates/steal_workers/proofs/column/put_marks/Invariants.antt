use Rattle.std.proofs.Common.{◌≡◌, ◌≤◌, ◌+◌, ◌++◌, true, []}
use Rattle.crossbeam_deque.specs.Handles.{worker_deque, worker_flavor, worker_view, worker_capacity, worker_index}
use Rattle.steal_workers.specs.inside.Decks.{mark_list}
use Rattle.steal_workers.specs.OneDeque.{hand}
use Rattle.steal_workers.proofs.column.put_marks.Given as goal

abbrev pub invariant-loop : goal.invariant-loop
invariant-loop g l = record {
  fifo : worker_flavor l.deque ≡ worker_flavor l.initial.deque;
  same : worker_deque l.deque ≡ worker_deque l.initial.deque;
  room : worker_capacity l.initial.deque ≤ worker_capacity l.deque;
  index : worker_index l.deque ≡ worker_index l.initial.deque + l.counter;
  view : worker_view l.deque ≡ hand true l.counter ((worker_view l.initial.deque).dealt ++ mark_list l.counter) [];
}
