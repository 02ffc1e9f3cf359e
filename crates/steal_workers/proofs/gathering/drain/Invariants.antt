use Rattle.std.proofs.Common.{◌≡◌, ◌-◌, length, vec_capacity}
use Rattle.crossbeam_deque.specs.Handles.{worker_flavor, worker_view}
use Rattle.steal_workers.proofs.BackSteps.{More, IsSince}
use Rattle.steal_workers.proofs.gathering.drain.Given as goal

abbrev pub invariant-loop-item : goal.invariant-loop-item
invariant-loop-item g l = record {
  fifo : worker_flavor l.deque ≡ 0;
  since : IsSince (worker_view l.initial.deque) (worker_view l.deque);
  capacity : vec_capacity l.left ≡ vec_capacity l.initial.left;
  more : More (worker_view l.initial.deque) (worker_view l.deque) l.initial.left.items l.left.items;
}

abbrev pub decreases-loop-item : goal.decreases-loop-item
decreases-loop-item g l = length (worker_view l.deque).dealt - length (worker_view l.deque).taken
