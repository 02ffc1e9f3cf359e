use Rattle.std.proofs.Common.{◌≡◌, ◌+◌, ℕ, true, false, All, length, vec_capacity}
use Rattle.crossbeam_deque.specs.Handles.{worker_deque, worker_flavor, worker_view}
use Rattle.steal_workers.specs.declared.item.Item.{Item}
use Rattle.list_weights.specs.Weights.{weigh}
use Rattle.steal_workers.specs.inside.Handles.{deque_of, is_own}
use Rattle.steal_workers.specs.inside.Shares.{IsShare}
use Rattle.steal_workers.specs.Gathers.{share_taken}
use Rattle.steal_workers.proofs.gathering.whole.Given as goal

abbrev pub invariant-loop-share : goal.invariant-loop-share
invariant-loop-share g l = record {
  fifo : worker_flavor l.deque ≡ 0;
  same : worker_deque l.deque ≡ worker_deque l.initial.deque;
  deals : (worker_view l.deque).deals ≡ true;
  dealt : (worker_view l.deque).dealt ≡ (worker_view l.initial.deque).dealt;
  share : (worker_view l.deque).share + length l.column.items ≡ (worker_view l.initial.deque).share + length l.initial.column.items;
  taken : (h : Item g.row.T.Denot → ℕ) → weigh h (worker_view l.deque).taken + weigh (share_taken h) l.column.items ≡ weigh h (worker_view l.initial.deque).taken + weigh (share_taken h) l.initial.column.items;
  rest : All (λ share. IsShare share × (deque_of share.handle ≡ worker_deque l.initial.deque) × (is_own share.handle ≡ false)) l.column.items;
  capacity : vec_capacity l.column ≡ vec_capacity l.initial.column;
}

abbrev pub decreases-loop-share : goal.decreases-loop-share
decreases-loop-share g l = length l.column.items
