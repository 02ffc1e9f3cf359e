use Rattle.std.proofs.Common.{◌≡◌, ◌≤◌, ◌<◌, ◌+◌, length, vec_capacity}
use Rattle.list_weights.specs.Places.{EachAt}
use Rattle.steal_workers.specs.inside.Columns.{AreColumns, IsRow}
use Rattle.steal_workers.proofs.row.row.Given as goal

abbrev pub invariant-loop-deque : goal.invariant-loop-deque
invariant-loop-deque g l = record {
  columns : AreColumns l._plan.value.items (length l.initial.columns) l.columns;
  height : EachAt (λ j column. (j < l.deque → length column.items + (l.place + 1) ≡ length l.initial.columns) × (l.deque ≤ j → length column.items + l.place ≡ length l.initial.columns)) l.columns;
  row : IsRow l._plan.value.items (length l.initial.columns) l.deque l.place l.shares.items;
  room : length l.initial.columns ≤ vec_capacity l.shares;
}
