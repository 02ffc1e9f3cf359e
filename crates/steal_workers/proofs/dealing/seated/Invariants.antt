use Rattle.std.proofs.Common.{◌≡◌, ◌≤◌, ◌+◌, All, length, vec_len, vec_capacity}
use Rattle.std.specs.Vec.Iter.{into_iter_items}
use Rattle.list_weights.specs.Places.{EachAt}
use Rattle.steal_workers.specs.inside.Columns.{AreColumns}
use Rattle.steal_workers.specs.inside.Layouts.{IsEmptyRow, AreSeated, planned}
use Rattle.steal_workers.proofs.dealing.seated.Given as goal

abbrev pub invariant-loop-empty : goal.invariant-loop-empty
invariant-loop-empty g l = record {
  columns : AreColumns l.plan.decks.value.items (length l.initial.columns) l.columns;
  height : EachAt (λ _ column. length column.items + vec_len l.seats ≡ length l.initial.columns) l.columns;
  rows : All (IsEmptyRow (length l.initial.columns) l.plan.tasks.value.items) (into_iter_items l.empty-iterator);
  left : vec_len l.seats + length (into_iter_items l.empty-iterator) ≡ length l.initial.columns;
  room : length l.initial.columns ≤ vec_capacity l.seats;
  seats : AreSeated (planned (length l.initial.columns) l.plan.decks.value.items l.plan.tasks.value.items) l.seats.items;
}
