use Rattle.std.proofs.Common.{◌≡◌, ◌-◌, ◌≤◌, ◌<◌, [], length, vec_capacity}
use Rattle.steal_workers.specs.WholeDeals.{common_deal}
use Rattle.steal_workers.specs.inside.Emptying.{IsEmptying}
use Rattle.steal_workers.proofs.gathering.empty_all.Given as goal

abbrev pub invariant-loop-done : goal.invariant-loop-done
invariant-loop-done g l = record {
  emptying : IsEmptying l.seats.value.items (length l.initial.stacks - l.done) l.stacks l.left.items;
  column : l.column.items ≡ [];
  shares : length l.initial.stacks ≤ vec_capacity l.column;
  room : length (common_deal l.seats.value.items).tasks < vec_capacity l.left;
}
