use Rattle.std.proofs.Common.{◌≡◌, ◌≤◌, All, vec_len, vec_capacity}
use Rattle.steal_workers.specs.inside.Layouts.{IsEmptyRow}
use Rattle.steal_workers.proofs.dealing.new_rows.Given as goal

abbrev pub invariant-loop : goal.invariant-loop
invariant-loop g l = record {
  count : vec_len l.rows ≡ l.counter;
  room : l.seats ≤ vec_capacity l.rows;
  each : All (IsEmptyRow l.seats l.tasks.items) l.rows.items;
}
