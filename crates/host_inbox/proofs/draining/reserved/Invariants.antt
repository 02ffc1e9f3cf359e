use Rattle.std.proofs.Common.{◌≡◌, ◌≤◌, All, vec_len, vec_capacity}
use Rattle.host_inbox.specs.inside.Slots.{IsRoom}
use Rattle.host_inbox.proofs.draining.reserved.Given as goal

abbrev pub invariant-loop : goal.invariant-loop
invariant-loop g l = record {
  count : vec_len l.empty ≡ l.counter;
  room : l.hosts ≤ vec_capacity l.empty;
  each : All IsRoom l.empty.items;
}
