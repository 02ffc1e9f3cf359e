use Rattle.std.proofs.Common.{◌≡◌, ◌+◌, ◌-◌, ◌≤◌, [], All, vec_len, vec_capacity}
use Rattle.host_inbox.specs.Inboxes.{known}
use Rattle.host_inbox.proofs.opening.carriers_of.Given as goal

abbrev pub invariant-loop : goal.invariant-loop
invariant-loop g l = record {
  table : l.seat.table_id ≡ l.places.table_id;
  knows : l.seat.me ≡ (known (l.seats - l.counter + 1) [] [], []);
  count : vec_len l.carriers + 1 ≡ l.counter;
  room : l.seats ≤ vec_capacity l.carriers;
  each : All (λ carrier. (carrier.boards ≡ l.places.table_id) × (carrier.entries ≡ [])) l.carriers.items;
}
