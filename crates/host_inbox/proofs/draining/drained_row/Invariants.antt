use Rattle.std.proofs.Common.{◌≡◌, ◌+◌, ◌*◌, ◌≤◌, vec_len, vec_capacity}
use Rattle.std.specs.Mem.Slots.{slots_items, slots_filled, slots_len}
use Rattle.host_inbox.specs.inside.Slots.{IsTakenTo, parcels_from}
use Rattle.host_inbox.proofs.draining.drained_row.Given as goal

abbrev pub invariant-loop-number : goal.invariant-loop-number
invariant-loop-number g l = record {
  items : slots_items l.closed.slots ≡ slots_items l.initial.closed.slots;
  places : slots_len l.closed.slots ≡ slots_len l.initial.closed.slots;
  taken : IsTakenTo (l.host * 16 + l.number) (slots_filled l.closed.slots);
  parcels : l.row.items ≡ parcels_from (slots_items l.closed.slots) (l.host * 16) l.number;
  few : vec_len l.row ≤ l.number;
  room : 16 ≤ vec_capacity l.row;
}
