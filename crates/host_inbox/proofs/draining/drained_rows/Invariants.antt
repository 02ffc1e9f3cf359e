use Rattle.std.proofs.Common.{◌≡◌, ◌+◌, ◌*◌, ◌≤◌, All, vec_len, vec_capacity}
use Rattle.std.specs.Mem.Slots.{slots_items, slots_filled, slots_len}
use Rattle.list_weights.specs.Places.{EachAt}
use Rattle.host_inbox.specs.inside.Slots.{IsRoom, IsTakenTo, row_of}
use Rattle.host_inbox.proofs.draining.drained_rows.Given as goal

abbrev pub invariant-loop-row : goal.invariant-loop-row
invariant-loop-row g l = record {
  items : slots_items l.closed.slots ≡ slots_items l.initial.closed.slots;
  places : slots_len l.closed.slots ≡ slots_len l.initial.closed.slots;
  taken : IsTakenTo (vec_len l.rows * 16) (slots_filled l.closed.slots);
  count : vec_len l.empty + vec_len l.rows ≡ vec_len l.initial.empty;
  room : vec_len l.initial.empty ≤ vec_capacity l.rows;
  rooms : All IsRoom l.empty.items;
  each : EachAt (λ host row. row.items ≡ row_of (slots_items l.initial.closed.slots) host) l.rows.items;
}

abbrev pub decreases-loop-row : goal.decreases-loop-row
decreases-loop-row g l = vec_len l.empty
