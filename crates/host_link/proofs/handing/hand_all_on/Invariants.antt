use Rattle.std.proofs.Common.{◌≡◌, ◌++◌}
use Rattle.std.specs.Vec.Iter.{into_iter_items}
use Rattle.host_link.specs.Outbox.{own_events, parcels_of}
use Rattle.host_link.specs.Handing.{with_events}
use Rattle.host_link.proofs.handing.hand_all_on.Given as goal

-- what is there, and then what is left, are the whole
abbrev pub invariant-loop-event : goal.invariant-loop-event
invariant-loop-event l = record {
  queue : with_events (own_events l.net l.host (into_iter_items l.event-iterator)) l.queue ≡ with_events (own_events l.net l.host l.fn.events.items) l.initial.queue;
  parcels : l.out.parcels.items ++ parcels_of l.net l.host (into_iter_items l.event-iterator) ≡ l.initial.out.parcels.items ++ parcels_of l.net l.host l.fn.events.items;
  lines : l.out.lines ≡ l.initial.out.lines;
  outputs : l.out.outputs ≡ l.initial.out.outputs;
}
