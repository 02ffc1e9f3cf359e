use Rattle.std.proofs.Common.{◌≡◌}
use Rattle.std.specs.Vec.Iter.{into_iter_items}
use Rattle.host_link.specs.Handing.{with_events}
use Rattle.host_link.proofs.handing.hold_all.Given as goal

-- what is left gives the whole
abbrev pub invariant-loop-event : goal.invariant-loop-event
invariant-loop-event l = with_events (into_iter_items l.event-iterator) l.queue ≡ with_events l.fn.events.items l.initial.queue
