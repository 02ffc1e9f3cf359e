use Rattle.std.proofs.Common.{map, take}
use Rattle.event_order.specs.Events.{IsLeastDue}
use Rattle.host_link.specs.Parcels.{parcel_event}
use Rattle.round_parts.proofs.arriving.first_spilled.Given as goal

-- of the packets so far
abbrev pub invariant-loop-parcel : goal.invariant-loop-parcel
invariant-loop-parcel l = IsLeastDue (map parcel_event (take l.parcel-index l.parcels)) l.least
