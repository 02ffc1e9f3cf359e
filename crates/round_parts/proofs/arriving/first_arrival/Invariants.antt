use Rattle.std.proofs.Common.{take}
use Rattle.event_order.specs.Events.{IsLeastDue}
use Rattle.round_parts.specs.Arrivals.{arrivals}
use Rattle.round_parts.proofs.arriving.first_arrival.Given as goal

-- of the packets so far
abbrev pub invariant-loop-parcel : goal.invariant-loop-parcel
invariant-loop-parcel l = IsLeastDue (arrivals (take l.parcel-index l.parcels)) l.least
