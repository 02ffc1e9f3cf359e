-- Packets on their way to other hosts.
use Rattle.sim_base.specs.declared.event.Event.{Event}
use Rattle.sim_base.specs.declared.event.Parcel.{Parcel}
use Rattle.sim_base.specs.declared.event.What.TheVariants as what

-- the event that a packet is at its host
abbrev pub parcel_event : Parcel → Event
parcel_event p = record { key = p.key; what = what.Packet p.packet }
