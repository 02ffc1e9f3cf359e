-- Packets that wait for a host.
use Rattle.std.specs.Prelude.{List, map, Box}
use Rattle.std.specs.declared.alloc.Global.{Global}
use Rattle.sim_base.specs.declared.event.Event.{Event}
use Rattle.sim_base.specs.declared.event.Parcel.{Parcel}
use Rattle.host_link.specs.Parcels.{parcel_event}

-- a parcel in its box
abbrev pub Boxed : Type 0
Boxed = Box Parcel Global

-- the events that parcels are at their host
abbrev pub arrivals : List Boxed → List Event
arrivals parcels = map (λ b. parcel_event b.value) parcels
