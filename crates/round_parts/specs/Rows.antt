-- Packets that lie in rows, one for each host.
use Rattle.std.specs.Prelude.{◌≡◌, All, List, flat_map, Vec}
use Rattle.std.specs.declared.alloc.Global.{Global}
use Rattle.sim_base.specs.declared.event.Event.{Event}
use Rattle.list_weights.specs.Places.{EachAt}
use Rattle.host_link.specs.Net.{Net}
use Rattle.host_link.specs.Home.{home}
use Rattle.host_link.specs.Parcels.{parcel_event}
use Rattle.round_parts.specs.Arrivals.{Boxed, arrivals}

-- the events of packets that lie in rows
abbrev pub row_arrivals : List (Vec Boxed Global) → List Event
row_arrivals rows = flat_map (λ row. arrivals row.items) rows

-- each packet lies in the row of the host at which it fires
abbrev pub AreAtHome : Net → List (Vec Boxed Global) → Type 0
AreAtHome net rows = EachAt (λ host (row : Vec Boxed Global). All (λ (b : Boxed). home net (parcel_event b.value) ≡ host) row.items) rows
