-- What firings hand out.
use Rattle.std.specs.Prelude.{◌≡◌, ℕ, ◌==◌, Bool, true, false, List, [], ◌∷◌, ◌++◌, map, if◌then◌else◌}
use Rattle.sim_base.specs.declared.event.Event.{Event}
use Rattle.sim_base.specs.declared.event.Parcel.{Parcel}
use Rattle.sim_base.specs.declared.event.What.{What}
use Rattle.sim_base.specs.declared.event.What.TheVariants as what
use Rattle.sim_base.specs.declared.key.Key.{Key}
use Rattle.file_calls.specs.declared.task.Output.{Output}
use Rattle.host_link.specs.declared.line.Line.{Line}
use Rattle.host_link.specs.declared.line.Logged.{Logged}
use Rattle.host_link.specs.Net.{Net}
use Rattle.host_link.specs.declared.outbox.Outbox.{Outbox}
use Rattle.host_link.specs.Home.{home}

-- the events of a list that fire at a host
abbrev pub own_events : Net → ℕ → List Event → List Event
own_events net host [] = []
own_events net host (e ∷ es) = if home net e == host then e ∷ own_events net host es else own_events net host es

-- a packet is sent to the host at which it fires
abbrev pub posted : ℕ → Key → What → List Parcel → List Parcel
posted to key (what.Packet packet) parcels = record { key = key; to = record { index = to }; packet = packet } ∷ parcels
posted to key _ parcels = parcels

-- the packets of a list that fire at other hosts
abbrev pub parcels_of : Net → ℕ → List Event → List Parcel
parcels_of net host [] = []
parcels_of net host (e ∷ es) =
    if home net e == host then parcels_of net host es else posted (home net e) e.key e.what (parcels_of net host es)

abbrev pub logged : Key → Line → Logged
logged key line = record { key = key; line = line }

pub record IsEmpty (out : Outbox) : Type 0 where
  pub parcels : out.parcels.items ≡ []
  pub lines : out.lines.items ≡ []
  pub outputs : out.outputs.items ≡ []

-- the packet of an event that fires at another host is added
pub record Posts (to : ℕ) (e : Event) (old new : Outbox) : Type 0 where
  pub parcels : new.parcels.items ≡ old.parcels.items ++ posted to e.key e.what []
  pub lines : new.lines ≡ old.lines
  pub outputs : new.outputs ≡ old.outputs

-- lines are added
pub record AddsLines (key : Key) (added : List Line) (old new : Outbox) : Type 0 where
  pub parcels : new.parcels ≡ old.parcels
  pub lines : new.lines.items ≡ old.lines.items ++ map (logged key) added
  pub outputs : new.outputs ≡ old.outputs

-- what processes wrote is added
pub record AddsOutputs (added : List Output) (old new : Outbox) : Type 0 where
  pub parcels : new.parcels ≡ old.parcels
  pub lines : new.lines ≡ old.lines
  pub outputs : new.outputs.items ≡ old.outputs.items ++ added
