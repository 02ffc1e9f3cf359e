-- Packets that wait for hosts in their places.
use Rattle.std.specs.Prelude.{◌≡◌, List, [], ◌∷◌, ◌++◌, map, Vec}
use Rattle.std.specs.declared.alloc.Global.{Global}
use Rattle.sim_base.specs.declared.event.Parcel.{Parcel}
use Rattle.round_lookahead.specs.declared.workers.host_task.HostTask.{HostTask}
use Rattle.round_parts.specs.Arrivals.{Boxed}

-- the packets of each host
abbrev pub rows_of : List HostTask → List (Vec Boxed Global)
rows_of tasks = map (λ (t : HostTask). t.parcels) tasks

-- the packet waits for the host too
pub record HasMore (parcel : Parcel) (old new : HostTask) : Type 0 where
  pub id : new.id ≡ old.id
  pub host : new.host ≡ old.host
  pub boxed : Boxed
  pub holds : boxed.value ≡ parcel
  pub joins : new.parcels.items ≡ old.parcels.items ++ boxed ∷ []

-- the same hosts in the same places
pub record IsSameHosts (old new : List HostTask) : Type 0 where
  pub ids : map (λ (t : HostTask). t.id) new ≡ map (λ (t : HostTask). t.id) old
  pub hosts : map (λ (t : HostTask). t.host) new ≡ map (λ (t : HostTask). t.host) old
