-- How far a run has come by its rounds, and what is left of it.
use Rattle.std.specs.Prelude.{ℕ, ◌-◌, ◌≤◌, min, List, [], ◌∷◌, flat_map}
use Rattle.sim_base.specs.declared.event.Event.{Event}
use Rattle.host_link.specs.Net.{Net}
use Rattle.host_state.specs.Fits.{model}
use Rattle.world_order.specs.World as order
use Rattle.round_lookahead.specs.declared.world.world_state.World.{World}
use Rattle.round_lookahead.specs.Tasks.{waiting}
use Rattle.round_lookahead.specs.WorldStands.{HostWorld}

-- a run that began with the first world has reached the second: at some time, the stop at the latest, it is the world after all turns of the
-- one list of events that are due before
pub record HasReached (net : Net) (start w : HostWorld) : Type 0 where
  pub time : ℕ
  pub within : time ≤ net.stop.nanos
  pub turns : order.IsResult (model net) time w start

-- when the next event is due, or the stop where that is sooner
abbrev pub soonest : ℕ → List Event → ℕ
soonest stop [] = stop
soonest stop (e ∷ es) = min e.key.due.nanos (soonest stop es)

-- how many nanoseconds are left from the next event to the stop
abbrev pub time_left : World → ℕ
time_left world = world.net.stop.nanos - soonest world.net.stop.nanos (flat_map waiting world.tasks.items)
