-- What the firing of an event does to a host of a round.
use Rattle.std.specs.Prelude.{◌≡◌, ◌≤◌, ◌<◌, List, ◌++◌, map, IsPermutation, Some}
use Rattle.sim_base.specs.Units.{latest_time}
use Rattle.sim_base.specs.declared.event.Event.{Event}
use Rattle.host_link.specs.Net.{Net}
use Rattle.host_state.specs.Fire.{fire, wrote}
use Rattle.host_state.specs.HostRecord.{HostRecord}
use Rattle.host_state.specs.HostStands.{Stands}
use Rattle.host_state.specs.Running.{MayRun}
use Rattle.host_link.specs.Outbox.{own_events, parcels_of, logged}
use Rattle.world_order.specs.EventOrder.{take_least}
use Rattle.round_schedule.specs.declared.firing.HandedOut.{HandedOut}
use Rattle.round_schedule.specs.declared.member.Member.{Member}

-- the host's least event may fire: it is due before the stop, and the events that the host holds are its own
pub record MayTurn (net : Net) (c : Member) : Type 0 where
  pub stop : net.stop.nanos ≤ latest_time
  pub event : Event
  pub rest : List Event
  pub taken : take_least c.host.queue ≡ Some (event, rest)
  pub due : event.key.due.nanos < net.stop.nanos
  pub own : MayRun net c.host

-- the event fired: its own events are held with the others, what was written is kept, and packets and lines are handed out
pub record TurnedBy (net : Net) (h : HostRecord) (event : Event) (rest : List Event) (old new : Member) (out : HandedOut) : Type 0 where
  pub host : Stands new.host (fire net h event).host
  pub queue : IsPermutation new.host.queue (rest ++ own_events net h.link.number (fire net h event).made)
  pub outputs : new.outputs.items ≡ old.outputs.items ++ wrote net h event
  pub parcels : out.parcels.items ≡ parcels_of net h.link.number (fire net h event).made
  pub lines : out.lines.items ≡ map (logged event.key) (fire net h event).lines

-- the least event of the host fired
pub record Turned (net : Net) (h : HostRecord) (old new : Member) (out : HandedOut) : Type 0 where
  pub event : Event
  pub rest : List Event
  pub taken : take_least old.host.queue ≡ Some (event, rest)
  pub by : TurnedBy net h event rest old new out

-- whatever record the host stood for
pub record Turns (net : Net) (old new : Member) (out : HandedOut) : Type 0 where
  pub stage : new.stage ≡ old.stage
  pub places : new.places ≡ old.places
  pub turned : (h : HostRecord) → Stands old.host h → Turned net h old new out
