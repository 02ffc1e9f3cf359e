-- What a world of the code stands for.
use Rattle.std.specs.Prelude.{◌≡◌, ℕ, ◌<◌, ◌≤◌, length, flat_map, All, IsPermutation, Option, Some, None, option_map, slice_get}
use Rattle.sim_base.specs.Units.{latest_time}
use Rattle.sim_base.specs.declared.event.Event.{Event}
use Rattle.sim_base.specs.declared.time.Time.{Time}
use Rattle.host_inbox.specs.Sizes.{most_inboxes}
use Rattle.host_link.specs.declared.line.Line.{Line}
use Rattle.host_link.specs.Net.{Net}
use Rattle.host_state.specs.Fits.{model, IsEventOf, IsHostOf, IsLookaheadOf, IsShort}
use Rattle.host_link.specs.Home.{home}
use Rattle.host_state.specs.HostRecord.{HostRecord}
use Rattle.host_state.specs.HostStands.{Stands}
use Rattle.host_state.specs.Gains.{names_in}
use Rattle.run_files.specs.Listed.{names_of}
use Rattle.host_link.specs.Logs.{lines_of}
use Rattle.world_order.specs.EventOrder.{AreApart}
use Rattle.world_order.specs.Settled.{next_at}
use Rattle.world_order.specs.World as order
use Rattle.round_lookahead.specs.declared.workers.host_task.HostTask.{HostTask}
use Rattle.round_lookahead.specs.declared.world.world_state.World.{World}
use Rattle.round_parts.specs.Counts.{counts_of}
use Rattle.round_lookahead.specs.Tasks.{waiting}

-- hosts by number, the events that wait, and the packet log
abbrev pub HostWorld : Type 0
HostWorld = order.World HostRecord Line

abbrev pub nanos_of : Option Time → Option ℕ
nanos_of time = option_map (λ (t : Time). t.nanos) time

-- a lookahead of a nanosecond at least
abbrev pub IsAhead : Option ℕ → Type 0
IsAhead None = Unit {0}
IsAhead (Some lookahead) = 0 < lookahead

-- a net of 1 to 65,536 hosts whose rounds get on: no route takes less than the lookahead
pub record HasRounds (net : Net) (lookahead : Option ℕ) : Type 0 where
  pub stop : net.stop.nanos ≤ latest_time
  pub some : 0 < length net.known.book
  pub few : length net.known.book ≤ most_inboxes
  pub routes : IsLookaheadOf net lookahead
  pub short : IsShort lookahead
  pub ahead : IsAhead lookahead

-- a world between rounds: all hosts of the net are there; no two events have the same key, and each has a number that its source gave; no
-- host has fired an event due later than one that waits
pub record IsBetweenRounds (net : Net) (w : HostWorld) : Type 0 where
  pub count : length w.hosts ≡ length net.known.book
  pub apart : AreApart w.events
  pub below : All (λ (e : Event). e.key.number < next_at (model net) w.hosts e.key.source.index) w.events
  pub events : All (IsEventOf net) w.events
  pub hosts : (i : ℕ) (host : HostRecord) → slice_get w.hosts i ≡ Some host → IsHostOf net i host
  pub clock : (i : ℕ) (host : HostRecord) → slice_get w.hosts i ≡ Some host → All (λ (e : Event). host.link.time.nanos ≤ e.key.due.nanos) w.events

-- the host of that number, and what it holds and what waits for it fires there
pub record StandsAt (net : Net) (number : ℕ) (t : HostTask) (host : HostRecord) : Type 0 where
  pub id : t.id.index ≡ number
  pub stands : Stands t.host.value host
  pub home : All (λ (e : Event). home net e ≡ number) (waiting t)

-- the hosts stand for the world's, each for that of its place, and are listed by their names; what they hold and the packets that wait for
-- them are together its events, each once and each at its host. Of the log the counts alone are kept, and nothing of what processes wrote.
pub record WorldStands (c : World) (w : HostWorld) : Type 0 where
  pub rounds : HasRounds c.net (nanos_of c.lookahead)
  pub count : length c.tasks.items ≡ length w.hosts
  pub listed : names_of c.listing ≡ names_in w
  pub hosts : (k : ℕ) (t : HostTask) (host : HostRecord) → slice_get c.tasks.items k ≡ Some t → slice_get w.hosts k ≡ Some host → StandsAt c.net k t host
  pub events : IsPermutation (flat_map waiting c.tasks.items) w.events
  pub counts : c.counts ≡ counts_of (lines_of w.log)
  pub between : IsBetweenRounds c.net w
