-- packets that stay at their host, past the network: it sends them to itself, and the event Loop brings them to it
use Rattle.std.specs.Prelude.{◌≡◌, Bool, true, false, List, Contains, Some, slice_get}
use Rattle.sim_base.specs.declared.act.Act.{Act}
use Rattle.sim_base.specs.declared.act.Act.TheVariants.{Send, Recv, SockFull, NoPort}
use Rattle.sim_base.specs.declared.address.Ip.{Ip}
use Rattle.sim_base.specs.declared.event.Event.{Event}
use Rattle.sim_base.specs.declared.event.What.{What}
use Rattle.sim_base.specs.declared.event.What.TheVariants as what
use Rattle.sim_base.specs.declared.packet.Packet.{Packet}
use Rattle.run_files.specs.Captures.{is_loopback}
use Rattle.host_link.specs.Sending.{stays_here}
use Rattle.host_state.specs.Fire.{fire}
use Rattle.host_link.specs.Home.{home}
use Rattle.host_state.specs.HostRecord.{HostRecord}
use Rattle.host_state.specs.World.{World, opening_world}
use Rattle.host_link.specs.declared.line.Line.{Line}
use Rattle.host_link.specs.Net.{Net}
use Rattle.host_rows.specs.declared.row.Row.{Row}
use Rattle.world_order.specs.World.{Logged}
use Rattle.run_streams.specs.Run.{IsReached}

abbrev pub is_loop : What → Bool
is_loop (what.Loop packet) = true
is_loop _ = false

-- whether a packet stays at its host, by what becomes of it there as an event fires: what is sent stays where it is for the host
-- itself; what comes, to a socket or to none, where the event is a Loop; and what is in a lane or takes a route never does
abbrev pub stays : Ip → What → Act → Packet → Bool
stays own cause Send packet = stays_here own packet
stays own cause Recv packet = is_loop cause
stays own cause SockFull packet = is_loop cause
stays own cause NoPort packet = is_loop cause
stays own cause _ packet = false

-- a line of the packet log has its packet as loopback exactly where it stays
abbrev pub TellsStays : Ip → What → Line → Type 0
TellsStays own cause line = is_loopback own line.packet ≡ stays own cause line.act line.packet

-- a line of the packet log of a run: an event logged it as it fired at the line's host, in a world that the run had reached, and
-- the line tells whether its packet stays
pub record WasLogged (net : Net) (rows : List Row) (l : Logged Line) : Type 0 where
  pub before : World
  pub reached : IsReached net (opening_world rows) before
  pub event : Event
  pub waits : Contains before.events event
  pub key : l.key ≡ event.key
  pub at : home net event ≡ l.line.host.index
  pub host : HostRecord
  pub there : slice_get before.hosts (home net event) ≡ Some host
  pub logged : Contains (fire net host event).lines l.line
  pub tells : TellsStays host.row.address event.what l.line
