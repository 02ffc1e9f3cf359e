-- A host that is run up to a time.
use Rattle.std.specs.Prelude.{◌≡◌, ◌<◌, ◌≤◌, List, ◌++◌, length, map, All, IsPermutation}
use Rattle.sim_base.specs.declared.event.Event.{Event}
use Rattle.sim_base.specs.declared.time.Time.{Time}
use Rattle.sim_base.specs.Units.{max_u64}
use Rattle.net_iface.specs.Lane.{AllFit}
use Rattle.file_calls.specs.declared.task.Output.{Output}
use Rattle.host_state.specs.declared.host.Host.{Host}
use Rattle.host_link.specs.declared.line.Line.{Line}
use Rattle.host_link.specs.declared.line.Logged.{Logged}
use Rattle.host_link.specs.Net.{Net}
use Rattle.host_link.specs.declared.outbox.Outbox.{Outbox}
use Rattle.host_state.specs.Fits.{model, IsEventOf}
use Rattle.host_link.specs.Home.{home}
use Rattle.host_state.specs.HostRecord.{HostRecord}
use Rattle.host_state.specs.HostStands.{Stands}
use Rattle.host_link.specs.Link.{LinkState}
use Rattle.host_link.specs.Outbox.{parcels_of, logged}
use Rattle.host_link.specs.Parcels.{parcel_event}
use Rattle.world_order.specs.WholeTurns.{Ran, RunsTo}
use Rattle.world_order.specs.World as order

-- events that a host of the net holds: each fires there, not before what fired last, and has a number that its source gave, if that is the host
pub record Owns (net : Net) (link : LinkState) (queue : List Event) : Type 0 where
  pub within : link.number < length net.known.book
  pub limited : link.next ≤ max_u64
  pub up : AllFit link.up.waiting
  pub down : AllFit link.down.waiting
  pub events : All (IsEventOf net) queue
  pub home : All (λ e. home net e ≡ link.number) queue
  pub clock : All (λ e. link.time.nanos ≤ e.key.due.nanos) queue
  pub below : All (λ e. e.key.source.index ≡ link.number → e.key.number < link.next) queue

-- a host stands for some record, and the events that it holds are its own
abbrev pub MayRun : Net → Host → Type 0
MayRun net c = (h : HostRecord) × Stands c h × Owns net h.link c.queue

-- a line as the world's log has it
abbrev pub kept_line : order.Logged Line → Logged
kept_line l = logged l.key l.line

-- a host is run up to a time: its events due before then fire, least key first, and what it makes for itself joins the others; packets for other
-- hosts, lines and what its processes wrote are added to an outbox
pub record RunsUntil (net : Net) (end : Time) (h : HostRecord) (old new : Host) (before after : Outbox) : Type 0 where
  pub ran : Ran HostRecord Line
  pub runs : RunsTo (model net) h.link.number end.nanos h old.queue ran
  pub host : Stands new ran.host
  pub queue : IsPermutation new.queue ran.queue
  pub over : All (λ e. end.nanos ≤ e.key.due.nanos) new.queue
  pub parcels : after.parcels.items ≡ before.parcels.items ++ parcels_of net h.link.number ran.packets
  pub packets : map parcel_event (parcels_of net h.link.number ran.packets) ≡ ran.packets
  pub lines : after.lines.items ≡ before.lines.items ++ map kept_line ran.lines
  pub wrote : List Output
  pub written : ran.host.written ≡ h.written ++ wrote
  pub outputs : after.outputs.items ≡ before.outputs.items ++ wrote
