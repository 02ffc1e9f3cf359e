-- On what a round may be opened.
use Rattle.std.specs.Prelude.{◌≡◌, ℕ, ◌<◌, ◌≤◌, List, length, All, Option, Some, slice_get}
use Rattle.sim_base.specs.Units.{latest_time}
use Rattle.sim_base.specs.declared.event.Event.{Event}
use Rattle.host_state.specs.declared.host.Host.{Host}
use Rattle.host_link.specs.declared.line.Line.{Line}
use Rattle.host_link.specs.Net.{Net}
use Rattle.host_state.specs.Fits.{model, IsEventOf, IsHostOf, IsLookaheadOf, IsShort}
use Rattle.host_state.specs.HostRecord.{HostRecord}
use Rattle.world_order.specs.EventOrder.{AreApart}
use Rattle.world_order.specs.Settled.{AreDueFrom, next_at}
use Rattle.world_order.specs.Window.{window_end}
use Rattle.world_order.specs.World.{World}
use Rattle.world_order.specs.declared.round_window.Window.{Window}
use Rattle.round_schedule.specs.Standing.{HostsStand}

-- a world of a net between rounds: all its hosts are there, each with its number; no two events have the same key, and each has a number that
-- its source gave; no host has fired an event due later than one that waits
pub record IsBetween (net : Net) (w : World HostRecord Line) : Type 0 where
  pub count : length w.hosts ≡ length net.known.book
  pub hosts : (i : ℕ) (h : HostRecord) → slice_get w.hosts i ≡ Some h → IsHostOf net i h
  pub apart : AreApart w.events
  pub below : All (λ (e : Event). e.key.number < next_at (model net) w.hosts e.key.source.index) w.events
  pub events : All (IsEventOf net) w.events
  pub clock : (i : ℕ) (h : HostRecord) → slice_get w.hosts i ≡ Some h → All (λ (e : Event). h.link.time.nanos ≤ e.key.due.nanos) w.events

-- a window of a net, whose end is that of a round with a lookahead that no route falls short of; the net stops at 2^61 ns or before
pub record IsWindowOf (net : Net) (window : Window) : Type 0 where
  pub stop : net.stop.nanos ≤ latest_time
  pub lookahead : Option ℕ
  pub routes : IsLookaheadOf net lookahead
  pub short : IsShort lookahead
  pub end : window.end.nanos ≡ window_end lookahead net.stop.nanos window.from.nanos

-- a round may be opened on such a world, whose events are due in the window or later
pub record MayOpenOn (net : Net) (v : Window) (w : World HostRecord Line) : Type 0 where
  pub window : IsWindowOf net v
  pub between : IsBetween net w
  pub due : AreDueFrom v.from.nanos w.events

-- a round may be opened on hosts that stand for those of such a world and hold its events
pub record MayOpen (net : Net) (window : Window) (hosts : List Host) : Type 0 where
  pub world : World HostRecord Line
  pub stand : HostsStand net hosts world
  pub may : MayOpenOn net window world
