-- The world of all hosts: where a run begins, and its result.
use Rattle.std.specs.Prelude.{◌≡◌, ◌≤◌, ℕ, List, [], length, map, flat_map, Some, slice_get}
use Rattle.sim_base.specs.Units.{latest_time}
use Rattle.host_link.specs.declared.line.Line.{Line}
use Rattle.host_link.specs.Net.{Net}
use Rattle.host_rows.specs.declared.row.Row.{Row}
use Rattle.host_state.specs.Opening.{opening}
use Rattle.host_state.specs.Fits.{FitsNet, model}
use Rattle.host_state.specs.HostRecord.{HostRecord}
use Rattle.world_order.specs.World as order

-- the hosts by number, the events that wait, and the packet log
abbrev pub World : Type 0
World = order.World HostRecord Line

-- the result of a run over a net: the world that is reached when no event is due before the net's stop
abbrev pub IsResult : Net → World → World → Type 0
IsResult net result w = order.IsResult (model net) net.stop.nanos result w

-- each host as its row opens it, the events that the hosts begin with, and no line in the packet log
abbrev pub opening_world : List Row → World
opening_world rows = record {
  hosts = map (λ (row : Row). (opening row).host) rows;
  events = flat_map (λ (row : Row). (opening row).made) rows;
  log = [];
}

-- the rows of a net: as many as its hosts, each that of the host of its place; and the net stops at 2^61 ns or before
pub record AreRows (net : Net) (rows : List Row) : Type 0 where
  pub count : length rows ≡ length net.known.book
  pub places : (i : ℕ) (row : Row) → slice_get rows i ≡ Some row → row.host.index ≡ i
  pub fit : (i : ℕ) (row : Row) → slice_get rows i ≡ Some row → FitsNet net row
  pub stop : net.stop.nanos ≤ latest_time
