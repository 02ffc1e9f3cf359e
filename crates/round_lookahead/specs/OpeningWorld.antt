-- Where a run begins.
use Rattle.std.specs.Prelude.{◌≡◌, ℕ, List, length, Some, slice_get, []}
use Rattle.host_link.specs.Net.{Net}
use Rattle.host_rows.specs.declared.row.Row.{Row}
use Rattle.host_state.specs.Fits.{FitsNet}
use Rattle.host_state.specs.HostStands.{Begins}
pub use Rattle.host_state.specs.World.{opening_world}
use Rattle.round_lookahead.specs.declared.workers.host_task.HostTask.{HostTask}

-- the rows of a net: as many as its hosts, each that of the host of its place
pub record AreHostRows (net : Net) (rows : List Row) : Type 0 where
  pub count : length rows ≡ length net.known.book
  pub places : (i : ℕ) (row : Row) → slice_get rows i ≡ Some row → row.host.index ≡ i
  pub fit : (i : ℕ) (row : Row) → slice_get rows i ≡ Some row → FitsNet net row

-- the host of a row at the beginning, for which no packet waits
pub record IsOpened (row : Row) (t : HostTask) : Type 0 where
  pub id : t.id ≡ row.host
  pub host : Begins row t.host.value
  pub parcels : t.parcels.items ≡ []
