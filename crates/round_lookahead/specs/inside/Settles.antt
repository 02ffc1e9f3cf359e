-- What all workers leave is put back.
use Rattle.std.specs.Prelude.{◌≡◌, ℕ, ◌<◌, List, ◌++◌, map, length, All, IsPermutation, Some, slice_get, Vec}
use Rattle.std.specs.declared.alloc.Global.{Global}
use Rattle.sim_base.specs.declared.event.Parcel.{Parcel}
use Rattle.list_weights.specs.Weights.{numbers_below}
use Rattle.host_link.specs.declared.line.Line.{Line}
use Rattle.host_link.specs.Net.{Net}
use Rattle.host_link.specs.Home.{home}
use Rattle.host_link.specs.Parcels.{parcel_event}
use Rattle.run_files.specs.Written.{written_in}
use Rattle.host_state.specs.Running.{kept_line}
use Rattle.world_order.specs.Round.{in_order}
use Rattle.world_order.specs.World as order
use Rattle.round_lookahead.specs.declared.workers.host_task.HostTask.{HostTask}
use Rattle.round_lookahead.specs.declared.workers.worked.Done.{Done}
use Rattle.round_lookahead.specs.declared.workers.worked.Worked.{Worked}
use Rattle.round_lookahead.specs.declared.world.settling.Settled.{Settled}
use Rattle.round_parts.specs.Arrivals.{Boxed}
use Rattle.round_lookahead.specs.inside.Backs.{all_done, all_spilled, lines_done, took_by}
use Rattle.round_parts.specs.Rows.{row_arrivals, AreAtHome}
use Rattle.round_lookahead.specs.Took.{took_in}

abbrev pub done_numbers : List Done → List ℕ
done_numbers ds = map (λ (d : Done). d.id.index) ds

-- each of so many hosts came back once, and each packet is for one of them
pub record CanSettle (count : ℕ) (works : List Worked) (rows : List (Vec Boxed Global)) : Type 0 where
  pub once : IsPermutation (done_numbers (all_done works)) (numbers_below count)
  pub rows_count : length rows ≡ count
  pub to : All (λ (p : Parcel). p.to.index < count) (all_spilled works)

-- the host that came back waits in the place of its number, and what its processes wrote stands there
pub record IsBack (s : Settled) (d : Done) : Type 0 where
  pub task : HostTask
  pub at : slice_get s.tasks.items d.id.index ≡ Some task
  pub id : task.id ≡ d.id
  pub host : task.host ≡ d.host
  pub outputs : slice_get (written_in s.gained.outputs) d.id.index ≡ Some d.outputs.items

-- all hosts wait, each with the packets for it; the lines stand in the order of their keys
pub record HasSettled (count : ℕ) (works : List Worked) (rows : List (Vec Boxed Global)) (s : Settled) : Type 0 where
  pub tasks_count : length s.tasks.items ≡ count
  pub outputs_count : length (written_in s.gained.outputs) ≡ count
  pub hosts : All (IsBack s) (all_done works)
  pub home : (net : Net) → All (λ (p : Parcel). home net (parcel_event p) ≡ p.to.index) (all_spilled works) → AreAtHome net rows → AreAtHome net (map (λ (t : HostTask). t.parcels) s.tasks.items)
  pub packets : IsPermutation (row_arrivals (map (λ (t : HostTask). t.parcels) s.tasks.items)) (map parcel_event (all_spilled works) ++ row_arrivals rows)
  pub lines : (all : List (order.Logged Line)) → lines_done (all_done works) ≡ map kept_line all → s.gained.lines.items ≡ map kept_line (in_order all)
  pub took : took_in s.gained.took ≡ took_by works
