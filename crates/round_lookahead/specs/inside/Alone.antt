-- Hosts that one worker runs, each in its place.
use Rattle.std.specs.Prelude.{◌≡◌, ℕ, ◌≤◌, ◌<◌, List, [], ◌∷◌, ◌++◌, map, flat_map, length, take, Option, Some, slice_get, All}
use Rattle.sim_base.specs.declared.event.Event.{Event}
use Rattle.sim_base.specs.declared.event.Parcel.{Parcel}
use Rattle.sim_base.specs.declared.host.HostId.{HostId}
use Rattle.sim_base.specs.declared.time.Time.{Time}
use Rattle.event_order.specs.Events.{IsLeastDue}
use Rattle.host_link.specs.Net.{Net}
use Rattle.host_link.specs.declared.outbox.Outbox.{Outbox}
use Rattle.run_files.specs.Written.{written_in}
use Rattle.host_state.specs.HostRecord.{HostRecord}
use Rattle.round_lookahead.specs.declared.workers.host_task.HostTask.{HostTask}
use Rattle.round_lookahead.specs.declared.workers.worked.Done.{Done}
use Rattle.round_lookahead.specs.declared.world.in_place.Alone.{Alone}
use Rattle.round_lookahead.specs.inside.Backs.{ids_of, lines_done}
use Rattle.round_parts.specs.Dues.{lesser_due}
use Rattle.round_lookahead.specs.Tasks.{IsTask}
use Rattle.round_lookahead.specs.Works.{HostJob, AreDone, numbers, parcels_made}

-- the host of the task's number stands for some record
abbrev pub IsOwn : Net → HostTask → Type 0
IsOwn net t = (h : HostRecord) × IsTask net t.id.index t h

abbrev pub task_ids : List HostTask → List HostId
task_ids ts = map (λ (t : HostTask). t.id) ts

abbrev pub task_numbers : List HostTask → List ℕ
task_numbers ts = map (λ (t : HostTask). t.id.index) ts

-- the task is among all, in the place of its number, and its host stands for the record of that number
abbrev pub IsPlacedIn : Net → List HostTask → (ℕ → HostRecord) → HostTask → Type 0
IsPlacedIn net all rec t = (slice_get all t.id.index ≡ Some t) × IsTask net t.id.index t (rec t.id.index)

-- and so are these
abbrev pub AreAmong : Net → List HostTask → (ℕ → HostRecord) → List HostTask → Type 0
AreAmong net all rec ts = All (IsPlacedIn net all rec) ts

-- the hosts of these tasks were run by the worker, one after another, and the spill has all parcels that they made
pub record HasRunAll (net : Net) (end worker : ℕ) (all : List HostTask) (rec : ℕ → HostRecord) (ts : List HostTask) (ds : List Done) (spill : List Parcel) : Type 0 where
  pub jobs : List HostJob
  pub done : AreDone net end worker all rec jobs ds
  pub in_order : numbers jobs ≡ task_numbers ts
  pub spilled : spill ≡ parcels_made net jobs

-- the host that was run is in that place, and no packet waits for it
pub record IsPlaced (tasks : List HostTask) (place : ℕ) (d : Done) : Type 0 where
  pub task : HostTask
  pub at : slice_get tasks place ≡ Some task
  pub id : task.id ≡ d.id
  pub host : task.host ≡ d.host
  pub emptied : task.parcels.items ≡ []

-- what other hosts made is kept behind the rest, and when the first of all events that they hold is due
pub record HasJoined (more old new : Alone) : Type 0 where
  pub outputs : written_in new.outputs ≡ written_in old.outputs ++ written_in more.outputs
  pub lines : new.lines.items ≡ old.lines.items ++ more.lines.items
  pub spill : new.spill.items ≡ old.spill.items ++ more.spill.items
  pub due : new.due ≡ lesser_due old.due more.due

-- a host was run, and what it handed out is kept behind the rest, and when the first event that it then holds is due
pub record HasKept (first : Option Time) (out : Outbox) (old new : Alone) : Type 0 where
  pub outputs : written_in new.outputs ≡ written_in old.outputs ++ out.outputs.items ∷ []
  pub lines : new.lines.items ≡ old.lines.items ++ out.lines.items
  pub spill : new.spill.items ≡ old.spill.items ++ out.parcels.items
  pub due : new.due ≡ lesser_due old.due first

-- a host had nothing to do, and that is kept behind the rest, and when the first event that it holds is due
pub record HasPassed (first : Option Time) (old new : Alone) : Type 0 where
  pub outputs : written_in new.outputs ≡ written_in old.outputs ++ [] ∷ []
  pub lines : new.lines.items ≡ old.lines.items
  pub spill : new.spill.items ≡ old.spill.items
  pub due : new.due ≡ lesser_due old.due first

-- the events that hosts hold which were run
abbrev pub held_by : List Done → List Event
held_by ds = flat_map (λ (d : Done). d.host.value.queue) ds

-- so many of the first hosts were run in their places by the worker, in order, and what they made is kept, and when the first of the
-- events that they hold is due; the others are as before
pub record AreRunInPlace (net : Net) (end worker : ℕ) (old : List HostTask) (count : ℕ) (new : List HostTask) (a : Alone) : Type 0 where
  pub ds : List Done
  pub many : length ds ≡ count
  pub all : length new ≡ length old
  pub places : (place : ℕ) (d : Done) → slice_get ds place ≡ Some d → IsPlaced new place d
  pub later : (place : ℕ) → count ≤ place → slice_get new place ≡ slice_get old place
  pub run : (all : List HostTask) (rec : ℕ → HostRecord) → AreAmong net all rec old → HasRunAll net end worker all rec (take count old) ds a.spill.items
  pub outputs : written_in a.outputs ≡ map (λ (d : Done). d.outputs.items) ds
  pub lines : a.lines.items ≡ lines_done ds
  pub ids : ids_of ds ≡ task_ids (take count old)
  pub due : IsLeastDue (held_by ds) a.due
  pub to : All (λ (p : Parcel). p.to.index < length net.known.book) a.spill.items
