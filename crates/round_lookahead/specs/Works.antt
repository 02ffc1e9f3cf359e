-- What a worker leaves.
use Rattle.std.specs.Prelude.{◌≡◌, ℕ, ◌≤◌, List, ◌∷◌, ◌++◌, map, All, Some, slice_get, IsPermutation, []}
use Rattle.sim_base.specs.declared.event.Event.{Event}
use Rattle.sim_base.specs.declared.event.Parcel.{Parcel}
use Rattle.host_inbox.specs.declared.entry.Entry.{Entry}
use Rattle.host_link.specs.declared.line.Line.{Line}
use Rattle.host_link.specs.Net.{Net}
use Rattle.host_state.specs.Fits.{model, IsEventOf}
use Rattle.host_state.specs.HostRecord.{HostRecord}
use Rattle.host_state.specs.HostStands.{Stands}
use Rattle.host_link.specs.Outbox.{parcels_of}
use Rattle.host_link.specs.Parcels.{parcel_event}
use Rattle.host_state.specs.Running.{Owns, kept_line}
use Rattle.world_order.specs.WholeTurns.{Job, Ran, RunsTo}
use Rattle.round_lookahead.specs.declared.workers.host_task.HostTask.{HostTask}
use Rattle.round_lookahead.specs.declared.workers.worked.Done.{Done}
use Rattle.round_lookahead.specs.declared.workers.worked.Worked.{Worked}
use Rattle.round_parts.specs.Arrivals.{Boxed}
use Rattle.round_parts.specs.Posts.{IsPosted}
use Rattle.round_lookahead.specs.Tasks.{waiting}

-- a host that a worker ran, by its number
abbrev pub HostJob : Type 0
HostJob = Job HostRecord Line

-- the parcels that a job made
abbrev pub parcels_by : Net → HostJob → List Parcel
parcels_by net job = parcels_of net job.number job.ran.packets

abbrev pub parcels_made : Net → List HostJob → List Parcel
parcels_made net [] = []
parcels_made net (job ∷ jobs) = parcels_by net job ++ parcels_made net jobs

abbrev pub numbers : List HostJob → List ℕ
numbers jobs = map (λ job. job.number) jobs

-- The host of that number, with all that waits for it, was run up to the end. It stands for what the run left, holds its queue and
-- owns what it holds; the lines of the log and what its processes wrote are here.
pub record IsRunOf (net : Net) (end number : ℕ) (t : HostTask) (h : HostRecord) (ran : Ran HostRecord Line) (d : Done) : Type 0 where
  pub id : d.id.index ≡ number
  pub start : List Event
  pub joined : IsPermutation start (waiting t)
  pub runs : RunsTo (model net) number end h start ran
  pub stands : Stands d.host.value ran.host
  pub queue : IsPermutation d.host.value.queue ran.queue
  pub over : All (λ (e : Event). end ≤ e.key.due.nanos) d.host.value.queue
  pub owns : Owns net ran.host.link d.host.value.queue
  pub lines : d.lines.items ≡ map kept_line ran.lines
  pub written : ran.host.written ≡ h.written ++ d.outputs.items
  pub events : All (IsEventOf net) ran.packets
  pub packets : map parcel_event (parcels_of net number ran.packets) ≡ ran.packets

-- the worker did the job: its host is that of a task
pub record IsDone (net : Net) (end worker : ℕ) (tasks : List HostTask) (rec : ℕ → HostRecord) (job : HostJob) (d : Done) : Type 0 where
  pub by_worker : job.worker ≡ worker
  pub task : HostTask
  pub dealt : slice_get tasks job.number ≡ Some task
  pub run : IsRunOf net end job.number task (rec job.number) job.ran d

-- job by job
abbrev pub AreDone : Net → ℕ → ℕ → List HostTask → (ℕ → HostRecord) → List HostJob → List Done → Type 0
AreDone net end worker tasks rec [] [] = Unit {0}
AreDone net end worker tasks rec [] (d ∷ ds) = ⊥
AreDone net end worker tasks rec (job ∷ jobs) [] = ⊥
AreDone net end worker tasks rec (job ∷ jobs) (d ∷ ds) = IsDone net end worker tasks rec job d × AreDone net end worker tasks rec jobs ds

-- jobs were done, and the parcels that they made were posted
pub record IsWorkOf (net : Net) (end worker : ℕ) (tasks : List HostTask) (rec : ℕ → HostRecord) (jobs : List HostJob) (entries : List (Entry Boxed)) (w : Worked) : Type 0 where
  pub done : AreDone net end worker tasks rec jobs w.done.items
  pub posted : IsPosted (parcels_made net jobs) entries w.spill.items

-- beyond the numbers at the start some were gained, of which this is the work
pub record IsWork (net : Net) (end worker : ℕ) (tasks : List HostTask) (rec : ℕ → HostRecord) (start all : List ℕ) (entries : List (Entry Boxed)) (w : Worked) : Type 0 where
  pub jobs : List HostJob
  pub gained : all ≡ start ++ numbers jobs
  pub work : IsWorkOf net end worker tasks rec jobs entries w
