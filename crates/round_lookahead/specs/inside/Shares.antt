-- Hosts in shares, each run in its place by the worker of its share.
use Rattle.std.specs.Prelude.{◌≡◌, ℕ, ◌<◌, List, ◌∷◌, ◌++◌, [], map, flat_map, length, slice_index_or, slice_get, All, Some, Vec}
use Rattle.std.specs.declared.alloc.Global.{Global}
use Rattle.sim_base.specs.declared.event.Parcel.{Parcel}
use Rattle.sim_base.specs.declared.host.HostId.{HostId}
use Rattle.event_order.specs.Events.{IsLeastDue}
use Rattle.steal_workers.specs.Gathers.{joined}
use Rattle.host_link.specs.Net.{Net}
use Rattle.host_state.specs.HostRecord.{HostRecord}
use Rattle.run_files.specs.Written.{written_in}
use Rattle.round_lookahead.specs.declared.workers.host_task.HostTask.{HostTask}
use Rattle.round_lookahead.specs.declared.workers.worked.Done.{Done}
use Rattle.round_lookahead.specs.declared.workers.worked.Worked.{Worked}
use Rattle.round_lookahead.specs.declared.world.in_place.Alone.{Alone}
use Rattle.round_lookahead.specs.declared.world.share.Dealing.{Dealing}
use Rattle.round_lookahead.specs.declared.world.share.Share.{Share}
use Rattle.round_lookahead.specs.declared.world.sharing.Joined.{Joined}
use Rattle.round_lookahead.specs.inside.Alone.{AreAmong, AreRunInPlace, HasJoined, IsOwn, IsPlaced, held_by, task_ids, task_numbers}
use Rattle.round_lookahead.specs.inside.Backs.{all_done, all_spilled, ids_of, lines_done, lists_of, took_by}
use Rattle.round_lookahead.specs.inside.Rounds.{AreWorks}
use Rattle.round_lookahead.specs.Works.{HostJob, numbers, parcels_made}

-- the hosts of shares, one share behind another
abbrev pub tasks_in : List Share → List HostTask
tasks_in shares = flat_map (λ (s : Share). s.tasks.items) shares

-- the hosts that are dealt
abbrev pub dealt_in : Dealing → List HostTask
dealt_in d = tasks_in d.shares.items ++ d.tasks.items

-- a share before its worker starts
pub record IsReadyShare (net : Net) (s : Share) : Type 0 where
  pub own : All (IsOwn net) s.tasks.items

-- where its worker found memory, there is what its hosts made
pub record HasRunShare (net : Net) (end worker : ℕ) (old new : Share) : Type 0 where
  pub run : (a : Alone) → new.made ≡ Some a → AreRunInPlace net end worker old.tasks.items (length old.tasks.items) new.tasks.items a

-- share by share
abbrev pub HaveRunShares : Net → ℕ → List Share → List Share → Type 0
HaveRunShares net end old new = (length new ≡ length old) × ((k : ℕ) (e : Share) → k < length old → HasRunShare net end k (slice_index_or old k e) (slice_index_or new k e))

-- the jobs of workers, which are those of these tasks, one behind another
pub record AreJobsOf (net : Net) (end : ℕ) (all : List HostTask) (rec : ℕ → HostRecord) (ts : List HostTask) (works : List Worked) : Type 0 where
  pub jobs : List (List HostJob)
  pub done : AreWorks net end all rec 0 jobs works
  pub in_order : numbers (joined jobs) ≡ task_numbers ts
  pub spilled : all_spilled works ≡ parcels_made net (joined jobs)

-- the hosts of tasks were run in their places by workers, each of which took some, one behind another, and what they made is kept
pub record AreRunByAll (net : Net) (end : ℕ) (old new : List HostTask) (a : Alone) (took : List (List HostId)) : Type 0 where
  pub works : List Worked
  pub took_is : took ≡ took_by works
  pub many : length (all_done works) ≡ length old
  pub all : length new ≡ length old
  pub ids : ids_of (all_done works) ≡ task_ids old
  pub places : (place : ℕ) (d : Done) → slice_get (all_done works) place ≡ Some d → IsPlaced new place d
  pub run : (all : List HostTask) (rec : ℕ → HostRecord) → AreAmong net all rec old → AreJobsOf net end all rec old works
  pub spilled : a.spill.items ≡ all_spilled works
  pub outputs : written_in a.outputs ≡ map (λ (d : Done). d.outputs.items) (all_done works)
  pub lines : a.lines.items ≡ lines_done (all_done works)
  pub due : IsLeastDue (held_by (all_done works)) a.due
  pub to : All (λ (p : Parcel). p.to.index < length net.known.book) a.spill.items

-- whatever shares these were before they were run, they stand one behind another
abbrev pub AreJoined : List Share → Joined → Type 0
AreJoined new j = (net : Net) (end : ℕ) (old : List Share) → HaveRunShares net end old new → (length j.took.items ≡ length old) × AreRunByAll net end (tasks_in old) j.tasks.items j.alone (lists_of j.took.items)

-- one share more
pub record HasAdded (s : Share) (old new : Joined) : Type 0 where
  pub made : Alone
  pub is : s.made ≡ Some made
  pub tasks : new.tasks.items ≡ old.tasks.items ++ s.tasks.items
  pub took : lists_of new.took.items ≡ lists_of old.took.items ++ task_ids s.tasks.items ∷ []
  pub joins : HasJoined made old.alone new.alone
