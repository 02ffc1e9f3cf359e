-- Rounds in which each host is fired up to the end in one go.
use Rattle.std.specs.Prelude.{◌≡◌, ◌≢◌, ℕ, All, AllPairs, Contains, ◌<◌, ◌==◌, true, false, not, List, [], ◌∷◌, ◌++◌, map, filter, replicate, length, Some, slice_get, slice_set}
use Rattle.sim_base.specs.declared.event.Event.{Event}
use Rattle.world_order.specs.EventOrder.{take_least}
use Rattle.world_order.specs.Model.{Model, Fired}
use Rattle.world_order.specs.Round.{Done, Member, Worker, Round, events_at}
use Rattle.world_order.specs.Steps.{has_due, is_waiting}
use Rattle.world_order.specs.World.{Logged, logged}
use Rattle.world_order.specs.declared.step.Spot.TheVariants.{Spill}
use Rattle.world_order.specs.declared.step.Step.{Step}
use Rattle.world_order.specs.declared.step.Step.TheVariants.{Take, Fire, Put, Back}

-- what a host that is run up to the end leaves: itself, its events, the packets that it made for others, its lines, and the events that fired
pub record Ran (H L : Type 0) : Type 0 where
  pub host : H
  pub queue : List Event
  pub packets : List Event
  pub lines : List (Logged L)
  pub fired : List Event

module _ {H L : Type 0} where
  abbrev pub unfired : H → List Event → Ran H L
  unfired host queue = record { host = host; queue = queue; packets = []; lines = []; fired = [] }

  -- an event fired before the others
  abbrev pub fired_first : Model H L → ℕ → Event → Fired H L → Ran H L → Ran H L
  fired_first m number e f ran = record {
    host = ran.host;
    queue = ran.queue;
    packets = filter (λ g. not (m.home g == number)) f.made ++ ran.packets;
    lines = logged e.key f.lines ++ ran.lines;
    fired = e ∷ ran.fired;
  }

-- the host of that number, with its events, is run up to the end: its least event fires as long as it is due before the end, and its own
-- events join the others
pub data RunsTo {H L : Type 0} (m : Model H L) (number end : ℕ) : H → List Event → Ran H L → Type 0 where
  rests : (host : H) (queue : List Event) → has_due end queue ≡ false → RunsTo m number end host queue (unfired host queue)
  goes : (host : H) (queue : List Event) (e : Event) (rest : List Event) (ran : Ran H L) → take_least queue ≡ Some (e, rest) → e.key.due.nanos < end
      → RunsTo m number end (m.fire number host e).host (rest ++ events_at m number (m.fire number host e).made) ran
      → RunsTo m number end host queue (fired_first m number e (m.fire number host e) ran)

-- a worker takes a host and runs it
pub record Job (H L : Type 0) : Type 0 where
  pub worker : ℕ
  pub number : ℕ
  pub ran : Ran H L

module _ {H L : Type 0} where
  -- its steps: all packets go to the spill
  abbrev pub job_steps : Job H L → List Step
  job_steps job = Take job.worker (record { index = job.number })
      ∷ (replicate (length job.ran.fired) (Fire job.worker) ++ (replicate (length job.ran.packets) (Put job.worker Spill) ++ Back job.worker ∷ []))

  -- the round after it
  abbrev pub after_job : Job H L → Member H → Worker → Round H L → Round H L
  after_job job x worker r = record {
    end = r.end;
    members = slice_set r.members job.number (record x { host = job.ran.host; queue = job.ran.queue; stage = Done });
    workers = slice_set r.workers job.worker (record worker { spill = worker.spill ++ job.ran.packets });
    lines = r.lines ++ job.ran.lines;
  }

-- jobs one after another lead from a round to the last one
pub data WorksTo {H L : Type 0} (m : Model H L) (last : Round H L) : List (Job H L) → Round H L → Type 0 where
  are_done : (r : Round H L) → r ≡ last → WorksTo m last [] r
  works : (r : Round H L) (job : Job H L) (jobs : List (Job H L)) (x : Member H) (worker : Worker) → slice_get r.members job.number ≡ Some x → is_waiting x.stage ≡ true
      → slice_get r.workers job.worker ≡ Some worker → worker.hand ≡ [] → RunsTo m job.number r.end x.host x.queue job.ran
      → WorksTo m last jobs (after_job job x worker r) → WorksTo m last (job ∷ jobs) r

-- ---- the order of hosts and workers

pub record Turn : Type 0 where
  pub worker : ℕ
  pub number : ℕ

abbrev pub turn_of : {H L : Type 0} → Job H L → Turn
turn_of job = record { worker = job.worker; number = job.number }

-- each of so many hosts is taken once, by some of so many workers, in any order
pub record AreTurns (worker_count host_count : ℕ) (turns : List Turn) : Type 0 where
  pub workers : All (λ (t : Turn). t.worker < worker_count) turns
  pub hosts : All (λ (t : Turn). t.number < host_count) turns
  pub apart : AllPairs (λ (t u : Turn). t.number ≢ u.number) turns
  pub named : (number : ℕ) → number < host_count → Contains (map (λ (t : Turn). t.number) turns) number
