-- The hosts of a round, before they are run.
use Rattle.std.specs.Prelude.{◌≡◌, ℕ, ◌++◌, List, length, Some, slice_get}
use Rattle.sim_base.specs.declared.event.Event.{Event}
use Rattle.host_link.specs.Net.{Net}
use Rattle.host_state.specs.HostRecord.{HostRecord}
use Rattle.host_state.specs.HostStands.{Stands}
use Rattle.host_state.specs.Running.{Owns}
use Rattle.world_order.specs.EventOrder.{AreApart}
use Rattle.round_lookahead.specs.declared.workers.host_task.HostTask.{HostTask}
use Rattle.round_parts.specs.Arrivals.{arrivals}

-- the events that the host holds, and its packets
abbrev pub waiting : HostTask → List Event
waiting t = t.host.value.queue ++ arrivals t.parcels.items

-- the host of that number, which stands for this record; all that waits is its own, and no two events that wait have the same key
pub record IsTask (net : Net) (number : ℕ) (t : HostTask) (h : HostRecord) : Type 0 where
  pub id : t.id.index ≡ number
  pub numbered : h.link.number ≡ number
  pub stands : Stands t.host.value h
  pub owns : Owns net h.link (waiting t)
  pub apart : AreApart (waiting t)

-- the tasks' hosts stand for these records
abbrev pub AreTasks : Net → List HostTask → (ℕ → HostRecord) → Type 0
AreTasks net tasks rec = (number : ℕ) (t : HostTask) → slice_get tasks number ≡ Some t → IsTask net number t (rec number)

-- a task for each host of the net, in order
pub record AreTasksOf (net : Net) (tasks : List HostTask) : Type 0 where
  pub count : length tasks ≡ length net.known.book
  pub each : (number : ℕ) (t : HostTask) → slice_get tasks number ≡ Some t → (h : HostRecord) × IsTask net number t h
