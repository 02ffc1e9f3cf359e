-- A host with nothing to do in a round, and how many have something to do.
use Rattle.std.specs.Prelude.{◌≡◌, ℕ, ◌≤◌, Bool, ◌||◌, nat_lt, [], length, All, min, max}
use Rattle.sim_base.specs.declared.event.Event.{Event}
use Rattle.world_order.specs.Steps.{has_due}
use Rattle.round_lookahead.specs.declared.workers.host_task.HostTask.{HostTask}

-- no packet waits for the host, and no event that it holds is due before the end
pub record IsIdle (end : ℕ) (t : HostTask) : Type 0 where
  pub none : t.parcels.items ≡ []
  pub later : All (λ (e : Event). end ≤ e.key.due.nanos) t.host.value.queue

-- a packet waits for the host, or an event that it holds is due before the end
abbrev pub is_busy : ℕ → HostTask → Bool
is_busy end t = nat_lt 0 (length t.parcels.items) || has_due end t.host.value.queue

-- how many threads could run a round of so many workers in which so many hosts have something to do: no more than these, and one at least
abbrev pub most_threads : ℕ → ℕ → ℕ
most_threads busy workers = max 1 (min workers busy)
