-- Processes that wait, and those that are to go on.
use Rattle.std.specs.Prelude.{◌≡◌, ◌⊎◌, ℕ, ◌<◌, List, [], ◌∷◌, true, false, Some, slice_get}
use Rattle.sim_base.specs.Units.{max_u64}
use Rattle.sim_base.specs.declared.event.Event.{Event}
use Rattle.sim_base.specs.declared.event.What.TheVariants as what
use Rattle.rv32_machine.specs.declared.cpu.Cpu.{Cpu}
use Rattle.file_calls.specs.declared.task.Why.{Why}
use Rattle.guest_process.specs.declared.process.Process.TheVariants as process
use Rattle.guest_process.specs.declared.process.Running.{Running}
use Rattle.host_state.specs.Fire.{kept_by}
use Rattle.host_state.specs.HostRecord.{HostRecord}
use Rattle.host_state.specs.World.{World}

-- a process is blocked in a call, and has no Go to come
pub record IsBlocked (p : ℕ) (why : Why) (host : HostRecord) : Type 0 where
  pub cpu : Cpu
  pub process : slice_get host.processes p ≡ Some (process.Running (record { cpu = cpu; goes = false }))
  pub kept : kept_by p host ≡ Some why

-- one of some events lets a process of host number n go on
abbrev pub HasGo : ℕ → ℕ → List Event → Type 0
HasGo n p [] = ⊥
HasGo n p (e ∷ events) = ((e.what ≡ what.Go p) × (e.key.source.index ≡ n)) ⊎ HasGo n p events

-- each process that is to go on has a Go among some events, as long as the host has a number left for one
abbrev pub HaveGoes : HostRecord → List Event → Type 0
HaveGoes host events =
    (p : ℕ) (r : Running) → slice_get host.processes p ≡ Some (process.Running r) → r.goes ≡ true → host.link.next < max_u64
    → HasGo host.link.number p events

-- in a world each host has the number of its place, and its processes have their Goes among the events
abbrev pub AllHaveGoes : World → Type 0
AllHaveGoes w =
    (i : ℕ) (h : HostRecord) → slice_get w.hosts i ≡ Some h → (h.link.number ≡ i) × HaveGoes h w.events
