-- The state of a process.
use Rattle.sim_base.specs.declared.state.State.{State}
use Rattle.sim_base.specs.declared.state.State.TheVariants as state
use Rattle.guest_process.specs.declared.process.Process.{Process}
use Rattle.guest_process.specs.declared.process.Process.TheVariants as process

-- the state of a process, as its last line tells it
abbrev pub state_of : Process → State
state_of process.NotStarted = state.NotStarted
state_of (process.Running r) = state.Running
state_of (process.Ended s) = s
