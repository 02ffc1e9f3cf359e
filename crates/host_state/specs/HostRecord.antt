-- A host: its row, its link to the network, its processes, what they share, and what it has written.
use Rattle.std.specs.Prelude.{ℕ, List, Option, Some, None, slice_get}
use Rattle.sim_base.specs.declared.state.State.{State}
use Rattle.sim_base.specs.declared.state.State.TheVariants as state
use Rattle.file_calls.specs.declared.task.Output.{Output}
use Rattle.host_calls.specs.Parts.{PartsRecord}
use Rattle.host_link.specs.Link.{LinkState}
use Rattle.guest_process.specs.declared.process.Process.{Process}
use Rattle.guest_process.specs.States.{state_of}
use Rattle.host_rows.specs.declared.row.Row.{Row}

-- a host's row; its link; its processes in their order; their calls' records (descriptors, memories, kept calls, files, sockets,
-- generator); and all that they wrote, in order
pub record HostRecord : Type 0 where
  pub row : Row
  pub link : LinkState
  pub processes : List Process
  pub parts : PartsRecord
  pub written : List Output

-- the state of a process that may be there
abbrev pub state_in : Option Process → State
state_in None = state.NotStarted
state_in (Some p) = state_of p

abbrev pub process_state : ℕ → HostRecord → State
process_state p host = state_in (slice_get host.processes p)
