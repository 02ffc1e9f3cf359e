-- A slice of a process, which takes no simulated time.
use Rattle.std.specs.Prelude.{ℕ, zero, suc, ◌-◌, Bool, List, [], ◌∷◌, length, nat_lt, slice_get, slice_set, slice_index, Option, Some, None, true, false, if◌then◌else◌}
use Rattle.sim_base.specs.declared.event.What.TheVariants as what
use Rattle.sim_base.specs.declared.signal.Signal.{Signal}
use Rattle.sim_base.specs.declared.signal.Signal.TheVariants.{SigXcpu}
use Rattle.sim_base.specs.declared.state.State.{State}
use Rattle.sim_base.specs.declared.state.State.TheVariants.{Signaled}
use Rattle.rv32_machine.specs.declared.cpu.Cpu.{Cpu}
use Rattle.rv32_machine.specs.declared.outcome.TurnEnd.{TurnEnd}
use Rattle.rv32_machine.specs.declared.outcome.TurnEnd.TheVariants as end
use Rattle.rv32_machine.specs.Table.{state}
use Rattle.rv32_machine.specs.Turn.{Turn, turn}
use Rattle.host_calls.specs.declared.parts.Answer.{Answer}
use Rattle.host_calls.specs.declared.parts.Answer.TheVariants as answer
use Rattle.file_calls.specs.declared.task.Task.{Task}
use Rattle.host_calls.specs.Calls.{call}
use Rattle.host_calls.specs.Events.{ended}
use Rattle.host_calls.specs.Parts.{PartsRecord}
use Rattle.host_link.specs.Net.{Net}
use Rattle.guest_process.specs.declared.process.Process.TheVariants as process
use Rattle.guest_process.specs.Registers.{a0, a1, a2, a3, a4, a5, a7}
use Rattle.host_state.specs.Step.{Step}
use Rattle.host_state.specs.Step as step
use Rattle.host_state.specs.HostRecord.{HostRecord}
use Rattle.host_link.specs.Link.{makes, later}
use Rattle.host_state.specs.Host.{with_link, with_parts, with_process, does_wanted}

-- a slice has at most so many answered calls, and the process pauses so many nanoseconds after them
abbrev pub calls_in_a_slice : ℕ
calls_in_a_slice = 100

abbrev pub pause : ℕ
pause = 100000

-- the number of a call stands in register a7, its arguments in a0 to a5, and the answer goes to a0
abbrev pub number_in : Cpu → ℕ
number_in cpu = slice_index cpu.x a7

abbrev pub arguments_in : Cpu → List ℕ
arguments_in cpu =
    slice_index cpu.x a0 ∷ slice_index cpu.x a1 ∷ slice_index cpu.x a2 ∷ slice_index cpu.x a3 ∷ slice_index cpu.x a4 ∷ slice_index cpu.x a5 ∷ []

abbrev pub with_answer : ℕ → Cpu → Cpu
with_answer value cpu = record cpu { x = slice_set cpu.x a0 value }

-- how a process goes on after a call
abbrev pub step_of : Answer → Cpu → Step
step_of (answer.Value value) cpu = step.GoesOn (with_answer value cpu)
step_of (answer.Block why) cpu = step.Blocks cpu
step_of (answer.End state) cpu = step.Ends state

-- there is a place for what the process is in
abbrev pub has_task : ℕ → PartsRecord → Bool
has_task p parts = nat_lt p (length parts.tasks)

abbrev pub has_called : Net → Cpu → Answer × PartsRecord → HostRecord → Step × HostRecord
has_called net cpu (answer, parts) host = (step_of answer cpu, does_wanted net (with_parts parts host))

unfoldable pub calls : Net → ℕ → ℕ → List ℕ → Cpu → HostRecord → Step × HostRecord
calls net p number arguments cpu host =
    if has_task p host.parts
    then has_called net cpu (call net.known host.link.time p number arguments host.parts) host
    else (step.Blocks cpu, host)

-- a process ends by a signal, and its descriptors are closed
unfoldable pub closes : Net → ℕ → HostRecord → HostRecord
closes net p host = if has_task p host.parts then does_wanted net (with_parts (ended host.link.time p host.parts) host) else host

unfoldable pub is_killed : Net → ℕ → Signal → HostRecord → Step × HostRecord
is_killed net p signal host = (step.Ends (Signaled signal), closes net p host)

-- a turn of the machine has ended: by a call, by a trap, which is a signal, or with its budget, which is SIGXCPU
unfoldable pub by_turn_end : Net → ℕ → TurnEnd → Cpu → HostRecord → Step × HostRecord
by_turn_end net p end.Call cpu host = calls net p (number_in cpu) (arguments_in cpu) cpu host
by_turn_end net p (end.Trap signal) cpu host = is_killed net p signal host
by_turn_end net p end.Spent cpu host = is_killed net p SigXcpu host

abbrev pub with_task : ℕ → Option Task → PartsRecord → PartsRecord
with_task p task parts = record parts { tasks = slice_set parts.tasks p task }

abbrev pub has_turned : Net → ℕ → Task → Turn → HostRecord → Step × HostRecord
has_turned net p task t host =
    by_turn_end net p t.end t.state.cpu (with_parts (with_task p (Some (record task { memory = t.state.memory })) host.parts) host)

-- a process runs up to its next call, and calls; the budget counts instructions since the last call or the start
abbrev pub turns : Net → ℕ → Cpu → Option (Option Task) → HostRecord → Step × HostRecord
turns net p cpu None host = (step.Blocks cpu, host)
turns net p cpu (Some None) host = (step.Blocks cpu, host)
turns net p cpu (Some (Some task)) host = has_turned net p task (turn net.budget (state cpu task.memory)) host

unfoldable pub runs_to_call : Net → ℕ → Cpu → HostRecord → Step × HostRecord
runs_to_call net p cpu host = turns net p cpu (slice_get host.parts.tasks p) host

-- a blocked process waits until its call would answer
unfoldable pub rests : ℕ → Cpu → HostRecord → HostRecord
rests p cpu host = with_process p (process.Running (record { cpu = cpu; goes = false })) host

-- what an ended process was in is let go
unfoldable pub has_ended : ℕ → State → HostRecord → HostRecord
has_ended p state host = with_process p (process.Ended state) (with_parts (with_task p None host.parts) host)

-- after so many calls it pauses
unfoldable pub goes_later : ℕ → ℕ → Cpu → HostRecord → HostRecord
goes_later nanos p cpu host =
    with_process p (process.Running (record { cpu = cpu; goes = true })) (with_link (makes (later host.link.time nanos) (what.Go p) host.link) host)

-- a slice goes on after a call, or ends
module _ (goes_on : Cpu → HostRecord → HostRecord) where
  abbrev pub after_step : ℕ → Step × HostRecord → HostRecord
  after_step p (step.GoesOn cpu, host) = goes_on cpu host
  after_step p (step.Blocks cpu, host) = rests p cpu host
  after_step p (step.Ends state, host) = has_ended p state host

-- a process runs up to so many calls, and then pauses
unfoldable pub slice : Net → ℕ → ℕ → Cpu → HostRecord → HostRecord
slice net p zero cpu host = goes_later pause p cpu host
slice net p (suc count) cpu host = after_step (slice net p count) p (runs_to_call net p cpu host)

-- after its first call a slice has one call less
unfoldable pub follows : Net → ℕ → Step × HostRecord → HostRecord
follows net p t = after_step (slice net p (calls_in_a_slice - 1)) p t

-- a kept call is called again, and counts among the calls of its slice
abbrev pub calls_again : Net → ℕ → ℕ → List ℕ → Cpu → HostRecord → HostRecord
calls_again net p number arguments cpu host = follows net p (calls net p number arguments cpu host)
