-- What one event does to one host.
use Rattle.std.specs.Prelude.{ℕ, zero, suc, ◌&&◌, Bool, true, false, not, List, [], ◌++◌, length, min, slice_get, Option, Some, None, option_map, option_and_then, if◌then◌else◌}
use Rattle.sim_base.specs.Limits.{most_processes}
use Rattle.elf_load.specs.ProgramImage.{ProgramImage}
use Rattle.sim_base.specs.declared.alarm.AlarmTarget.{AlarmTarget}
use Rattle.sim_base.specs.declared.event.Event.{Event}
use Rattle.sim_base.specs.declared.event.What.{What}
use Rattle.sim_base.specs.declared.event.What.TheVariants as what
use Rattle.sim_base.specs.declared.time.Time.{Time}
use Rattle.file_calls.specs.declared.task.Output.{Output}
use Rattle.file_calls.specs.declared.task.Task.{Task}
use Rattle.file_calls.specs.declared.task.Why.{Why}
use Rattle.host_calls.specs.Calls.{answers}
use Rattle.host_calls.specs.Events.{alarmed}
use Rattle.host_calls.specs.Starting.{task_starts}
use Rattle.host_link.specs.declared.line.Line.{Line}
use Rattle.host_link.specs.Net.{Net}
use Rattle.guest_process.specs.declared.process.Process.{Process}
use Rattle.guest_process.specs.declared.process.Process.TheVariants as process
use Rattle.guest_process.specs.declared.process.Running.{Running}
use Rattle.host_rows.specs.declared.row.ProcessRow.{ProcessRow}
use Rattle.host_rows.specs.declared.row.Row.{Row}
use Rattle.guest_process.specs.declared.start.Started.{Started}
use Rattle.sim_base.specs.declared.signal.Signal.{Signal}
use Rattle.host_state.specs.HostRecord.{HostRecord}
use Rattle.host_link.specs.Link.{comes_to, without_made}
use Rattle.host_link.specs.Sending.{up_comes}
use Rattle.host_state.specs.Host.{with_link, with_parts, on_wire, does_wanted}
use Rattle.host_state.specs.Arriving.{is_handed_over, comes_in, down_comes}
use Rattle.host_state.specs.Slice.{calls_in_a_slice, has_task, is_killed, follows, goes_later, slice, calls_again}
use Rattle.guest_process.specs.Start.{texts_fit, start_cpu, start_memory}
use Rattle.world_order.specs.Model.{Fired}

-- ---- Start: the process is made, and runs a slice

abbrev pub is_not_started : Option Process → Bool
is_not_started (Some process.NotStarted) = true
is_not_started _ = false

-- registers and memory of a process at its start, where its texts fit a stack
abbrev pub ready_image : ProcessRow → ProgramImage → Option Started
ready_image row image =
    if texts_fit row.arguments row.environment
    then Some (record {
      cpu = start_cpu image row.arguments row.environment;
      memory = start_memory image row.arguments row.environment;
    })
    else None

abbrev pub ready_row : Net → ProcessRow → Option Started
ready_row net row = option_and_then (ready_image row) (slice_get net.images row.image)

unfoldable pub ready : Net → Row → ℕ → Option Started
ready net row p = option_and_then (ready_row net) (slice_get row.processes p)

abbrev pub begins_so : Net → ℕ → Started → HostRecord → HostRecord
begins_so net p s host =
    if has_task p host.parts
    then slice net p calls_in_a_slice s.cpu (with_parts (task_starts p s.memory host.parts) host)
    else host

abbrev pub begins : Net → ℕ → Option Started → HostRecord → HostRecord
begins net p None host = host
begins net p (Some s) host = begins_so net p s host

unfoldable pub starts : Net → ℕ → HostRecord → HostRecord
starts net p host = if is_not_started (slice_get host.processes p) then begins net p (ready net host.row p) host else host

-- ---- Go: a blocked process calls its kept call again and runs on, a paused one runs on

abbrev pub running_in : Option Process → Option Running
running_in (Some (process.Running r)) = Some r
running_in _ = None

abbrev pub kept_in : Option (Option Task) → Option Why
kept_in None = None
kept_in (Some None) = None
kept_in (Some (Some task)) = task.kept

abbrev pub kept_by : ℕ → HostRecord → Option Why
kept_by p host = kept_in (slice_get host.parts.tasks p)

abbrev pub runs_on : Net → ℕ → Running → Option Why → HostRecord → HostRecord
runs_on net p r None host = slice net p calls_in_a_slice r.cpu host
runs_on net p r (Some why) host = calls_again net p why.number why.args r.cpu host

abbrev pub goes_if : Net → ℕ → Option Running → HostRecord → HostRecord
goes_if net p None host = host
goes_if net p (Some r) host = runs_on net p r (kept_by p host) host

unfoldable pub goes : Net → ℕ → HostRecord → HostRecord
goes net p host = goes_if net p (running_in (slice_get host.processes p)) host

-- ---- Shutdown: a process that runs or is blocked ends by its shutdown signal

abbrev pub is_shut : Net → ℕ → Option Signal → HostRecord → HostRecord
is_shut net p None host = host
is_shut net p (Some signal) host = follows net p (is_killed net p signal host)

abbrev pub shutdown_signal : Row → ℕ → Option Signal
shutdown_signal row p = option_map (λ process. process.shutdown_signal) (slice_get row.processes p)

abbrev pub shuts_if : Net → ℕ → Option Running → HostRecord → HostRecord
shuts_if net p None host = host
shuts_if net p (Some r) host = is_shut net p (shutdown_signal host.row p) host

unfoldable pub shuts : Net → ℕ → HostRecord → HostRecord
shuts net p host = shuts_if net p (running_in (slice_get host.processes p)) host

-- ---- Alarm: the moment of an alarm has come

unfoldable pub rings : Net → AlarmTarget → ℕ → HostRecord → HostRecord
rings net target serial host = does_wanted net (with_parts (alarmed host.link.time target serial host.parts) host)

-- ---- the table of events

unfoldable pub acts : Net → What → HostRecord → HostRecord
acts net (what.Start p) host = starts net p host
acts net (what.Go p) host = goes net p host
acts net (what.Shutdown p) host = shuts net p host
acts net (what.Alarm target serial) host = rings net target serial host
acts net (what.Loop packet) host = is_handed_over net packet host
acts net what.Up host = on_wire (up_comes net) host
acts net what.Down host = down_comes net host
acts net (what.Packet packet) host = comes_in net packet host

-- ---- at the end of each firing every blocked process without a Go to come, whose call would answer, gets one 1 ns later

abbrev pub wakes_if : Bool → ℕ → Running → HostRecord → HostRecord
wakes_if true p r host = goes_later 1 p r.cpu host
wakes_if false p r host = host

unfoldable pub would_answer : Net → ℕ → Option Why → HostRecord → Bool
would_answer net p None host = false
would_answer net p (Some why) host = if has_task p host.parts then answers net.known host.link.time p why host.parts else false

abbrev pub wakes_in : Net → ℕ → Option Running → HostRecord → HostRecord
wakes_in net p None host = host
wakes_in net p (Some r) host = wakes_if (not r.goes && would_answer net p (kept_by p host) host) p r host

unfoldable pub wakes : Net → ℕ → HostRecord → HostRecord
wakes net p host = wakes_in net p (running_in (slice_get host.processes p)) host

unfoldable pub wakes_from : Net → ℕ → ℕ → HostRecord → HostRecord
wakes_from net p zero host = host
wakes_from net p (suc count) host = wakes_from net (suc p) count (wakes net p host)

unfoldable pub wakes_all : Net → HostRecord → HostRecord
wakes_all net host = wakes_from net 0 (min (length host.processes) most_processes) host

-- ---- an event fires: it acts, processes wake, and what was written is kept

abbrev pub keeps_outputs : List Output → HostRecord → HostRecord
keeps_outputs before host = record host {
  written = before ++ host.parts.shared.outputs;
  parts = record host.parts { shared = record host.parts.shared { outputs = [] } };
}

abbrev pub at_time : Time → HostRecord → HostRecord
at_time now host = with_link (comes_to now host.link) host

unfoldable pub has_acted : Net → Event → HostRecord → HostRecord
has_acted net e host = wakes_all net (acts net e.what (at_time e.key.due host))

-- what the link made is handed out
abbrev pub hands_out : HostRecord → Fired HostRecord Line
hands_out host = record { host = with_link (without_made host.link) host; made = host.link.made; lines = host.link.lines }

abbrev pub fire : Net → HostRecord → Event → Fired HostRecord Line
fire net host e = hands_out (keeps_outputs host.written (has_acted net e host))

-- what its processes write as an event fires
abbrev pub wrote : Net → HostRecord → Event → List Output
wrote net host e = (has_acted net e host).parts.shared.outputs
