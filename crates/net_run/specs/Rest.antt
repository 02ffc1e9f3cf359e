-- What is put when a run is over and its files have grown: the final states, the unmet expectations and the summary.
use Rattle.std.specs.Prelude.{◌≡◌, ℕ, ◌+◌, List, ◌∷◌, ◌++◌, length, slice_get, Option, Some, None, unwrap_or, Bool, true, false, []}
use Rattle.run_outside.specs.declared.sink.SinkTarget.TheVariants as target
use Rattle.sim_base.specs.declared.state.State.{State}
use Rattle.sim_base.specs.declared.state.State.TheVariants.{NotStarted}
use Rattle.host_state.specs.HostRecord.{HostRecord, process_state}
use Rattle.out_text.specs.Files.{state_line}
use Rattle.out_text.specs.Summary.{summary_of, summary_line}
use Rattle.out_text.specs.declared.summary.Summary.{Summary}
use Rattle.run_files.specs.Listed.{HostNames, by_process, by_host}
use Rattle.run_files.specs.Files.{Put, log_name}
use Rattle.file_calls.specs.Guest.{first_id}
use Rattle.net_run.specs.Shown.{files_named, unmet_by, named_log}
use Rattle.net_run.specs.World.{World}
use Rattle.run_files.specs.declared.listed.ProcessListing.{ProcessListing}

abbrev pub state_at : List State → ℕ → State
state_at states p = unwrap_or (slice_get states p) NotStarted

-- the three files of process p: those of descriptors 1 and 2, so that they are there, and that of its final state
abbrev pub process_rest : List ℕ → List State → ℕ → ProcessListing → List Put
process_rest host states p process = files_named host process.program (first_id + p) [] [] (state_line (state_at states p))

abbrev pub host_rest : HostNames → List State → List Put
host_rest host states = by_process (process_rest host.name states) 0 host.processes

abbrev pub hosts_rest : List HostNames → List (List State) → List Put
hosts_rest hosts states = by_host host_rest hosts states

-- its line, if its final state is another one than is expected
abbrev pub unmet_of_process : List ℕ → List State → ℕ → ProcessListing → List Put
unmet_of_process host states p process = unmet_by host process.program (first_id + p) process.expected (state_at states p)

abbrev pub unmet_of_host : HostNames → List State → List Put
unmet_of_host host states = by_process (unmet_of_process host.name states) 0 host.processes

abbrev pub unmet_of_hosts : List HostNames → List (List State) → List Put
unmet_of_hosts hosts states = by_host unmet_of_host hosts states

-- ---- the whole

abbrev pub summary_rest : Option Summary → List Put
summary_rest None = []
summary_rest (Some s) = (target.Out, summary_line s) ∷ []

-- behind the files of processes: the packet log, so that it is there, the unmet expectations and the summary
abbrev pub ending : List HostNames → List (List State) → Option Summary → List Put
ending hosts states summary = (target.File log_name, []) ∷ (unmet_of_hosts hosts states ++ summary_rest summary)

abbrev pub all_rest : List HostNames → List (List State) → Option Summary → List Put
all_rest hosts states summary = hosts_rest hosts states ++ ending hosts states summary

-- ---- of a world

-- for a self-load, what was sent, lost and received
abbrev pub summary_in : Bool → World → Option Summary
summary_in true w = Some (summary_of (length w.hosts) (named_log w))
summary_in false w = None

-- the states of a host's processes as they are told, each by its place
pub record TellsStates (h : HostRecord) (states : List State) : Type 0 where
  pub count : length states ≡ length h.row.processes
  pub each : (p : ℕ) (state : State) → slice_get states p ≡ Some state → state ≡ process_state p h

-- those of all hosts, each host's at its place
pub record AreTold (w : World) (states : List (List State)) : Type 0 where
  pub count : length states ≡ length w.hosts
  pub each : (k : ℕ) (h : HostRecord) (told : List State) → slice_get w.hosts k ≡ Some h → slice_get states k ≡ Some told → TellsStates h told
