-- What is shown of the result of a run.
use Rattle.std.specs.Prelude.{ℕ, ◌+◌, List, [], ◌∷◌, ◌++◌, length, map, flat_map, slice_get, Option, Some, None, Bool, true, false, if◌then◌else◌, ◌==◌}
use Rattle.sim_base.specs.Signal.{signal_number}
use Rattle.run_outside.specs.declared.sink.SinkTarget.TheVariants as target
use Rattle.sim_base.specs.declared.state.State.{State}
use Rattle.sim_base.specs.declared.state.State.TheVariants.{NotStarted, Running, Exited, Signaled}
use Rattle.host_state.specs.HostRecord.{HostRecord, process_state}
use Rattle.host_link.specs.declared.line.Line.{Line}
use Rattle.host_rows.specs.declared.row.ProcessRow.{ProcessRow}
use Rattle.out_text.specs.Faults.{note_line, unmet_line}
use Rattle.out_text.specs.Files.{file_name, state_line, state_text, process_text}
use Rattle.out_text.specs.Log.{LogLine, log_line}
use Rattle.out_text.specs.Summary.{summary_of, summary_line}
use Rattle.out_text.specs.declared.files.FileKind.TheVariants as kind
use Rattle.out_text.specs.declared.summary.Summary.{Summary}
use Rattle.pcap_text.specs.Writing.{head}
use Rattle.run_files.specs.Captured.{all_captures}
use Rattle.run_files.specs.Files.{Put, program_of, written_to, expected_state, log_name}
use Rattle.file_calls.specs.Guest.{first_id}
use Rattle.host_state.specs.Gains.{names_in}
use Rattle.host_link.specs.Logs.{lines_of}
use Rattle.net_run.specs.Streams.{stream_puts}
use Rattle.net_run.specs.World.{World}

-- ---- files

-- the three files of a process, with these bytes
abbrev pub files_named : List ℕ → List ℕ → ℕ → List ℕ → List ℕ → List ℕ → List Put
files_named host program pid stdout stderr exit =
    (target.File (file_name host program pid kind.Stdout), stdout)
    ∷ (target.File (file_name host program pid kind.Stderr), stderr)
    ∷ (target.File (file_name host program pid kind.Exit), exit)
    ∷ []

-- the files of process p of a host: what it wrote to descriptors 1 and 2, and its final state
abbrev pub process_files : HostRecord → ℕ → ProcessRow → List Put
process_files h p row =
    files_named h.row.name (program_of row.path) (first_id + p) (written_to p 1 h.written) (written_to p 2 h.written) (state_line (process_state p h))

-- those of the processes from p on, in order
abbrev pub files_from : HostRecord → ℕ → List ProcessRow → List Put
files_from h p [] = []
files_from h p (row ∷ rows) = process_files h p row ++ files_from h (p + 1) rows

abbrev pub host_files : HostRecord → List Put
host_files h = files_from h 0 h.row.processes

-- ---- the packet log

abbrev pub name_of : Option HostRecord → List ℕ
name_of None = []
name_of (Some h) = h.row.name

-- a line tells its host by name
abbrev pub named : List HostRecord → Line → LogLine
named hosts l = record { time = l.time; host = name_of (slice_get hosts l.host.index); act = l.act; packet = l.packet }

abbrev pub named_log : World → List LogLine
named_log w = map (named w.hosts) (lines_of w.log)

abbrev pub log_file : World → Put
log_file w = (target.File log_name, flat_map log_line (named_log w))

-- ---- captures

-- the two captures of each host that has a capture size: the head, and the records of the lines in the packet log that they have
abbrev pub captures_in : World → List Put
captures_in w = all_captures head (names_in w) (lines_of w.log)

-- ---- expectations

-- the final state is the one that is expected; a process that has not started meets every expectation
abbrev pub meets : State → State → Bool
meets expected NotStarted = true
meets Running Running = true
meets (Exited a) (Exited b) = a == b
meets (Signaled a) (Signaled b) = signal_number a == signal_number b
meets expected state = false

-- the line of a process on the error stream, if its final state is another one
abbrev pub unmet_by : List ℕ → List ℕ → ℕ → State → State → List Put
unmet_by host program pid expected state =
    if meets expected state then [] else (target.Err, unmet_line (process_text host program pid) (state_text state) (state_text expected)) ∷ []

abbrev pub process_unmet : HostRecord → ℕ → ProcessRow → List Put
process_unmet h p row = unmet_by h.row.name (program_of row.path) (first_id + p) (expected_state row.expected) (process_state p h)

abbrev pub unmet_from : HostRecord → ℕ → List ProcessRow → List Put
unmet_from h p [] = []
unmet_from h p (row ∷ rows) = process_unmet h p row ++ unmet_from h (p + 1) rows

abbrev pub host_unmet : HostRecord → List Put
host_unmet h = unmet_from h 0 h.row.processes

-- in the order of hosts and ids
abbrev pub unmet : World → List Put
unmet w = flat_map host_unmet w.hosts

-- ---- the whole

-- for a self-load, what was sent, lost and received
abbrev pub summary_puts : Bool → Summary → List Put
summary_puts true s = (target.Out, summary_line s) ∷ []
summary_puts false s = []

abbrev pub summary : Bool → World → List Put
summary load w = summary_puts load (summary_of (length w.hosts) (named_log w))

-- the files of all hosts, their captures, the packet log, the unmet expectations and, for a self-load, its summary
abbrev pub run_pieces : Bool → World → List Put
run_pieces load w = flat_map host_files w.hosts ++ (captures_in w ++ (log_file w ∷ (unmet w ++ summary load w)))

-- a line on the error stream for each key without effect
abbrev pub note_puts : List (List ℕ) → List Put
note_puts notes = map (λ (path : List ℕ). let p : Put = (target.Err, note_line path) in p) notes

-- and behind all else the lines of its connections, where they are asked for
abbrev pub all_pieces : Bool → Bool → World → List Put
all_pieces load streams w = run_pieces load w ++ stream_puts streams w

-- what stands in the new data directory, on the output and on the error stream: the notes, and then what the run shows
abbrev pub pieces : List (List ℕ) → Bool → Bool → World → List Put
pieces notes load streams w = note_puts notes ++ all_pieces load streams w

-- 0 where each expectation is met, and else 1
abbrev pub status_by : List Put → ℕ
status_by [] = 0
status_by (put ∷ puts) = 1

abbrev pub status_of : World → ℕ
status_of w = status_by (unmet w)
