-- What outputs and lines put into the files that grow while a run goes on.
use Rattle.std.specs.Prelude.{ℕ, ◌+◌, List, [], ◌∷◌, ◌++◌, map, flat_map, slice_get, Option, Some, None, true, Bool, false}
use Rattle.std.specs.List.{filter}
use Rattle.run_outside.specs.declared.sink.SinkTarget.TheVariants as target
use Rattle.file_calls.specs.declared.task.Output.{Output}
use Rattle.file_calls.specs.Numbers.{stdout_fileno, stderr_fileno}
use Rattle.run_files.specs.Captured.{all_captures, no_head}
use Rattle.run_files.specs.Files.{Put, written_to, log_name}
use Rattle.file_calls.specs.Guest.{first_id}
use Rattle.run_files.specs.Listed.{HostNames, by_process, by_host}
use Rattle.run_files.specs.declared.listed.ProcessListing.{ProcessListing}
use Rattle.host_link.specs.declared.line.Line.{Line}
use Rattle.out_text.specs.Files.{file_name}
use Rattle.out_text.specs.Log.{LogLine, log_line}
use Rattle.out_text.specs.declared.files.FileKind.TheVariants as kind

-- what process p of a host wrote to its standard output and error, each in its file
abbrev pub process_grown : List ℕ → List Output → ℕ → ProcessListing → List Put
process_grown host outputs p process =
    (target.File (file_name host process.program (first_id + p) kind.Stdout), written_to p stdout_fileno outputs)
    ∷ (target.File (file_name host process.program (first_id + p) kind.Stderr), written_to p stderr_fileno outputs)
    ∷ []

abbrev pub host_grown : HostNames → List Output → List Put
host_grown host outputs = by_process (process_grown host.name outputs) 0 host.processes

abbrev pub hosts_grown : List HostNames → List (List Output) → List Put
hosts_grown hosts outputs = by_host host_grown hosts outputs

abbrev pub listed_name : Option HostNames → List ℕ
listed_name None = []
listed_name (Some host) = host.name

-- a line tells its host by name
abbrev pub told_line : List HostNames → Line → LogLine
told_line hosts l = record { time = l.time; host = listed_name (slice_get hosts l.host.index); act = l.act; packet = l.packet }

-- the text of lines, in the packet log
abbrev pub log_grown : List HostNames → List Line → Put
log_grown hosts lines = (target.File log_name, flat_map log_line (map (told_line hosts) lines))

-- what the hosts wrote, their captures with some bytes in front of the records, and the packet log
abbrev pub grown_behind : (ℕ → List ℕ) → List HostNames → List (List Output) → List Line → List Put
grown_behind front hosts outputs lines = hosts_grown hosts outputs ++ (all_captures front hosts lines ++ (log_grown hosts lines ∷ []))

abbrev pub all_grown : List HostNames → List (List Output) → List Line → List Put
all_grown hosts outputs lines = grown_behind no_head hosts outputs lines

abbrev pub is_some : List ℕ → Bool
is_some [] = false
is_some (byte ∷ bytes) = true

-- nothing is put where there is no byte
abbrev pub with_bytes : List Put → List Put
with_bytes puts = filter (λ (put : Put). is_some put.1) puts
