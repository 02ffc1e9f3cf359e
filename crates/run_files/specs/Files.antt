-- The files of a run: their names, and what is put there.
use Rattle.std.specs.Prelude.{ℕ, List, [], Option, Some, None, ◌&&◌, if◌then◌else◌, flat_map, codes, ◌==◌}
use Rattle.std.specs.Path.{rsplit_once}
use Rattle.run_outside.specs.declared.sink.SinkTarget.{SinkTarget}
use Rattle.sim_base.specs.declared.state.State.{State}
use Rattle.sim_base.specs.declared.state.State.TheVariants.{Running, Exited, Signaled}
use Rattle.sim_base.specs.Ascii.{slash}
use Rattle.file_calls.specs.declared.task.Output.{Output}
use Rattle.run_files.specs.declared.piece.Piece.{Piece}
use Rattle.host_rows.specs.declared.row.FinalState.{FinalState}
use Rattle.host_rows.specs.declared.row.FinalState.TheVariants as final

-- a target, and the bytes that are put there
abbrev pub Put : Type 0
Put = SinkTarget × List ℕ

abbrev pub put_of : Piece → Put
put_of piece = (piece.target, piece.bytes)

abbrev pub last_part : List ℕ → Option (List ℕ × List ℕ) → List ℕ
last_part path None = path
last_part path (Some split) = split.1

-- the program's name: the part of its path behind the last slash
unfoldable pub program_of : List ℕ → List ℕ
program_of path = last_part path (rsplit_once slash path)

-- all that process p wrote to a descriptor
abbrev pub written_to : ℕ → ℕ → List Output → List ℕ
written_to p descriptor outputs = flat_map (λ (o : Output). if (o.process == p) && (o.descriptor == descriptor) then o.bytes else []) outputs

abbrev pub log_name : List ℕ
log_name = codes "packets.log"

abbrev pub expected_state : FinalState → State
expected_state (final.Exited status) = Exited status
expected_state (final.Signaled signal) = Signaled signal
expected_state final.Running = Running
