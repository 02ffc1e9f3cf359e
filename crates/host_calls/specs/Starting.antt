-- The start of a process.
use Rattle.std.specs.Prelude.{ℕ, List, [], replicate, Some, None}
use Rattle.sim_base.specs.declared.address.Ip.{Ip}
use Rattle.guest_mem.specs.Memory.{Memory}
use Rattle.host_files.specs.Files.{no_files}
use Rattle.host_sockets.specs.Sockets.{no_sockets}
use Rattle.host_wants.specs.Wanted.{nothing_wanted}
use Rattle.file_calls.specs.declared.task.Shared.{Shared}
use Rattle.file_calls.specs.Scene.{Local}
use Rattle.call_parts.specs.Starting.{starts}
use Rattle.host_calls.specs.Parts.{PartsRecord, slot, with_slot}

-- a process starts with a memory
abbrev pub started : ℕ → Local → PartsRecord → PartsRecord
started process (task, shared) h = with_slot process (slot (Some task) shared h.sockets) h

abbrev pub task_starts : ℕ → Memory → PartsRecord → PartsRecord
task_starts process memory h = started process (starts memory h.shared) h

-- a host with this address and generator, before any of so many processes starts
abbrev pub no_shared : List ℕ → Shared
no_shared draws = record { files = no_files; outlet = nothing_wanted draws; outputs = [] }

abbrev pub no_parts : Ip → List ℕ → ℕ → PartsRecord
no_parts own draws count = record { tasks = replicate count None; shared = no_shared draws; sockets = no_sockets own }
