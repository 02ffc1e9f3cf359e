-- The start of a process, before it has sockets.
use Rattle.std.specs.Prelude.{[], false, None}
use Rattle.std.specs.FinMap as map
use Rattle.guest_mem.specs.Memory.{Memory}
use Rattle.host_files.specs.declared.file.File.{File}
use Rattle.host_files.specs.declared.file.Object.{Object}
use Rattle.host_files.specs.declared.file.Object.TheVariants as kind
use Rattle.file_calls.specs.declared.task.Task.{Task}
use Rattle.file_calls.specs.declared.task.Shared.{Shared}
use Rattle.file_calls.specs.Scene.{Local}
use Rattle.file_calls.specs.Descriptors.{opens}

abbrev pub fresh_task : Memory → Task
fresh_task memory = record { table = map.empty; epolls = []; memory = memory; kept = None }

abbrev pub std_file : Object → File
std_file object = record { nonblocking = false; object = object }

-- its descriptors 0, 1 and 2 are its standard input, output and error
abbrev pub starts : Memory → Shared → Local
starts memory shared =
    opens 2 (std_file kind.Errors) (opens 1 (std_file kind.Output) (opens 0 (std_file kind.Input) (fresh_task memory, shared)))
