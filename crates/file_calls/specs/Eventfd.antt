-- eventfd(2), read(2) and write(2) of eventfds.
use Rattle.std.specs.Prelude.{ℕ, ◌-◌, ◌^◌, ◌==◌, List, length, nat_lt, if◌then◌else◌, not, take, Option, Result, Ok}
use Rattle.std.specs.Int.{w64, from_le_bytes, to_le_bytes}
use Rattle.sim_base.specs.declared.errno.Errno.TheVariants.{Ebadf, Efault, Einval, Emfile}
use Rattle.sim_base.specs.Refusals.{◌>>=◌, ◌>>◌, refuse_if, or_refuse}
use Rattle.guest_mem.specs.Memory.{Memory}
use Rattle.guest_args.specs.Span.{span}
use Rattle.host_fds.specs.declared.eventfd.Eventfd.{Eventfd}
use Rattle.host_fds.specs.Eventfd as eventfd
use Rattle.host_files.specs.declared.file.File.{File}
use Rattle.host_files.specs.declared.file.Object.TheVariants as kind
use Rattle.host_files.specs.Files.{FilesState, next_eventfd, with_eventfd, eventfd_at, eventfd_taken, eventfd_read, eventfd_written}
use Rattle.host_wants.specs.declared.error.Refusal.{Refusal}
use Rattle.host_wants.specs.declared.error.Refusal.TheVariants.{Errno}
use Rattle.host_wants.specs.Refusals.{waits_if}
use Rattle.file_calls.specs.declared.task.Task.{Task}
use Rattle.file_calls.specs.declared.task.Shared.{Shared}
use Rattle.file_calls.specs.Descriptors.{lowest_free, opens}
use Rattle.file_calls.specs.Flags.{o_nonblock, efd_semaphore, has, beside_eventfd}
use Rattle.file_calls.specs.Numbers.{eventfd_size}
use Rattle.file_calls.specs.Scene.{Local, tell_memory}

-- eventfd(2)
abbrev pub eventfd_asked : ℕ → Task → Result ℕ Refusal
eventfd_asked flags task = do
  refuse_if (not (beside_eventfd flags == 0)) (Errno Einval)
  or_refuse (lowest_free task.table) (Errno Emfile)

abbrev pub eventfd_file : ℕ → ℕ → File
eventfd_file flags k = record { nonblocking = has o_nonblock flags; object = kind.Eventfd k }

abbrev pub new_eventfd : ℕ → ℕ → Local → Local
new_eventfd count flags (task, shared) = (task, record shared { files = with_eventfd (eventfd.new_eventfd count (has efd_semaphore flags)) shared.files })

abbrev pub eventfd2 : ℕ → ℕ → Local → Result (ℕ × Local) Refusal
eventfd2 count flags (task, shared) = do
  fd ← eventfd_asked flags task
  Ok (fd, opens fd (eventfd_file flags (next_eventfd shared.files)) (new_eventfd count flags (task, shared)))

-- read(2): it waits while there is no count
abbrev pub eventfd_empty : ℕ → FilesState → Result (Unit {0}) Refusal
eventfd_empty k files = do
  e ← or_refuse (eventfd_at k files) (Errno Ebadf)
  waits_if (e.count == 0)

abbrev pub eventfd_read_by : ℕ → ℕ → Local → Local
eventfd_read_by k at (task, shared) =
    tell_memory at (to_le_bytes w64 (eventfd_taken k shared.files)) (task, record shared { files = eventfd_read k shared.files })

-- write(2): the number that is added stands in the first 8 bytes; 2^64 - 1 is none. It waits while there is no room for it
abbrev pub number_of : List ℕ → ℕ
number_of bytes = if nat_lt (length bytes) eventfd_size then 0 else from_le_bytes w64 (take eventfd_size bytes)

abbrev pub number_at : ℕ → Memory → Result ℕ Refusal
number_at at memory = do
  bytes ← or_refuse (span eventfd_size at memory) (Errno Efault)
  Ok (from_le_bytes w64 bytes)

abbrev pub number_fits : ℕ → Option Eventfd → Result (Unit {0}) Refusal
number_fits number slot = do
  refuse_if (number == 2 ^ 64 - 1) (Errno Einval)
  e ← or_refuse slot (Errno Ebadf)
  waits_if (not (eventfd.has_room number e))

abbrev pub eventfd_full : ℕ → ℕ → Memory → FilesState → Result (Unit {0}) Refusal
eventfd_full at k memory files = do
  number ← number_at at memory
  number_fits number (eventfd_at k files)

abbrev pub eventfd_write_by : List ℕ → ℕ → Shared → Shared
eventfd_write_by bytes k shared = record shared { files = eventfd_written (number_of bytes) k shared.files }
