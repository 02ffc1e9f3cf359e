-- The descriptors of a process.
use Rattle.std.specs.Prelude.{◌≡◌, ◌<◌, ℕ, zero, suc, ◌+◌, ◌-◌, Option, Some, None, is_none, Result, Ok, Err, if◌then◌else◌}
use Rattle.std.specs.FinMap as map
use Rattle.sim_base.specs.declared.errno.Errno.TheVariants.{Ebadf}
use Rattle.sim_base.specs.Refusals.{◌>>=◌, or_refuse}
use Rattle.host_fds.specs.declared.file_id.FileId.{FileId}
use Rattle.host_fds.specs.Descriptors.{Descriptors, limit}
use Rattle.host_files.specs.declared.file.File.{File}
use Rattle.host_files.specs.Files.{FilesState, file_at, next_file, opened, replaced}
use Rattle.host_wants.specs.declared.error.Refusal.{Refusal}
use Rattle.host_wants.specs.declared.error.Refusal.TheVariants.{Errno}
use Rattle.file_calls.specs.declared.task.Task.{Task}
use Rattle.file_calls.specs.declared.task.Shared.{Shared}
use Rattle.file_calls.specs.declared.descriptors.Descriptor.{Descriptor}
use Rattle.file_calls.specs.Scene.{Local}

-- the least free number of so many from one on
unfoldable pub first_free : Descriptors → ℕ → ℕ → Option ℕ
first_free fds from zero = None
first_free fds from (suc count) = if is_none (map.get fds from) then Some from else first_free fds (from + 1) count

abbrev pub free_from : Descriptors → ℕ → Option ℕ
free_from fds from = first_free fds from (limit - from)

-- the least free number of all: that of a new descriptor
abbrev pub lowest_free : Descriptors → Option ℕ
lowest_free fds = free_from fds 0

-- a number that a new descriptor may have
pub record IsFree (fd : ℕ) (fds : Descriptors) : Type 0 where
  pub in_range : fd < limit
  pub is_free : map.get fds fd ≡ None

-- what a descriptor names: an open file, with its number
abbrev pub descriptor_by : Option FileId → FilesState → Result Descriptor Refusal
descriptor_by None files = Err (Errno Ebadf)
descriptor_by (Some id) files = do
  file ← or_refuse (file_at id files) (Errno Ebadf)
  Ok (record { id = id; file = file })

abbrev pub descriptor : ℕ → Task → FilesState → Result Descriptor Refusal
descriptor fd task files = descriptor_by (map.get task.table fd) files

-- a file is opened, and a free descriptor names it
abbrev pub opens : ℕ → File → Local → Local
opens fd file (task, shared) =
    (record task { table = map.insert task.table fd (next_file shared.files) }, record shared { files = opened file shared.files })

-- another file in the place of an open one
abbrev pub with_file : FileId → File → Shared → Shared
with_file id file shared = record shared { files = replaced id file shared.files }
