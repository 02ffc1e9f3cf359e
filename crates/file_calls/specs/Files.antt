-- fcntl(2), openat(2), pipe(2), read(2) and write(2), where no socket is meant.
use Rattle.std.specs.Prelude.{◌≡◌, ℕ, zero, suc, ◌+◌, ◌*◌, ◌%◌, ◌^◌, ◌==◌, ◌&&◌, Bool, false, not, List, [], ◌∷◌, ◌++◌, length, take, drop, Option, Some, None, Result, Ok, Err, codes, nat_lt, if◌then◌else◌, refl}
use Rattle.std.specs.Cmp.Lexicographic.{pointwise}
use Rattle.std.specs.Int.{w32, w64, to_le_bytes}
use Rattle.sim_base.specs.declared.errno.Errno.TheVariants.{Eacces, Ebadf, Efault, Einval, Emfile, Enoent}
use Rattle.sim_base.specs.declared.signal.Signal.TheVariants.{SigPipe}
use Rattle.sim_base.specs.declared.state.State.TheVariants.{Signaled}
use Rattle.sim_base.specs.declared.time.Time.{Time}
use Rattle.sim_base.specs.Refusals.{◌>>=◌, ◌>>◌, refuse_if, or_refuse}
use Rattle.guest_mem.specs.Memory.{Memory, load}
use Rattle.guest_mem.specs.declared.right.Right.TheVariants.{Read}
use Rattle.guest_args.specs.Span.{counted, span, can_read, can_write, int_size}
use Rattle.host_fds.specs.Descriptors.{Descriptors}
use Rattle.host_fds.specs.Pipe.{PipeState, room}
use Rattle.host_files.specs.declared.file.File.{File}
use Rattle.host_files.specs.declared.file.Object.{Object}
use Rattle.host_files.specs.declared.file.Object.TheVariants as kind
use Rattle.host_files.specs.Files.{FilesState, next_pipe, with_pipe, pipe_at, pipe_gives, pipe_read, pipe_gets_in, pipe_written, timer_count, timer_read}
use Rattle.host_wants.specs.declared.error.Refusal.{Refusal}
use Rattle.host_wants.specs.declared.error.Refusal.TheVariants.{Errno, End}
use Rattle.host_wants.specs.Refusals.{waits_if}
use Rattle.file_calls.specs.declared.descriptors.Descriptor.{Descriptor}
use Rattle.file_calls.specs.declared.files.Ends.{Ends}
use Rattle.file_calls.specs.declared.transfer.Transfer.{Transfer}
use Rattle.file_calls.specs.declared.task.Task.{Task}
use Rattle.file_calls.specs.declared.task.Shared.{Shared}
use Rattle.file_calls.specs.Eventfd.{eventfd_empty, eventfd_read_by, eventfd_full, eventfd_write_by}
use Rattle.file_calls.specs.Flags.{o_nonblock, has, beside_open}
use Rattle.file_calls.specs.Numbers.{f_getfd, f_setfd, f_getfl, f_setfl, o_rdonly, o_accmode, path_max, stdout_fileno, stderr_fileno, expiries_size, eventfd_size}
use Rattle.file_calls.specs.Scene.{Local, or_again, tell_memory}
use Rattle.file_calls.specs.Descriptors.{free_from, lowest_free, descriptor, opens, with_file}

-- fcntl(2). Of the flags only O_NONBLOCK is kept (this project's own profile)
abbrev pub status_flags : File → ℕ
status_flags file = if file.nonblocking then o_nonblock else 0

abbrev pub with_flags : ℕ → Descriptor → Local → Local
with_flags flags d (task, shared) = (task, with_file d.id (record d.file { nonblocking = has o_nonblock flags }) shared)

abbrev pub fcntl_by : ℕ → ℕ → Descriptor → Local → Result (ℕ × Local) Refusal
fcntl_by command flags d s =
    if command == f_getfd then Ok (0, s)
    else if command == f_setfd then Ok (0, s)
    else if command == f_getfl then Ok (status_flags d.file, s)
    else if command == f_setfl then Ok (0, with_flags flags d s)
    else Err (Errno Einval)

abbrev pub fcntl : ℕ → ℕ → ℕ → Local → Result (ℕ × Local) Refusal
fcntl fd command flags (task, shared) = do
  d ← descriptor fd task shared.files
  fcntl_by command flags d (task, shared)

-- openat(2): how many bytes of a path, of at most path_max with it, stand before its zero byte. There are no addresses from 2^32 on
abbrev pub byte_at : ℕ → Memory → Option ℕ
byte_at at memory = if nat_lt at (2 ^ 32) then load Read 1 memory at else None

unfoldable pub length_from : ℕ → ℕ → ℕ → Memory → Result ℕ Refusal
length_from count zero at memory = Err (Errno Einval)
length_from count (suc left) at memory = do
  byte ← or_refuse (byte_at (at + count) memory) (Errno Efault)
  if byte == 0 then Ok count else length_from (count + 1) left at memory

abbrev pub path_length : ℕ → Memory → Result ℕ Refusal
path_length at memory = length_from 0 path_max at memory

-- the only file that there is
abbrev pub hosts_path : List ℕ
hosts_path = codes "/etc/hosts"

abbrev pub hosts_path_size : ℕ
hosts_path_size = 10

hosts_path_size_is : length hosts_path ≡ hosts_path_size
hosts_path_size_is = refl

abbrev pub is_hosts : Option (List ℕ) → Bool
is_hosts None = false
is_hosts (Some path) = pointwise ◌==◌ path hosts_path

abbrev pub is_hosts_path : ℕ → ℕ → Memory → Bool
is_hosts_path count at memory = if count == hosts_path_size then is_hosts (span hosts_path_size at memory) else false

abbrev pub hosts_file : File
hosts_file = record { nonblocking = false; object = kind.Hosts 0 }

-- the descriptor that it gets
abbrev pub openat_asked : ℕ → ℕ → Task → Result ℕ Refusal
openat_asked path flags task = do
  count ← path_length path task.memory
  refuse_if (not (is_hosts_path count path task.memory)) (Errno Enoent)
  refuse_if (not (flags % (o_accmode + 1) == o_rdonly)) (Errno Eacces)
  or_refuse (lowest_free task.table) (Errno Emfile)

abbrev pub openat : ℕ → ℕ → Local → Result (ℕ × Local) Refusal
openat path flags (task, shared) = do
  fd ← openat_asked path flags task
  Ok (fd, opens fd hosts_file (task, shared))

-- pipe(2): the reading end gets the lower descriptor; both stand at an address as two ints
abbrev pub read_end : Bool → ℕ → File
read_end nonblocking k = record { nonblocking = nonblocking; object = kind.ReadEnd k }

abbrev pub write_end : Bool → ℕ → File
write_end nonblocking k = record { nonblocking = nonblocking; object = kind.WriteEnd k }

abbrev pub new_pipe : Local → Local
new_pipe (task, shared) = (task, record shared { files = with_pipe shared.files })

abbrev pub ends_bytes : Ends → List ℕ
ends_bytes fds = to_le_bytes w32 fds.reading ++ to_le_bytes w32 fds.writing

abbrev pub with_ends : Ends → Bool → ℕ → Local → Local
with_ends fds nonblocking k s = opens fds.writing (write_end nonblocking k) (opens fds.reading (read_end nonblocking k) (new_pipe s))

-- the descriptors that they get
abbrev pub second_end : ℕ → Descriptors → Result Ends Refusal
second_end reading table = do
  writing ← or_refuse (free_from table (reading + 1)) (Errno Emfile)
  Ok (record { reading = reading; writing = writing })

abbrev pub pipe2_asked : ℕ → ℕ → Task → Result Ends Refusal
pipe2_asked at flags task = do
  refuse_if (not (beside_open flags == 0)) (Errno Einval)
  refuse_if (not (can_write (2 * int_size) at task.memory)) (Errno Efault)
  reading ← or_refuse (lowest_free task.table) (Errno Emfile)
  second_end reading task.table

abbrev pub pipe2 : ℕ → ℕ → Local → Result (ℕ × Local) Refusal
pipe2 at flags (task, shared) = do
  fds ← pipe2_asked at flags task
  Ok (0, tell_memory at (ends_bytes fds) (with_ends fds (has o_nonblock flags) (next_pipe shared.files) (task, shared)))

-- read(2): what cannot be read, an epoll among it, and what a timer or an eventfd has no room for
abbrev pub may_read : Object → ℕ → Result (Unit {0}) Refusal
may_read kind.Output n = Err (Errno Ebadf)
may_read kind.Errors n = Err (Errno Ebadf)
may_read (kind.WriteEnd k) n = Err (Errno Ebadf)
may_read (kind.Epoll k) n = Err (Errno Einval)
may_read (kind.Timer k) n = refuse_if (nat_lt n expiries_size) (Errno Einval)
may_read (kind.Eventfd k) n = refuse_if (nat_lt n eventfd_size) (Errno Einval)
may_read _ n = Ok tt

-- a pipe without bytes has a writer, and an expiry of a timer is to come
abbrev pub is_drained : PipeState → Bool
is_drained p = (length p.bytes == 0) && p.has_writer

abbrev pub pipe_drained : ℕ → FilesState → Result (Unit {0}) Refusal
pipe_drained k files = do
  p ← or_refuse (pipe_at k files) (Errno Ebadf)
  waits_if (is_drained p)

abbrev pub wait_to_read : Time → Object → FilesState → Result (Unit {0}) Refusal
wait_to_read now (kind.ReadEnd k) files = pipe_drained k files
wait_to_read now (kind.Timer k) files = waits_if (timer_count now.nanos k files == 0)
wait_to_read now (kind.Eventfd k) files = eventfd_empty k files
wait_to_read now _ files = Ok tt

abbrev pub transfer : Descriptor → ℕ → ℕ → Transfer
transfer d at n = record { d = d; at = at; n = n }

abbrev pub file_read_plan : Time → Descriptor → ℕ → ℕ → Local → Result Transfer Refusal
file_read_plan now d at n (task, shared) = do
  may_read d.file.object n
  refuse_if (not (can_write (counted n) at task.memory)) (Errno Efault)
  or_again d.file.nonblocking (wait_to_read now d.file.object shared.files)
  Ok (transfer d at n)

-- what a read of so many bytes gives, and what it leaves
abbrev pub text_left : List ℕ → ℕ → ℕ → List ℕ
text_left text read count = take count (drop read text)

abbrev pub hosts_read : List ℕ → Descriptor → ℕ → ℕ → ℕ → Local → Local
hosts_read text d read at count (task, shared) =
    let bytes = text_left text read count in
    tell_memory at bytes (task, with_file d.id (record d.file { object = kind.Hosts (read + length bytes) }) shared)

abbrev pub pipe_read_by : ℕ → ℕ → ℕ → Local → Local
pipe_read_by k at count (task, shared) =
    tell_memory at (pipe_gives count k shared.files) (task, record shared { files = pipe_read count k shared.files })

abbrev pub timer_read_by : Time → ℕ → ℕ → Local → Local
timer_read_by now k at (task, shared) =
    tell_memory at (to_le_bytes w64 (timer_count now.nanos k shared.files)) (task, record shared { files = timer_read now.nanos k shared.files })

abbrev pub is_read_by : List ℕ → Time → Descriptor → Object → ℕ → ℕ → Local → ℕ × Local
is_read_by text now d (kind.Hosts read) at count s = (length (text_left text read count), hosts_read text d read at count s)
is_read_by text now d (kind.ReadEnd k) at count (task, shared) = (length (pipe_gives count k shared.files), pipe_read_by k at count (task, shared))
is_read_by text now d (kind.Timer k) at count s = (expiries_size, timer_read_by now k at s)
is_read_by text now d (kind.Eventfd k) at count s = (eventfd_size, eventfd_read_by k at s)
is_read_by text now d _ at count s = (0, s)

abbrev pub is_read : List ℕ → Time → Descriptor → ℕ → ℕ → Local → ℕ × Local
is_read text now d at count s = is_read_by text now d d.file.object at count s

abbrev pub reads : List ℕ → Time → Transfer → Local → Result (ℕ × Local) Refusal
reads text now t s = Ok (is_read text now t.d t.at (counted t.n) s)

-- write(2): what cannot be written, and what is too short for an eventfd
abbrev pub may_write : Object → ℕ → Result (Unit {0}) Refusal
may_write kind.Input n = Err (Errno Ebadf)
may_write (kind.Hosts read) n = Err (Errno Ebadf)
may_write (kind.ReadEnd k) n = Err (Errno Ebadf)
may_write (kind.Timer k) n = Err (Errno Einval)
may_write (kind.Epoll k) n = Err (Errno Einval)
may_write (kind.Eventfd k) n = refuse_if (nat_lt n eventfd_size) (Errno Einval)
may_write _ n = Ok tt

-- a pipe without reader ends the process, and one without room has it wait
abbrev pub pipe_full : ℕ → ℕ → FilesState → Result (Unit {0}) Refusal
pipe_full count k files = do
  p ← or_refuse (pipe_at k files) (Errno Ebadf)
  refuse_if (not p.has_reader) (End (Signaled SigPipe))
  waits_if (nat_lt 0 count && (room p == 0))

abbrev pub wait_to_write : ℕ → ℕ → Object → Memory → FilesState → Result (Unit {0}) Refusal
wait_to_write at count (kind.WriteEnd k) memory files = pipe_full count k files
wait_to_write at count (kind.Eventfd k) memory files = eventfd_full at k memory files
wait_to_write at count _ memory files = Ok tt

abbrev pub file_write_plan : Descriptor → ℕ → ℕ → Local → Result Transfer Refusal
file_write_plan d at n (task, shared) = do
  may_write d.file.object n
  refuse_if (not (can_read (counted n) at task.memory)) (Errno Efault)
  or_again d.file.nonblocking (wait_to_write at (counted n) d.file.object task.memory shared.files)
  Ok (transfer d at n)

-- what a process wrote to its standard output or to its standard error
abbrev pub with_output : ℕ → ℕ → List ℕ → Shared → Shared
with_output process descriptor bytes shared =
    record shared { outputs = shared.outputs ++ record { process = process; descriptor = descriptor; bytes = bytes } ∷ [] }

abbrev pub count_written : List ℕ → Object → FilesState → ℕ
count_written bytes kind.Output files = length bytes
count_written bytes kind.Errors files = length bytes
count_written bytes (kind.WriteEnd k) files = pipe_gets_in bytes k files
count_written bytes (kind.Eventfd k) files = eventfd_size
count_written bytes _ files = 0

abbrev pub after_write : ℕ → List ℕ → Object → Shared → Shared
after_write process bytes kind.Output shared = with_output process stdout_fileno bytes shared
after_write process bytes kind.Errors shared = with_output process stderr_fileno bytes shared
after_write process bytes (kind.WriteEnd k) shared = record shared { files = pipe_written bytes k shared.files }
after_write process bytes (kind.Eventfd k) shared = eventfd_write_by bytes k shared
after_write process bytes _ shared = shared

abbrev pub is_written : ℕ → Descriptor → List ℕ → Local → ℕ × Local
is_written process d bytes (task, shared) =
    (count_written bytes d.file.object shared.files, (task, after_write process bytes d.file.object shared))

abbrev pub writes : ℕ → Transfer → Local → Result (ℕ × Local) Refusal
writes process t (task, shared) = do
  bytes ← or_refuse (span (counted t.n) t.at task.memory) (Errno Efault)
  Ok (is_written process t.d bytes (task, shared))
