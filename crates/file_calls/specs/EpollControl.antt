-- epoll_create1(2) and epoll_ctl(2).
use Rattle.std.specs.Prelude.{ℕ, ◌-◌, ◌==◌, Bool, false, not, List, take, drop, Option, Some, None, Result, Ok, Err, if◌then◌else◌}
use Rattle.std.specs.Int.{w32, w64, from_le_bytes}
use Rattle.sim_base.specs.declared.errno.Errno.TheVariants.{Eperm, Eexist, Efault, Einval, Emfile, Enoent}
use Rattle.sim_base.specs.Refusals.{◌>>=◌, ◌>>◌, refuse_if, or_refuse}
use Rattle.guest_mem.specs.Memory.{Memory}
use Rattle.guest_args.specs.Span.{span, int_size}
use Rattle.host_fds.specs.declared.epoll.Watch.{Watch}
use Rattle.host_fds.specs.Epoll.{watches}
use Rattle.host_files.specs.declared.file.File.{File}
use Rattle.host_files.specs.declared.file.Object.{Object}
use Rattle.host_files.specs.declared.file.Object.TheVariants as kind
use Rattle.host_files.specs.Epolls.{EpollsState, next_epoll, with_epoll, epoll_at, entry_put, entry_removed}
use Rattle.host_wants.specs.declared.error.Refusal.{Refusal}
use Rattle.host_wants.specs.declared.error.Refusal.TheVariants.{Errno}
use Rattle.file_calls.specs.declared.controlling.Change.{Change}
use Rattle.file_calls.specs.declared.controlling.Change.TheVariants.{Put, Remove}
use Rattle.file_calls.specs.declared.controlling.Control.{Control}
use Rattle.file_calls.specs.declared.controlling.Operation.{Operation}
use Rattle.file_calls.specs.declared.controlling.Operation.TheVariants as operation
use Rattle.file_calls.specs.declared.task.Task.{Task}
use Rattle.file_calls.specs.Descriptors.{lowest_free, descriptor, opens}
use Rattle.file_calls.specs.Flags.{beside_cloexec, beside_epoll}
use Rattle.file_calls.specs.Numbers.{epoll_ctl_add, epoll_ctl_del, epoll_ctl_mod}
use Rattle.file_calls.specs.Scene.{Local}

-- epoll_create1(2)
abbrev pub epoll_asked : ℕ → Task → Result ℕ Refusal
epoll_asked flags task = do
  refuse_if (not (beside_cloexec flags == 0)) (Errno Einval)
  or_refuse (lowest_free task.table) (Errno Emfile)

abbrev pub epoll_file : ℕ → File
epoll_file k = record { nonblocking = false; object = kind.Epoll k }

abbrev pub new_epoll : Local → Local
new_epoll (task, shared) = (record task { epolls = with_epoll task.epolls }, shared)

abbrev pub epoll_create1 : ℕ → Local → Result (ℕ × Local) Refusal
epoll_create1 flags (task, shared) = do
  fd ← epoll_asked flags task
  Ok (fd, opens fd (epoll_file (next_epoll task.epolls)) (new_epoll (task, shared)))

abbrev pub epoll_number : Object → Result ℕ Refusal
epoll_number (kind.Epoll k) = Ok k
epoll_number _ = Err (Errno Einval)

-- epoll_ctl(2): what is done, and what can't be watched
abbrev pub operation_of : ℕ → Result Operation Refusal
operation_of op =
    if op == epoll_ctl_add then Ok operation.Add
    else if op == epoll_ctl_del then Ok operation.Delete
    else if op == epoll_ctl_mod then Ok operation.Modify
    else Err (Errno Einval)

abbrev pub may_watch : Object → Result (Unit {0}) Refusal
may_watch kind.Input = Err (Errno Eperm)
may_watch kind.Output = Err (Errno Eperm)
may_watch kind.Errors = Err (Errno Eperm)
may_watch (kind.Hosts read) = Err (Errno Eperm)
may_watch (kind.Epoll k) = Err (Errno Eperm)
may_watch _ = Ok tt

-- struct epoll_event: the events, 4 bytes that aren't used, and the data
abbrev pub event_size : ℕ
event_size = 16

abbrev pub events_in : List ℕ → ℕ
events_in bytes = from_le_bytes w32 (take int_size bytes)

abbrev pub watch_of : ℕ → List ℕ → Watch
watch_of fd bytes = record { fd = fd; events = events_in bytes; «data» = from_le_bytes w64 (take 8 (drop 8 bytes)); reported = None }

abbrev pub watch_at : ℕ → ℕ → Memory → Result Watch Refusal
watch_at fd at memory = do
  bytes ← or_refuse (span event_size at memory) (Errno Efault)
  refuse_if (not (beside_epoll (events_in bytes) == 0)) (Errno Einval)
  Ok (watch_of fd bytes)

abbrev pub has_entry : ℕ → Option (List Watch) → Bool
has_entry fd None = false
has_entry fd (Some entries) = watches fd entries

-- an epoll has one entry of a descriptor at most. An entry that is deleted isn't looked at
abbrev pub change_of : Operation → ℕ → ℕ → Bool → Memory → Result Change Refusal
change_of operation.Add fd at there memory = do
  w ← watch_at fd at memory
  refuse_if there (Errno Eexist)
  Ok (Put w)
change_of operation.Modify fd at there memory = do
  w ← watch_at fd at memory
  refuse_if (not there) (Errno Enoent)
  Ok (Put w)
change_of operation.Delete fd at there memory = do
  refuse_if (not there) (Errno Enoent)
  Ok (Remove fd)

-- the epoll, and what is done with the entry of the descriptor
abbrev pub watched : ℕ → ℕ → Local → Result (ℕ × Object) Refusal
watched epfd fd (task, shared) = do
  e ← descriptor epfd task shared.files
  d ← descriptor fd task shared.files
  place ← epoll_number e.file.object
  refuse_if (epfd == fd) (Errno Einval)
  Ok (place, d.file.object)

abbrev pub ctl_asked : ℕ → ℕ → ℕ → ℕ → Local → Result Control Refusal
ctl_asked epfd op fd at (task, shared) = do
  (place, object) ← watched epfd fd (task, shared)
  does ← operation_of op
  may_watch object
  change ← change_of does fd at (has_entry fd (epoll_at place task.epolls)) task.memory
  Ok (record { place = place; change = change })

abbrev pub changed : Change → ℕ → EpollsState → EpollsState
changed (Put w) place s = entry_put w place s
changed (Remove fd) place s = entry_removed fd place s

abbrev pub controlled : Control → Local → Local
controlled c (task, shared) = (record task { epolls = changed c.change c.place task.epolls }, shared)

abbrev pub epoll_ctl : ℕ → ℕ → ℕ → ℕ → Local → Result (ℕ × Local) Refusal
epoll_ctl epfd op fd at s = do
  c ← ctl_asked epfd op fd at s
  Ok (0, controlled c s)
