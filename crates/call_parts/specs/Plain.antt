-- The rows of the calls that need no sockets.
use Rattle.std.specs.Prelude.{ℕ, List, slice_index, Result, Ok}
use Rattle.sim_base.specs.declared.time.Time.{Time}
use Rattle.host_wants.specs.declared.error.Refusal.{Refusal}
use Rattle.file_calls.specs.declared.task.Shared.{Shared}
use Rattle.file_calls.specs.declared.task.Task.{Task}
use Rattle.file_calls.specs.EpollControl.{epoll_create1, epoll_ctl}
use Rattle.file_calls.specs.Eventfd.{eventfd2}
use Rattle.file_calls.specs.Files.{fcntl, openat, pipe2}
use Rattle.file_calls.specs.Guest.{getpid, brk, getrandom}
use Rattle.file_calls.specs.Scene.{Local}
use Rattle.file_calls.specs.Times.{clock_gettime, timerfd_create, timerfd_settime}
use Rattle.call_parts.specs.declared.call.PlainCall.{PlainCall}
use Rattle.call_parts.specs.declared.call.PlainCall.TheVariants as plain
use Rattle.call_parts.specs.Sockets.{setsockopt}

-- argument n of six
abbrev pub arg : List ℕ → ℕ → ℕ
arg args n = slice_index args n

-- rows that can't refuse
abbrev pub answers_brk : ℕ × Task → Shared → Result (ℕ × Local) Refusal
answers_brk (value, task) shared = Ok (value, (task, shared))

abbrev pub plain_row : Time → ℕ → PlainCall → List ℕ → Local → Result (ℕ × Local) Refusal
plain_row now process plain.Eventfd2 args s = eventfd2 (arg args 0) (arg args 1) s
plain_row now process plain.EpollCreate args s = epoll_create1 (arg args 0) s
plain_row now process plain.EpollCtl args s = epoll_ctl (arg args 0) (arg args 1) (arg args 2) (arg args 3) s
plain_row now process plain.Fcntl args s = fcntl (arg args 0) (arg args 1) (arg args 2) s
plain_row now process plain.Openat args s = openat (arg args 1) (arg args 2) s
plain_row now process plain.Pipe2 args s = pipe2 (arg args 0) (arg args 1) s
plain_row now process plain.TimerfdCreate args s = timerfd_create (arg args 0) (arg args 1) s
plain_row now process plain.Getpid args s = Ok (getpid process, s)
plain_row now process plain.Setsockopt args s = setsockopt (arg args 0) (arg args 1) (arg args 2) (arg args 3) (arg args 4) s
plain_row now process plain.Brk args (task, shared) = answers_brk (brk (arg args 0) task) shared
plain_row now process plain.Getrandom args s = getrandom (arg args 0) (arg args 1) (arg args 2) s
plain_row now process plain.ClockGettime args s = clock_gettime now (arg args 0) (arg args 1) s
plain_row now process plain.TimerfdSettime args s = timerfd_settime now (arg args 0) (arg args 1) (arg args 2) (arg args 3) s
