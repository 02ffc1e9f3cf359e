-- Calls that need no sockets and never wait.
use Rattle.std.proofs.Common.{ℕ, zero, suc, ◌+◌, Bool, List, Ok, refl, nat_lt}
use Rattle.sim_base.specs.declared.errno.Errno.TheVariants.{Efault, Einval}
use Rattle.sim_base.specs.declared.time.Time.{Time}
use Rattle.sim_base.specs.Refusals.{◌>>=◌, ◌>>◌, refuse_if, or_refuse}
use Rattle.guest_mem.specs.Memory.{Memory}
use Rattle.host_files.specs.declared.file.Object.{Object}
use Rattle.host_files.specs.declared.file.Object.TheVariants as kind
use Rattle.host_wants.specs.declared.error.Refusal.TheVariants as refusal
use Rattle.call_parts.specs.declared.call.PlainCall.{PlainCall}
use Rattle.call_parts.specs.declared.call.PlainCall.TheVariants as plain
use Rattle.file_calls.specs.declared.descriptors.Descriptor.{Descriptor}
use Rattle.file_calls.specs.declared.task.Task.{Task}
use Rattle.file_calls.specs.declared.task.Shared.{Shared}
use Rattle.guest_args.specs.Span.{span}
use Rattle.guest_args.specs.Time.{timespec}
use Rattle.host_timers.specs.declared.clock.Moment.{Moment}
use Rattle.file_calls.specs.declared.times.Setting.{Setting}
use Rattle.call_parts.specs.Plain.{arg, plain_row}
use Rattle.file_calls.specs.declared.controlling.Operation.{Operation}
use Rattle.file_calls.specs.declared.controlling.Operation.TheVariants as operation
use Rattle.host_files.specs.Epolls.{epoll_at}
use Rattle.file_calls.specs.EpollControl.{epoll_create1, watched, operation_of, may_watch, watch_at, change_of, has_entry, ctl_asked, epoll_ctl}
use Rattle.file_calls.specs.Eventfd.{eventfd2}
use Rattle.file_calls.specs.Files.{fcntl, fcntl_by, length_from, openat, pipe2_asked, pipe2}
use Rattle.file_calls.specs.Guest.{getrandom}
use Rattle.file_calls.specs.Scene.{Local}
use Rattle.call_parts.specs.Sockets.{setsockopt}
use Rattle.file_calls.specs.Times.{clock_gettime, timerfd_create, timer_number, old_timer, settime_asked, timerfd_settime}
use Rattle.call_laws.proofs.Waits.{Never, nevers, epoll_number_never, never_bind, never_then, never_or_refuse, never_refuse_if}

fcntl_by_never : (command flags : ℕ) (d : Descriptor) (s : Local) → Never (fcntl_by command flags d s)
fcntl_by_never command flags d (task, shared) = search nevers

fcntl_never : (fd command flags : ℕ) (task : Task) (shared : Shared) → Never (fcntl fd command flags (task, shared))
fcntl_never fd command flags task shared = search (nevers, fcntl_by_never)

length_from_never : (count left at : ℕ) (memory : Memory) → Never (length_from count left at memory)
unfolding length_from
length_from_never count zero at memory = refl
length_from_never count (suc left) at memory = search (nevers, length_from_never (count + 1) left at memory)

openat_never : (path flags : ℕ) (task : Task) (shared : Shared) → Never (openat path flags (task, shared))
openat_never path flags task shared = search (nevers, length_from_never)

pipe2_asked_never : (at flags : ℕ) (task : Task) → Never (pipe2_asked at flags task)
pipe2_asked_never at flags task = search nevers depth 8

pipe2_never : (at flags : ℕ) (task : Task) (shared : Shared) → Never (pipe2 at flags (task, shared))
pipe2_never at flags task shared = never_bind (pipe2_asked at flags task) _ (pipe2_asked_never at flags task) (λ fds. refl)

timerfd_create_never : (clock flags : ℕ) (task : Task) (shared : Shared) → Never (timerfd_create clock flags (task, shared))
timerfd_create_never clock flags task shared = search nevers

eventfd2_never : (count flags : ℕ) (task : Task) (shared : Shared) → Never (eventfd2 count flags (task, shared))
eventfd2_never count flags task shared = search nevers

epoll_create1_never : (flags : ℕ) (task : Task) (shared : Shared) → Never (epoll_create1 flags (task, shared))
epoll_create1_never flags task shared = search nevers

watched_never : (epfd fd : ℕ) (task : Task) (shared : Shared) → Never (watched epfd fd (task, shared))
watched_never epfd fd task shared = search (nevers, epoll_number_never) depth 8

operation_of_never : (op : ℕ) → Never (operation_of op)
operation_of_never op = search nevers

may_watch_never : (object : Object) → Never (may_watch object)
may_watch_never kind.Input = refl
may_watch_never kind.Output = refl
may_watch_never kind.Errors = refl
may_watch_never (kind.Hosts read) = refl
may_watch_never (kind.ReadEnd k) = refl
may_watch_never (kind.WriteEnd k) = refl
may_watch_never (kind.Timer k) = refl
may_watch_never (kind.Eventfd k) = refl
may_watch_never (kind.Epoll k) = refl
may_watch_never (kind.Udp k) = refl
may_watch_never (kind.Tcp k) = refl

watch_at_never : (fd at : ℕ) (memory : Memory) → Never (watch_at fd at memory)
watch_at_never fd at memory = search nevers

change_of_never : (does : Operation) (fd at : ℕ) (there : Bool) (memory : Memory) → Never (change_of does fd at there memory)
change_of_never operation.Add fd at there memory = search (nevers, watch_at_never)
change_of_never operation.Modify fd at there memory = search (nevers, watch_at_never)
change_of_never operation.Delete fd at there memory = search nevers

ctl_asked_never : (epfd op fd at : ℕ) (task : Task) (shared : Shared) → Never (ctl_asked epfd op fd at (task, shared))
ctl_asked_never epfd op fd at task shared =
    never_bind (watched epfd fd (task, shared)) _ (watched_never epfd fd task shared)
    (λ (place, object). never_bind (operation_of op) _ (operation_of_never op)
    (λ does. never_then (may_watch object) _ (may_watch_never object)
    (never_bind (change_of does fd at (has_entry fd (epoll_at place task.epolls)) task.memory) _ (change_of_never does fd at _ task.memory) (λ change. refl))))

epoll_ctl_never : (epfd op fd at : ℕ) (task : Task) (shared : Shared) → Never (epoll_ctl epfd op fd at (task, shared))
epoll_ctl_never epfd op fd at task shared = never_bind (ctl_asked epfd op fd at (task, shared)) _ (ctl_asked_never epfd op fd at task shared) (λ c. refl)

setsockopt_never : (fd level option at n : ℕ) (task : Task) (shared : Shared) → Never (setsockopt fd level option at n (task, shared))
setsockopt_never fd level option at n task shared = search nevers

getrandom_never : (at n flags : ℕ) (task : Task) (shared : Shared) → Never (getrandom at n flags (task, shared))
getrandom_never at n flags task shared = search nevers

clock_gettime_never : (now : Time) (clock at : ℕ) (task : Task) (shared : Shared) → Never (clock_gettime now clock at (task, shared))
clock_gettime_never now clock at task shared = search nevers

timer_number_never : (object : Object) → Never (timer_number object)
timer_number_never kind.Input = refl
timer_number_never kind.Output = refl
timer_number_never kind.Errors = refl
timer_number_never (kind.Hosts read) = refl
timer_number_never (kind.ReadEnd k) = refl
timer_number_never (kind.WriteEnd k) = refl
timer_number_never (kind.Timer k) = refl
timer_number_never (kind.Eventfd k) = refl
timer_number_never (kind.Epoll k) = refl
timer_number_never (kind.Udp k) = refl
timer_number_never (kind.Tcp k) = refl

abbrev setting : Moment → Moment → Setting
setting interval value = record { interval = interval; value = value }

old_timer_never : (now : Time) (fd : ℕ) (task : Task) (shared : Shared) → Never (old_timer now fd task shared.files)
old_timer_never now fd task shared = search (nevers, timer_number_never)

settime_values_never : (bytes : List ℕ) (writable : Bool) → Never (refuse_if writable (refusal.Errno Efault) >> (or_refuse (timespec 0 bytes) (refusal.Errno Einval)
    >>= λ interval. or_refuse (timespec 16 bytes) (refusal.Errno Einval) >>= λ value. Ok (setting interval value)))
settime_values_never bytes writable = search nevers

settime_asked_never : (flags at old_at : ℕ) (task : Task) → Never (settime_asked flags at old_at task)
settime_asked_never flags at old_at task =
    never_then (refuse_if (nat_lt 1 flags) (refusal.Errno Einval)) _ (never_refuse_if (nat_lt 1 flags) Einval)
    (never_bind (or_refuse (span 32 at task.memory) (refusal.Errno Efault)) _ (never_or_refuse (span 32 at task.memory) Efault) (λ bytes. settime_values_never bytes _))

timerfd_settime_never : (now : Time) (fd flags at old_at : ℕ) (task : Task) (shared : Shared) → Never (timerfd_settime now fd flags at old_at (task, shared))
timerfd_settime_never now fd flags at old_at task shared =
    never_bind (old_timer now fd task shared.files) _ (old_timer_never now fd task shared)
    (λ old. never_bind (settime_asked flags at old_at task) _ (settime_asked_never flags at old_at task) (λ s. refl))

pub plain_never : (now : Time) (process : ℕ) (p : PlainCall) (args : List ℕ) (task : Task) (shared : Shared) → Never (plain_row now process p args (task, shared))
plain_never now process plain.Eventfd2 args task shared = eventfd2_never (arg args 0) (arg args 1) task shared
plain_never now process plain.EpollCreate args task shared = epoll_create1_never (arg args 0) task shared
plain_never now process plain.EpollCtl args task shared = epoll_ctl_never (arg args 0) (arg args 1) (arg args 2) (arg args 3) task shared
plain_never now process plain.Fcntl args task shared = fcntl_never (arg args 0) (arg args 1) (arg args 2) task shared
plain_never now process plain.Openat args task shared = openat_never (arg args 1) (arg args 2) task shared
plain_never now process plain.Pipe2 args task shared = pipe2_never (arg args 0) (arg args 1) task shared
plain_never now process plain.TimerfdCreate args task shared = timerfd_create_never (arg args 0) (arg args 1) task shared
plain_never now process plain.Getpid args task shared = refl
plain_never now process plain.Setsockopt args task shared = setsockopt_never (arg args 0) (arg args 1) (arg args 2) (arg args 3) (arg args 4) task shared
plain_never now process plain.Brk args task shared = refl
plain_never now process plain.Getrandom args task shared = getrandom_never (arg args 0) (arg args 1) (arg args 2) task shared
plain_never now process plain.ClockGettime args task shared = clock_gettime_never now (arg args 0) (arg args 1) task shared
plain_never now process plain.TimerfdSettime args task shared = timerfd_settime_never now (arg args 0) (arg args 1) (arg args 2) (arg args 3) task shared
