-- rows that need no sockets: they want no packets
use Rattle.std.proofs.Common.{◌≡◌, ℕ, zero, suc, ◌+◌, ◌==◌, not, List, Result, Ok, Err, nat_lt, refl, ap, subst}
use Rattle.sim_base.specs.declared.alarm.AlarmTarget.TheVariants.{Timer}
use Rattle.sim_base.specs.Refusals.{◌>>=◌, ◌>>◌, refuse_if, or_refuse}
use Rattle.sim_base.specs.declared.errno.Errno.TheVariants.{Efault, Einval}
use Rattle.sim_base.specs.declared.time.Time.{Time}
use Rattle.host_files.specs.declared.file.Object.{Object}
use Rattle.host_files.specs.declared.file.Object.TheVariants as kind
use Rattle.guest_args.specs.Span.{can_write}
use Rattle.guest_args.specs.Time.{timespec_of, timespec_size}
use Rattle.host_timers.specs.Clock.{clock_at}
use Rattle.host_files.specs.Files.{next_pipe, next_timer, next_eventfd}
use Rattle.tcp_laws.proofs.Tests.{by_test}
use Rattle.host_wants.specs.declared.error.Refusal.{Refusal}
use Rattle.host_wants.specs.declared.error.Refusal.TheVariants.{Errno}
use Rattle.host_wants.specs.Wanted.{Wanted, draws_word}
use Rattle.call_parts.specs.declared.call.PlainCall.{PlainCall}
use Rattle.call_parts.specs.declared.call.PlainCall.TheVariants as plain
use Rattle.file_calls.specs.declared.descriptors.Descriptor.{Descriptor}
use Rattle.file_calls.specs.declared.task.Task.{Task}
use Rattle.file_calls.specs.declared.transfer.Transfer.{Transfer}
use Rattle.file_calls.specs.declared.task.Shared.{Shared}
use Rattle.file_calls.specs.declared.times.OldTimer.{OldTimer}
use Rattle.file_calls.specs.declared.times.Setting.{Setting}
use Rattle.file_calls.specs.Flags.{o_nonblock, has}
use Rattle.file_calls.specs.Numbers.{f_getfd, f_setfd, f_getfl, f_setfl, grnd_nonblock, grnd_random}
use Rattle.file_calls.specs.Scene.{Local, tell_memory}
use Rattle.file_calls.specs.Descriptors.{descriptor, opens}
use Rattle.file_calls.specs.Files.{fcntl_by, fcntl, hosts_file, openat_asked, openat, ends_bytes, with_ends, pipe2_asked, pipe2, is_read_by, reads, after_write, writes}
use Rattle.host_files.specs.Epolls.{next_epoll}
use Rattle.file_calls.specs.EpollControl.{epoll_asked, epoll_file, new_epoll, epoll_create1, ctl_asked, controlled, epoll_ctl}
use Rattle.file_calls.specs.Eventfd.{eventfd_asked, eventfd_file, new_eventfd, eventfd2}
use Rattle.file_calls.specs.Guest.{getpid, brk, words, words_in, random_count, random_told, getrandom}
use Rattle.call_parts.specs.Sockets.{setsockopt_asked, setsockopt}
use Rattle.file_calls.specs.Times.{at_nanos, clock_gettime, timer_file, new_timer, create_asked, timerfd_create, sets, set_by, old_timer, tell_setting, settime_asked, timerfd_settime}
use Rattle.call_parts.specs.Plain.{arg, plain_row}
use Rattle.socket_laws.specs.Histories.{left_by}
use Rattle.socket_streams.specs.Records.{packets_of}
use Rattle.socket_streams.proofs.Wants.{alarm_packets}

-- whatever a row leaves wants the same packets
pub record Rests {A : Type 0} (w : Wanted) (row : Result (A × Local) Refusal) : Type 0 where
  pub rests : (a : A) (s : Local) → row ≡ Ok (a, s) → packets_of s.1.outlet ≡ packets_of w

pub answers_rest : {A : Type 0} (w : Wanted) (a : A) (s : Local) → packets_of s.1.outlet ≡ packets_of w → Rests w (Ok (a, s))
answers_rest {A} w a s e = record {
  rests = λ b after k.
      subst (λ (x : Local). packets_of x.1.outlet ≡ packets_of w) (ap (λ (r : Result (A × Local) Refusal). left_by r s) k) e;
}

pub refused_rests : {A : Type 0} (w : Wanted) (why : Refusal) → Rests {A = A} w (Err why)
refused_rests w why = record { rests = λ b after k. cc }

pub asks_rests : {A B : Type 0} (w : Wanted) (asked : Result B Refusal) (f : B → Result (A × Local) Refusal) → ((b : B) → Rests w (f b)) → Rests w (asked >>= f)
asks_rests w (Ok b) f h = h b
asks_rests w (Err why) f h = refused_rests w why

pub tries_rests : {A B : Type 0} (w : Wanted) (asked : Result B Refusal) (rest : Result (A × Local) Refusal) → Rests w rest → Rests w (asked >> rest)
tries_rests w (Ok b) rest h = h
tries_rests w (Err why) rest h = refused_rests w why

-- fcntl(2)
fcntl_rests : (command flags : ℕ) (d : Descriptor) (task : Task) (shared : Shared) → Rests shared.outlet (fcntl_by command flags d (task, shared))
fcntl_rests command flags d task shared =
    by_test (Rests shared.outlet) (command == f_getfd) _ _
    (λ e. answers_rest shared.outlet _ _ refl)
    (λ e. by_test (Rests shared.outlet) (command == f_setfd) _ _
    (λ k. answers_rest shared.outlet _ _ refl)
    (λ k. by_test (Rests shared.outlet) (command == f_getfl) _ _
    (λ m. answers_rest shared.outlet _ _ refl)
    (λ m. by_test (Rests shared.outlet) (command == f_setfl) _ _
    (λ n. answers_rest shared.outlet _ _ refl)
    (λ n. refused_rests shared.outlet _))))

-- getrandom(2): words are drawn
words_packets : (count : ℕ) (w : Wanted) → packets_of (words count w).1 ≡ packets_of w
words_packets zero w = refl
words_packets (suc count) w = words_packets count (draws_word w).1

-- timerfd_settime(2): an alarm is wanted
sets_packets : (now : Time) (k old first interval : ℕ) (shared : Shared) → packets_of (sets now k old first interval shared).outlet ≡ packets_of shared.outlet
sets_packets now k old first interval shared =
    by_test (λ (x : Shared). packets_of x.outlet ≡ packets_of shared.outlet) (first == 0) _ _
    (λ e. refl)
    (λ e. alarm_packets (Timer k) (at_nanos first) shared.outlet)

set_by_packets : (now : Time) (flags : ℕ) (old : OldTimer) (setting : Setting) (shared : Shared) → packets_of (set_by now flags old setting shared).outlet ≡ packets_of shared.outlet
set_by_packets now flags old setting shared = sets_packets now old.place old.serial _ _ shared

-- read(2) and write(2) where no socket is meant
read_rests_by : (text : List ℕ) (now : Time) (d : Descriptor) (object : Object) (at count : ℕ) (task : Task) (shared : Shared) → packets_of (is_read_by text now d object at count (task, shared)).1.1.outlet ≡ packets_of shared.outlet
read_rests_by text now d kind.Input at count task shared = refl
read_rests_by text now d kind.Output at count task shared = refl
read_rests_by text now d kind.Errors at count task shared = refl
read_rests_by text now d (kind.Hosts read) at count task shared = refl
read_rests_by text now d (kind.ReadEnd k) at count task shared = refl
read_rests_by text now d (kind.WriteEnd k) at count task shared = refl
read_rests_by text now d (kind.Timer k) at count task shared = refl
read_rests_by text now d (kind.Eventfd k) at count task shared = refl
read_rests_by text now d (kind.Epoll k) at count task shared = refl
read_rests_by text now d (kind.Udp k) at count task shared = refl
read_rests_by text now d (kind.Tcp k) at count task shared = refl

pub reads_rest : (text : List ℕ) (now : Time) (t : Transfer) (task : Task) (shared : Shared) → Rests shared.outlet (reads text now t (task, shared))
reads_rest text now t task shared = answers_rest shared.outlet _ _ (read_rests_by text now t.d t.d.file.object t.at _ task shared)

write_rests_by : (process : ℕ) (bytes : List ℕ) (object : Object) (shared : Shared) → packets_of (after_write process bytes object shared).outlet ≡ packets_of shared.outlet
write_rests_by process bytes kind.Input shared = refl
write_rests_by process bytes kind.Output shared = refl
write_rests_by process bytes kind.Errors shared = refl
write_rests_by process bytes (kind.Hosts read) shared = refl
write_rests_by process bytes (kind.ReadEnd k) shared = refl
write_rests_by process bytes (kind.WriteEnd k) shared = refl
write_rests_by process bytes (kind.Timer k) shared = refl
write_rests_by process bytes (kind.Eventfd k) shared = refl
write_rests_by process bytes (kind.Epoll k) shared = refl
write_rests_by process bytes (kind.Udp k) shared = refl
write_rests_by process bytes (kind.Tcp k) shared = refl

pub writes_rest : (process : ℕ) (t : Transfer) (task : Task) (shared : Shared) → Rests shared.outlet (writes process t (task, shared))
writes_rest process t task shared =
    asks_rests shared.outlet _ _ (λ bytes. answers_rest shared.outlet _ _ (write_rests_by process bytes t.d.file.object shared))

-- the other plain calls
fcntl_rows : (fd command flags : ℕ) (task : Task) (shared : Shared) → Rests shared.outlet (fcntl fd command flags (task, shared))
fcntl_rows fd command flags task shared =
    asks_rests shared.outlet (descriptor fd task shared.files) (λ d. fcntl_by command flags d (task, shared)) (λ d. fcntl_rests command flags d task shared)

openat_rests : (path flags : ℕ) (task : Task) (shared : Shared) → Rests shared.outlet (openat path flags (task, shared))
openat_rests path flags task shared =
    asks_rests shared.outlet (openat_asked path flags task) (λ fd. Ok (fd, opens fd hosts_file (task, shared))) (λ fd. answers_rest shared.outlet fd (opens fd hosts_file (task, shared)) refl)

pipe2_rests : (at flags : ℕ) (task : Task) (shared : Shared) → Rests shared.outlet (pipe2 at flags (task, shared))
pipe2_rests at flags task shared =
    asks_rests shared.outlet (pipe2_asked at flags task) _ (λ fds. answers_rest shared.outlet 0 (tell_memory at (ends_bytes fds) (with_ends fds (has o_nonblock flags) (next_pipe shared.files) (task, shared))) refl)

create_rests : (clock flags : ℕ) (task : Task) (shared : Shared) → Rests shared.outlet (timerfd_create clock flags (task, shared))
create_rests clock flags task shared =
    asks_rests shared.outlet (create_asked clock flags task) _ (λ fd. answers_rest shared.outlet fd (opens fd (timer_file (has o_nonblock flags) (next_timer shared.files)) (new_timer clock (task, shared))) refl)

setsockopt_rests : (fd level option at n : ℕ) (task : Task) (shared : Shared) → Rests shared.outlet (setsockopt fd level option at n (task, shared))
setsockopt_rests fd level option at n task shared =
    tries_rests shared.outlet (setsockopt_asked fd level option at n (task, shared)) (Ok (0, (task, shared))) (answers_rest shared.outlet 0 (task, shared) refl)

getrandom_rests : (at n flags : ℕ) (task : Task) (shared : Shared) → Rests shared.outlet (getrandom at n flags (task, shared))
getrandom_rests at n flags task shared =
    let count = random_count n in
    let drawn = random_told at count (words (words_in count) shared.outlet) (task, shared) in
    tries_rests shared.outlet (refuse_if (nat_lt (grnd_nonblock + grnd_random) flags) (Errno Einval)) _
    (tries_rests shared.outlet (refuse_if (not (can_write count at task.memory)) (Errno Efault)) (Ok (count, drawn))
    (answers_rest shared.outlet count drawn (words_packets (words_in count) shared.outlet)))

gettime_rests : (now : Time) (clock at : ℕ) (task : Task) (shared : Shared) → Rests shared.outlet (clock_gettime now clock at (task, shared))
gettime_rests now clock at task shared =
    asks_rests shared.outlet (or_refuse (clock_at clock now.nanos) (Errno Einval)) _
    (λ moment. tries_rests shared.outlet (refuse_if (not (can_write timespec_size at task.memory)) (Errno Efault)) _
    (answers_rest shared.outlet 0 (tell_memory at (timespec_of moment) (task, shared)) refl))

eventfd_rests : (count flags : ℕ) (task : Task) (shared : Shared) → Rests shared.outlet (eventfd2 count flags (task, shared))
eventfd_rests count flags task shared =
    asks_rests shared.outlet (eventfd_asked flags task) _ (λ fd. answers_rest shared.outlet fd (opens fd (eventfd_file flags (next_eventfd shared.files)) (new_eventfd count flags (task, shared))) refl)

epoll_create_rests : (flags : ℕ) (task : Task) (shared : Shared) → Rests shared.outlet (epoll_create1 flags (task, shared))
epoll_create_rests flags task shared =
    asks_rests shared.outlet (epoll_asked flags task) _ (λ fd. answers_rest shared.outlet fd (opens fd (epoll_file (next_epoll task.epolls)) (new_epoll (task, shared))) refl)

epoll_ctl_rests : (epfd op fd at : ℕ) (task : Task) (shared : Shared) → Rests shared.outlet (epoll_ctl epfd op fd at (task, shared))
epoll_ctl_rests epfd op fd at task shared =
    asks_rests shared.outlet (ctl_asked epfd op fd at (task, shared)) _ (λ c. answers_rest shared.outlet 0 (controlled c (task, shared)) refl)

settime_rests : (now : Time) (fd flags at old_at : ℕ) (task : Task) (shared : Shared) → Rests shared.outlet (timerfd_settime now fd flags at old_at (task, shared))
settime_rests now fd flags at old_at task shared =
    asks_rests shared.outlet (old_timer now fd task shared.files) _
    (λ old. asks_rests shared.outlet (settime_asked flags at old_at task) _
    (λ setting. answers_rest shared.outlet 0 (tell_setting old_at old.setting (task, set_by now flags old setting shared)) (set_by_packets now flags old setting shared)))

-- each of the plain calls
pub plain_rests : (now : Time) (process : ℕ) (call : PlainCall) (args : List ℕ) (task : Task) (shared : Shared) → Rests shared.outlet (plain_row now process call args (task, shared))
plain_rests now process plain.Eventfd2 args task shared = eventfd_rests (arg args 0) (arg args 1) task shared
plain_rests now process plain.EpollCreate args task shared = epoll_create_rests (arg args 0) task shared
plain_rests now process plain.EpollCtl args task shared = epoll_ctl_rests (arg args 0) (arg args 1) (arg args 2) (arg args 3) task shared
plain_rests now process plain.Fcntl args task shared = fcntl_rows (arg args 0) (arg args 1) (arg args 2) task shared
plain_rests now process plain.Openat args task shared = openat_rests (arg args 1) (arg args 2) task shared
plain_rests now process plain.Pipe2 args task shared = pipe2_rests (arg args 0) (arg args 1) task shared
plain_rests now process plain.TimerfdCreate args task shared = create_rests (arg args 0) (arg args 1) task shared
plain_rests now process plain.Getpid args task shared = answers_rest shared.outlet (getpid process) (task, shared) refl
plain_rests now process plain.Setsockopt args task shared =
    setsockopt_rests (arg args 0) (arg args 1) (arg args 2) (arg args 3) (arg args 4) task shared
plain_rests now process plain.Brk args task shared =
    answers_rest shared.outlet (brk (arg args 0) task).0 ((brk (arg args 0) task).1, shared) refl
plain_rests now process plain.Getrandom args task shared = getrandom_rests (arg args 0) (arg args 1) (arg args 2) task shared
plain_rests now process plain.ClockGettime args task shared = gettime_rests now (arg args 0) (arg args 1) task shared
plain_rests now process plain.TimerfdSettime args task shared =
    settime_rests now (arg args 0) (arg args 1) (arg args 2) (arg args 3) task shared
