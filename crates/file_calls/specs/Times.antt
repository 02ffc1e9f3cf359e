-- clock_gettime(2), clock_nanosleep(2), timerfd_create(2) and timerfd_settime(2).
use Rattle.std.specs.Prelude.{ℕ, ◌+◌, ◌-◌, ◌==◌, ◌&&◌, ◌||◌, Bool, not, max, List, ◌++◌, Option, Some, None, Result, Ok, Err, nat_lt, unwrap_or, if◌then◌else◌}
use Rattle.sim_base.specs.declared.alarm.AlarmTarget.TheVariants.{Timer}
use Rattle.sim_base.specs.declared.errno.Errno.TheVariants.{Ebadf, Efault, Einval, Emfile}
use Rattle.sim_base.specs.declared.time.Time.{Time}
use Rattle.sim_base.specs.Refusals.{◌>>=◌, ◌>>◌, refuse_if, or_refuse}
use Rattle.guest_mem.specs.Memory.{Memory}
use Rattle.guest_args.specs.Span.{span, can_write, filled}
use Rattle.guest_args.specs.Time.{timespec, timespec_of, time_span, deadline_after, deadline_at, timespec_size}
use Rattle.host_timers.specs.declared.clock.Moment.{Moment}
use Rattle.host_timers.specs.Clock.{moment_of, clock_at, clock_monotonic}
use Rattle.host_timers.specs.Timer.{TimerState, next_due}
use Rattle.host_files.specs.declared.file.File.{File}
use Rattle.host_files.specs.declared.file.Object.{Object}
use Rattle.host_files.specs.declared.file.Object.TheVariants as kind
use Rattle.host_files.specs.declared.timer.KeptTimer.{KeptTimer}
use Rattle.host_files.specs.Files.{FilesState, next_timer, with_timer, timer_at, timer_set, timer_serial}
use Rattle.host_wants.specs.declared.error.Refusal.{Refusal}
use Rattle.host_wants.specs.declared.error.Refusal.TheVariants.{Errno, Wait}
use Rattle.host_wants.specs.Wanted.{Wanted, wants_alarm}
use Rattle.file_calls.specs.declared.task.Task.{Task}
use Rattle.file_calls.specs.declared.task.Shared.{Shared}
use Rattle.file_calls.specs.declared.task.Why.{Why}
use Rattle.file_calls.specs.declared.times.OldTimer.{OldTimer}
use Rattle.file_calls.specs.declared.times.Setting.{Setting}
use Rattle.file_calls.specs.Flags.{o_nonblock, has, beside_open}
use Rattle.file_calls.specs.Numbers.{timer_abstime, itimerspec_size}
use Rattle.file_calls.specs.Scene.{Local, tell_memory}
use Rattle.file_calls.specs.Descriptors.{lowest_free, descriptor, opens}

-- clock_gettime(2)
abbrev pub clock_gettime : Time → ℕ → ℕ → Local → Result (ℕ × Local) Refusal
clock_gettime now clock at (task, shared) = do
  moment ← or_refuse (clock_at clock now.nanos) (Errno Einval)
  refuse_if (not (can_write timespec_size at task.memory)) (Errno Efault)
  Ok (0, tell_memory at (timespec_of moment) (task, shared))

abbrev pub at_nanos : ℕ → Time
at_nanos nanos = record { nanos = nanos }

-- a time that is relative, or absolute (TIMER_ABSTIME) on a clock
abbrev pub deadline_of : ℕ → ℕ → Time → Moment → ℕ
deadline_of flags clock now time = if flags == 0 then deadline_after now.nanos time else deadline_at clock time

-- a call that is made again keeps its first deadline
abbrev pub kept_or : Option Why → Time → Time
kept_or None computed = computed
kept_or (Some why) computed = unwrap_or why.deadline computed

-- clock_nanosleep(2): it waits while its deadline is to come
abbrev pub sleep_time : ℕ → ℕ → ℕ → Task → Result Moment Refusal
sleep_time clock flags at task = do
  refuse_if (nat_lt clock_monotonic clock || nat_lt timer_abstime flags) (Errno Einval)
  bytes ← or_refuse (span timespec_size at task.memory) (Errno Efault)
  or_refuse (timespec 0 bytes) (Errno Einval)

abbrev pub sleep_asked : Time → ℕ → ℕ → ℕ → Task → Result (Unit {0}) Refusal
sleep_asked now clock flags at task = do
  time ← sleep_time clock flags at task
  let deadline = kept_or task.kept (at_nanos (deadline_of flags clock now time))
  refuse_if (nat_lt now.nanos deadline.nanos) (Wait (Some deadline))

-- timerfd_create(2)
abbrev pub timer_file : Bool → ℕ → File
timer_file nonblocking k = record { nonblocking = nonblocking; object = kind.Timer k }

abbrev pub new_timer : ℕ → Local → Local
new_timer clock (task, shared) = (task, record shared { files = with_timer clock shared.files })

abbrev pub create_asked : ℕ → ℕ → Task → Result ℕ Refusal
create_asked clock flags task = do
  refuse_if (nat_lt clock_monotonic clock) (Errno Einval)
  refuse_if (not (beside_open flags == 0)) (Errno Einval)
  or_refuse (lowest_free task.table) (Errno Emfile)

abbrev pub timerfd_create : ℕ → ℕ → Local → Result (ℕ × Local) Refusal
timerfd_create clock flags (task, shared) = do
  fd ← create_asked clock flags task
  Ok (fd, opens fd (timer_file (has o_nonblock flags) (next_timer shared.files)) (new_timer clock (task, shared)))

-- timerfd_settime(2): a first expiry of 0 turns the timer off; another one that has passed counts as the next nanosecond
abbrev pub is_zero : Moment → Bool
is_zero time = time.seconds == 0 && time.nanos == 0

abbrev pub first_expiry : ℕ → ℕ → Time → Moment → ℕ
first_expiry flags clock now value = if is_zero value then 0 else max (deadline_of flags clock now value) (now.nanos + 1)

-- a timer that is on has an alarm at its first expiry
abbrev pub with_serial : Time → ℕ → ℕ → ℕ → ℕ × Wanted → Shared → Shared
with_serial now k first interval (serial, wanted) shared =
    record shared { files = timer_set now.nanos first interval serial k shared.files; outlet = wanted }

abbrev pub sets : Time → ℕ → ℕ → ℕ → ℕ → Shared → Shared
sets now k old first interval shared =
    if first == 0
    then record shared { files = timer_set now.nanos 0 interval old k shared.files }
    else with_serial now k first interval (wants_alarm (Timer k) (at_nanos first) shared.outlet) shared

-- the old interval, and the time to the next expiry
abbrev pub time_left : Time → Option ℕ → ℕ
time_left now None = 0
time_left now (Some due) = due - now.nanos

abbrev pub setting_of : Time → TimerState → List ℕ
setting_of now t = timespec_of (moment_of t.interval) ++ timespec_of (moment_of (time_left now (next_due t now.nanos)))

-- a null pointer means that the old setting isn't wanted
abbrev pub with_setting : ℕ → List ℕ → Memory → Memory
with_setting at bytes memory = if at == 0 then memory else filled at bytes memory

abbrev pub tell_setting : ℕ → List ℕ → Local → Local
tell_setting at bytes (task, shared) = (record task { memory = with_setting at bytes task.memory }, shared)

abbrev pub timer_number : Object → Result ℕ Refusal
timer_number (kind.Timer k) = Ok k
timer_number _ = Err (Errno Einval)

-- the timer that a descriptor names, as it is
abbrev pub old_timer : Time → ℕ → Task → FilesState → Result OldTimer Refusal
old_timer now fd task files = do
  d ← descriptor fd task files
  k ← timer_number d.file.object
  t ← or_refuse (timer_at k files) (Errno Ebadf)
  Ok (record { place = k; clock = t.clock; serial = t.serial; setting = setting_of now t.timer })

-- how it is set
abbrev pub settime_asked : ℕ → ℕ → ℕ → Task → Result Setting Refusal
settime_asked flags at old_at task = do
  refuse_if (nat_lt timer_abstime flags) (Errno Einval)
  bytes ← or_refuse (span itimerspec_size at task.memory) (Errno Efault)
  refuse_if (not (old_at == 0 || can_write itimerspec_size old_at task.memory)) (Errno Efault)
  interval ← or_refuse (timespec 0 bytes) (Errno Einval)
  value ← or_refuse (timespec timespec_size bytes) (Errno Einval)
  Ok (record { interval = interval; value = value })

abbrev pub set_by : Time → ℕ → OldTimer → Setting → Shared → Shared
set_by now flags old setting shared =
    sets now old.place old.serial (first_expiry flags old.clock now setting.value) (time_span setting.interval) shared

abbrev pub timerfd_settime : Time → ℕ → ℕ → ℕ → ℕ → Local → Result (ℕ × Local) Refusal
timerfd_settime now fd flags at old_at (task, shared) = do
  old ← old_timer now fd task shared.files
  setting ← settime_asked flags at old_at task
  Ok (0, tell_setting old_at old.setting (task, set_by now flags old setting shared))

abbrev pub rung : ℕ → ℕ × Wanted → Shared → Shared
rung k (serial, wanted) shared = record shared { files = timer_serial serial k shared.files; outlet = wanted }

-- the alarm of a timer: one at its next expiry follows. A stale serial does nothing
abbrev pub rings_at : ℕ → Option ℕ → Shared → Shared
rings_at k None shared = shared
rings_at k (Some due) shared = rung k (wants_alarm (Timer k) (at_nanos due) shared.outlet) shared

abbrev pub next_ring : Time → ℕ → Option KeptTimer → Option ℕ
next_ring now serial None = None
next_ring now serial (Some t) = if t.serial == serial then next_due t.timer now.nanos else None

abbrev pub rings : Time → ℕ → ℕ → Shared → Shared
rings now k serial shared = rings_at k (next_ring now serial (timer_at k shared.files)) shared
