-- The entries of a ppoll(2), and its deadline.
use Rattle.std.specs.Prelude.{ℕ, ◌+◌, ◌==◌, Bool, false, not, List, ◌++◌, take, drop, Option, Some, None, Result, Ok, nat_le, if◌then◌else◌}
use Rattle.std.specs.Int.{w16, w32, from_le_bytes, to_le_bytes}
use Rattle.sim_base.specs.declared.errno.Errno.TheVariants.{Efault, Einval}
use Rattle.sim_base.specs.declared.time.Time.{Time}
use Rattle.sim_base.specs.Refusals.{◌>>=◌, ◌>>◌, refuse_if, or_refuse}
use Rattle.guest_mem.specs.Memory.{Memory}
use Rattle.guest_args.specs.Span.{span, can_write, int_size}
use Rattle.guest_args.specs.Time.{timespec, deadline_after, timespec_size}
use Rattle.host_timers.specs.declared.clock.Moment.{Moment}
use Rattle.host_wants.specs.declared.error.Refusal.{Refusal}
use Rattle.host_wants.specs.declared.error.Refusal.TheVariants.{Errno}
use Rattle.file_calls.specs.declared.task.Task.{Task}
use Rattle.file_calls.specs.Times.{at_nanos, kept_or}

-- the bytes of an entry: the descriptor, the events that are asked for, and those that came
abbrev pub entry_size : ℕ
entry_size = 8

-- the most entries of a call (this project's own profile)
abbrev pub max_entries : ℕ
max_entries = 256

abbrev pub asked_fd : List ℕ → ℕ
asked_fd entry = from_le_bytes w32 (take int_size entry)

abbrev pub asked_events : List ℕ → ℕ
asked_events entry = from_le_bytes w16 (take 2 (drop int_size entry))

-- the entry with these events for those that came
abbrev pub with_events : List ℕ → ℕ → List ℕ
with_events entry events = take (int_size + 2) entry ++ to_le_bytes w16 events

-- how many entries tell of something
abbrev pub count_one : ℕ → ℕ
count_one events = if events == 0 then 0 else 1

-- ppoll(2): the deadline, if there is one; a call that is made again keeps its first
abbrev pub poll_limit : Time → Task → Moment → Option Time
poll_limit now task time = Some (kept_or task.kept (at_nanos (deadline_after now.nanos time)))

abbrev pub poll_time : ℕ → Memory → Result Moment Refusal
poll_time at memory = do
  bytes ← or_refuse (span timespec_size at memory) (Errno Efault)
  or_refuse (timespec 0 bytes) (Errno Einval)

abbrev pub poll_deadline : Time → ℕ → Task → Result (Option Time) Refusal
poll_deadline now at task = if at == 0 then Ok None else do
  time ← poll_time at task.memory
  Ok (poll_limit now task time)

-- a deadline that isn't to come
abbrev pub has_come : Time → Option Time → Bool
has_come now None = false
has_come now (Some deadline) = nat_le deadline.nanos now.nanos

-- the bytes of the entries, to which what came is written back
abbrev pub poll_entries : ℕ → ℕ → Memory → Result (List ℕ) Refusal
poll_entries at size memory = do
  entries ← or_refuse (span size at memory) (Errno Efault)
  refuse_if (not (can_write size at memory)) (Errno Efault)
  Ok entries
