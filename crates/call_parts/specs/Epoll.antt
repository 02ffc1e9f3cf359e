-- What an epoll_pwait(2) is asked for, and how it tells what is due.
use Rattle.std.specs.Prelude.{ℕ, ◌-◌, ◌*◌, ◌/◌, ◌%◌, ◌^◌, ◌==◌, ◌||◌, Bool, not, min, List, ◌++◌, length, flat_map, replicate, Option, Some, None, Result, Ok, nat_le, if◌then◌else◌}
use Rattle.std.specs.Int.{w32, w64, to_le_bytes}
use Rattle.sim_base.specs.declared.errno.Errno.TheVariants.{Efault, Einval}
use Rattle.sim_base.specs.declared.time.Time.{Time}
use Rattle.sim_base.specs.Refusals.{◌>>=◌, ◌>>◌, refuse_if}
use Rattle.guest_args.specs.Span.{can_write, filled}
use Rattle.guest_args.specs.Time.{deadline_after}
use Rattle.host_fds.specs.declared.epoll.Entry.{Entry}
use Rattle.host_fds.specs.declared.epoll.Seen.{Seen}
use Rattle.host_fds.specs.Rises.{no_rises}
use Rattle.host_timers.specs.declared.clock.Moment.{Moment}
use Rattle.host_files.specs.Epolls.{epoll_at, told_by, entries_reported}
use Rattle.host_wants.specs.declared.error.Refusal.{Refusal}
use Rattle.host_wants.specs.declared.error.Refusal.TheVariants.{Errno}
use Rattle.file_calls.specs.EpollControl.{epoll_number, event_size}
use Rattle.file_calls.specs.declared.task.Task.{Task}
use Rattle.file_calls.specs.Descriptors.{descriptor}
use Rattle.file_calls.specs.Scene.{Local}
use Rattle.file_calls.specs.Times.{at_nanos, kept_or}
use Rattle.call_parts.specs.declared.epoll.WaitPlan.{WaitPlan}

-- epoll_pwait(2): milliseconds, of which negative ones are no limit; a call that is made again keeps its first deadline
abbrev pub is_negative : ℕ → Bool
is_negative word = nat_le (2 ^ 31) word

abbrev pub time_of_ms : ℕ → Moment
time_of_ms ms = record { seconds = ms / 1000; nanos = (ms % 1000) * 1000000 }

abbrev pub wait_deadline : Time → ℕ → Task → Option Time
wait_deadline now ms task = if is_negative ms then None else Some (kept_or task.kept (at_nanos (deadline_after now.nanos (time_of_ms ms))))

-- the most entries that a call tells (this project's own profile)
abbrev pub most_told : ℕ
most_told = 256

abbrev pub wait_place : ℕ → ℕ → ℕ → Local → Result WaitPlan Refusal
wait_place epfd at count (task, shared) = do
  d ← descriptor epfd task shared.files
  place ← epoll_number d.file.object
  refuse_if (count == 0 || is_negative count) (Errno Einval)
  refuse_if (not (can_write (event_size * min count most_told) at task.memory)) (Errno Efault)
  Ok (record { place = place; at = at; room = min count most_told })

-- what is then told
abbrev pub event_bytes : Entry → List ℕ
event_bytes e = to_le_bytes w32 e.events ++ (to_le_bytes w32 0 ++ to_le_bytes w64 e.«data»)

abbrev pub telling : WaitPlan → List Seen → Task → Task
telling p all task = record task {
  epolls = entries_reported p.room all p.place task.epolls;
  memory = filled p.at (flat_map event_bytes (told_by p.room all (epoll_at p.place task.epolls))) task.memory;
}

-- what is seen of a descriptor that is ready for nothing, and that at the last places of so many
abbrev pub nothing_seen : Seen
nothing_seen = record { fd = 0; bits = 0; rises = no_rises }

abbrev pub up_to : ℕ → List Seen → List Seen
up_to place all = all ++ replicate (place - length all) nothing_seen
