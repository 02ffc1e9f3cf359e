-- Times that a guest hands in, as struct __kernel_timespec has them: two little-endian words of 64 bits, seconds and nanoseconds.
use Rattle.std.specs.Prelude.{ℕ, ◌+◌, ◌-◌, ◌*◌, ◌^◌, ◌&&◌, ◌==◌, min, List, ◌++◌, take, drop, Option, Some, None, nat_lt, if◌then◌else◌}
use Rattle.std.specs.Int.{w64, from_le_bytes, to_le_bytes}
use Rattle.sim_base.specs.Units.{second, longest_wait, unix_start}
use Rattle.host_timers.specs.declared.clock.Moment.{Moment}
use Rattle.host_timers.specs.Clock.{clock_realtime}

-- the bytes of a time
abbrev pub timespec_size : ℕ
timespec_size = 16

-- the word of 64 bits at a place of some bytes
abbrev pub word_at : ℕ → List ℕ → ℕ
word_at place bytes = from_le_bytes w64 (take 8 (drop place bytes))

-- neither negative seconds, which are words from 2^63 up, nor nanoseconds outside of a second are a time
abbrev pub moment : ℕ → ℕ → Option Moment
moment seconds nanos = if nat_lt seconds (2 ^ 63) && nat_lt nanos second then Some (record { seconds = seconds; nanos = nanos }) else None

-- the time at a place of some bytes
abbrev pub timespec : ℕ → List ℕ → Option Moment
timespec place bytes = moment (word_at place bytes) (word_at (place + 8) bytes)

-- the bytes of a time
abbrev pub timespec_of : Moment → List ℕ
timespec_of time = to_le_bytes w64 time.seconds ++ to_le_bytes w64 time.nanos

abbrev pub nanos_in : Moment → ℕ
nanos_in time = time.seconds * second + time.nanos

-- a span of time; what is longer than the longest wait counts as that (this project's own profile)
abbrev pub time_span : Moment → ℕ
time_span time = min (nanos_in time) longest_wait

-- the moment that lies a time after now
abbrev pub deadline_after : ℕ → Moment → ℕ
deadline_after now time = min (now + nanos_in time) longest_wait

-- the moment at which a clock tells a time: CLOCK_REALTIME tells Unix time; what was before the simulation counts as its beginning
abbrev pub deadline_at : ℕ → Moment → ℕ
deadline_at clock time = min (nanos_in time - (if clock == clock_realtime then unix_start * second else 0)) longest_wait
