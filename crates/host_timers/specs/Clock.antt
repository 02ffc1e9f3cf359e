-- The clocks that a guest can read (clock_gettime(2)), at a moment of simulated time.
use Rattle.std.specs.Prelude.{ℕ, ◌+◌, ◌/◌, ◌%◌, Option, Some, None, if◌then◌else◌, ◌==◌}
use Rattle.sim_base.specs.Units.{second, unix_start}
use Rattle.host_timers.specs.declared.clock.Moment.{Moment}

-- nanoseconds in seconds and nanoseconds of a second
abbrev pub moment_of : ℕ → Moment
moment_of nanos = record { seconds = nanos / second; nanos = nanos % second }

-- CLOCK_REALTIME and CLOCK_MONOTONIC
abbrev pub clock_realtime : ℕ
clock_realtime = 0

abbrev pub clock_monotonic : ℕ
clock_monotonic = 1

-- CLOCK_REALTIME tells Unix time, and CLOCK_MONOTONIC the time since the simulation began; there are no others
abbrev pub clock_at : ℕ → ℕ → Option Moment
clock_at clock now =
    if clock == clock_realtime then Some (record (moment_of now) { seconds = unix_start + now / second }) else if clock == clock_monotonic then Some (moment_of now) else None
