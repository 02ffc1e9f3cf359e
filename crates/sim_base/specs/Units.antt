-- Spans of time in nanoseconds, when time begins and ends, and bounds of numbers.
use Rattle.std.specs.Prelude.{ℕ, ◌-◌, ◌^◌}

abbrev pub microsecond : ℕ
microsecond = 1000

abbrev pub millisecond : ℕ
millisecond = 1000000

abbrev pub second : ℕ
second = 1000000000

abbrev pub minute : ℕ
minute = 60000000000

abbrev pub hour : ℕ
hour = 3600000000000

-- the second of Unix time at which simulated time begins, 2000-01-01 00:00:00 UTC (this project's own profile)
abbrev pub unix_start : ℕ
unix_start = 946684800

-- the greatest stop time of a run, some 73 years: nothing happens later
abbrev pub latest_time : ℕ
latest_time = 2 ^ 61

-- the longest time that a guest can ask for; what is longer counts as this
abbrev pub longest_wait : ℕ
longest_wait = 2 ^ 62

-- the greatest numbers of 32 and of 64 bits
abbrev pub max_u32 : ℕ
max_u32 = 2 ^ 32 - 1

abbrev pub max_u64 : ℕ
max_u64 = 2 ^ 64 - 1
