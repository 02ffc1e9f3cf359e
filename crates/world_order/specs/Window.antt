-- Until when a round fires events.
use Rattle.std.specs.Prelude.{ℕ, ◌+◌, min, Option, Some, None}

-- the end of the round whose least event is due at that time: no packet that it makes arrives before the lookahead is over, which is
-- the least latency from one host to another, and with one host there is none (all times in nanoseconds)
abbrev pub window_end : Option ℕ → ℕ → ℕ → ℕ
window_end None stop least = stop
window_end (Some lookahead) stop least = min stop (least + lookahead)
