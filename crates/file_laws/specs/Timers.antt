-- Acts on a timer, and its expiries over all of them.
use Rattle.std.specs.Prelude.{ℕ, ◌+◌, List, [], ◌∷◌, Option}
use Rattle.host_timers.specs.Timer as timer
use Rattle.host_timers.specs.Timer.{TimerState}
use Rattle.host_files.specs.declared.timer.KeptTimer.{KeptTimer}
use Rattle.host_files.specs.Files.{after_set, after_serial, after_count}

-- at a moment it is set to a first expiry and an interval, and gets a serial; it gets another serial; or its expiries up to a moment
-- are read
pub data TimerAct : Type 0 where
  Sets : (now first interval serial : ℕ) → TimerAct
  Rings : (serial : ℕ) → TimerAct
  Counts : (now : ℕ) → TimerAct

abbrev pub timer_leaves : TimerAct → KeptTimer → Option KeptTimer
timer_leaves (Sets now first interval serial) t = after_set now first interval serial t
timer_leaves (Rings serial) t = after_serial serial t
timer_leaves (Counts now) t = after_count now t

-- the expiries up to a moment: those of each setting before the next one was made, and those of the last
abbrev pub expiry_count : List TimerAct → TimerState → ℕ → ℕ
expiry_count [] setting now = timer.expired setting now
expiry_count (Sets at first interval serial ∷ acts) setting now = timer.expired setting at + expiry_count acts (timer.set at first interval) now
expiry_count (Rings serial ∷ acts) setting now = expiry_count acts setting now
expiry_count (Counts at ∷ acts) setting now = expiry_count acts setting now
