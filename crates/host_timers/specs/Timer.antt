-- A timer, as timerfd_create(2) has it: when it expires first, the interval between later expiries, and how many of its expiries were read.
use Rattle.std.specs.Prelude.{◌≡◌, ℕ, ◌+◌, ◌-◌, ◌*◌, ◌/◌, ◌≢◌, max, Option, Some, None, if◌then◌else◌, ◌==◌, nat_lt, refl}
use Rattle.std.specs.Coded.{Coded, code_by, coded×, coded_ℕ}

-- all in nanoseconds; a first expiry of 0 means off, an interval of 0 that it expires once
pub record TimerState : Type 0 where
  pub first : ℕ
  pub interval : ℕ
  pub taken : ℕ

abbrev pub timer_code : Coded TimerState
timer_code = code_by (ℕ × (ℕ × ℕ)) (coded× coded_ℕ (coded× coded_ℕ coded_ℕ)) (λ t. (t.first, (t.interval, t.taken))) (λ p. record { first = p.0; interval = p.1.0; taken = p.1.1 }) (λ _. refl)

abbrev pub off : TimerState
off = record { first = 0; interval = 0; taken = 0 }

-- a timer that was set: a first expiry that has passed counts as the next nanosecond
abbrev pub set : ℕ → ℕ → ℕ → TimerState
set now first interval = record { first = if first == 0 then 0 else max first (now + 1); interval = interval; taken = 0 }

-- the timer has an expiry of this number, counted from 0
abbrev pub Expires : TimerState → ℕ → Type 0
Expires t k = (t.first ≢ 0) × (t.interval ≡ 0 → k ≡ 0)

-- and when it is
abbrev pub expiry : TimerState → ℕ → ℕ
expiry t k = t.first + k * t.interval

-- how many expiries there are at or before a moment
abbrev pub expired : TimerState → ℕ → ℕ
expired t now =
    if t.first == 0 then 0 else if nat_lt now t.first then 0 else if t.interval == 0 then 1 else (now - t.first) / t.interval + 1

-- the expiries at or before now that no read has taken
abbrev pub count : TimerState → ℕ → ℕ
count t now = expired t now - t.taken

-- the timer after a read took them
abbrev pub read : TimerState → ℕ → TimerState
read t now = record t { taken = max t.taken (expired t now) }

-- the first expiry after a moment: that whose number is the count of those before
abbrev pub next_due : TimerState → ℕ → Option ℕ
next_due t now =
    if t.first == 0 then None else if nat_lt now t.first then Some t.first else if t.interval == 0 then None else Some (expiry t (expired t now))
