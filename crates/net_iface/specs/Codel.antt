-- the queue rule CoDel, a packet at a time (after RFC 8289; the rounding is this project's own profile)
use Rattle.std.specs.Prelude.{ℕ, ◌+◌, ◌-◌, ◌*◌, ◌/◌, min, Bool, true, false, ◌||◌, ◌&&◌, nat_lt, nat_le, Option, Some, None, if◌then◌else◌}
use Rattle.sim_base.specs.declared.time.Time.{Time}
use Rattle.sim_base.specs.Units.{max_u64}
use Rattle.net_iface.specs.declared.codel.TheConstants.{TARGET, INTERVAL, LARGEST}
use Rattle.net_iface.specs.declared.codel.CodelState.{CodelState}
use Rattle.net_iface.specs.Root.{root}

-- no packet was taken yet
abbrev pub new_codel : CodelState
new_codel = record { above = None; dropping = false; count = 0; last = 0; next = record { nanos = 0 } }

-- the nanoseconds from one drop to the next, which get fewer with the square root of the count
-- (RFC 8289, section 5.3, control_law)
abbrev pub step : ℕ → ℕ
step count = root (INTERVAL * INTERVAL / count)

-- a packet that waited less than the target, or that leaves at most a largest packet waiting, tells
-- of no standing queue (RFC 8289, section 5.5, dodequeue)
abbrev pub is_good : Time → Time → ℕ → Bool
is_good now since left = nat_lt (now.nanos - since.nanos) TARGET || nat_le left LARGEST

-- after a whole interval without a good packet the next one is ripe for a drop; with the time from
-- which on packets are
abbrev pub ripened : Time → Option Time → Bool × Option Time
ripened now None = (false, Some (record { nanos = now.nanos + INTERVAL }))
ripened now (Some time) = (nat_le time.nanos now.nanos, Some time)

abbrev pub judged : Time → Time → ℕ → Option Time → Bool × Option Time
judged now since left above = if is_good now since left then (false, None) else ripened now above

-- one more, up to what 64 bits hold
abbrev pub one_more : ℕ → ℕ
one_more count = min (count + 1) max_u64

-- while packets are being dropped, one is dropped when its time has come (RFC 8289, section 5.5)
abbrev pub drops_on : Time → CodelState → Bool × CodelState
drops_on now c =
    if nat_lt now.nanos c.next.nanos
    then (false, c)
    else (true, record c { count = one_more c.count; next = record { nanos = c.next.nanos + step (one_more c.count) } })

-- the count with which the dropping begins: that of the last time, where more than one packet was
-- dropped then and it ended less than 16 intervals ago (RFC 8289, section 5.5)
abbrev pub restarted : Time → CodelState → ℕ
restarted now c = if nat_lt 1 (c.count - c.last) && nat_lt now.nanos (c.next.nanos + 16 * INTERVAL) then c.count - c.last else 1

-- the first packet that is ripe is dropped
abbrev pub started : Time → CodelState → Bool × CodelState
started now c =
    let count = restarted now c in
    (true, record c { dropping = true; count = count; last = count; next = record { nanos = now.nanos + step count } })

abbrev pub decided : Time → Bool → CodelState → Bool × CodelState
decided now false c = (false, record c { dropping = false })
decided now true c = if c.dropping then drops_on now c else started now c

-- a packet is taken out of the queue: whether it is dropped; it waited since a time, and so many
-- bytes are left waiting
abbrev pub taken : Time → Time → ℕ → CodelState → Bool × CodelState
taken now since left c =
    let judgement = judged now since left c.above in
    decided now judgement.0 (record c { above = judgement.1 })
