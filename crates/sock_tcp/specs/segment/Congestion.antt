-- the congestion window of a record, in whole bytes (RFC 5681)
use Rattle.std.specs.Prelude.{ℕ, ◌+◌, ◌*◌, ◌/◌, nat_lt, min, max, Bool, if◌then◌else◌}
use Rattle.sim_base.specs.Packet.{max_segment}
use Rattle.sock_tcp.specs.declared.segment.congestion.Congestion.{Congestion}

-- the initial window (IW, section 3.1): three segments of this size
abbrev pub initial_window : ℕ
initial_window = 3 * max_segment

-- the loss window (LW, section 3.1): one segment, also where the SYN was lost
abbrev pub loss_window : ℕ
loss_window = max_segment

-- no window is larger than a segment can tell (RFC 9293, section 3.1; this project's own profile)
abbrev pub max_window : ℕ
max_window = 65535

abbrev pub fresh_congestion : Congestion
fresh_congestion = record { cwnd = initial_window; ssthresh = max_window }

-- the handshake is done; an expiry before it tells of a lost SYN (section 3.1)
abbrev pub opened_window : Bool → Congestion → Congestion
opened_window expired c = record c { cwnd = if expired then loss_window else initial_window }

-- slow start below ssthresh (section 3.1, equation 2), then congestion avoidance (equation 3)
abbrev pub growth : ℕ → Congestion → ℕ
growth by c =
    if nat_lt c.cwnd c.ssthresh
    then min by max_segment
    else max 1 (max_segment * max_segment / c.cwnd)

abbrev pub grown : ℕ → Congestion → Congestion
grown by c = record c { cwnd = min max_window (c.cwnd + growth by c) }

-- so much more is acknowledged, perhaps nothing
abbrev pub acknowledged : ℕ → Congestion → Congestion
acknowledged by c = if nat_lt 0 by then grown by c else c

-- a loss halves what was in flight, to two segments at least (section 3.1, equation 4)
abbrev pub threshold_after : ℕ → ℕ
threshold_after in_flight = max (in_flight / 2) (2 * max_segment)

-- fast retransmit without inflation (section 3.2, steps 2 and 6)
abbrev pub halved : ℕ → Congestion
halved in_flight =
    let ssthresh = threshold_after in_flight in
    record { cwnd = ssthresh; ssthresh = ssthresh }

-- an expiry, the first one since something was acknowledged or a later one (section 3.1)
abbrev pub timed_out : Bool → ℕ → Congestion → Congestion
timed_out first in_flight c = record {
  cwnd = loss_window;
  ssthresh = if first then threshold_after in_flight else c.ssthresh;
}
