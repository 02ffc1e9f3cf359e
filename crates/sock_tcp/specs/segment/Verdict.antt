-- what is done with an arriving segment (RFC 9293, section 3.10.7), by the state, the numbers of
-- what is expected next (RCV.NXT) and of what isn't acknowledged yet (SND.UNA), and by how much
-- was sent from there on
use Rattle.std.specs.Prelude.{◌≡◌, ◌≤◌, true, ℕ, ◌+◌, ◌%◌, ◌^◌, ◌==◌, nat_le, not, ◌&&◌, if◌then◌else◌}
use Rattle.sock_tcp.specs.declared.segment.number.Distance.{Distance}
use Rattle.sock_tcp.specs.declared.segment.number.Distance.TheVariants.{Ahead, Behind}
use Rattle.sock_tcp.specs.declared.segment.state.TcpState.{TcpState}
use Rattle.sock_tcp.specs.declared.segment.header.Header.{Header}
use Rattle.sock_tcp.specs.declared.segment.verdict.Verdict.{Verdict}
use Rattle.sock_tcp.specs.declared.segment.verdict.Verdict.TheVariants.{Dropped, Acknowledged, SynAcknowledged, Refused, ConnectRefused, Reset, Gone, Connects, Establishes, Advances, Continues}
use Rattle.sock_tcp.specs.segment.State.{is_over, is_opening, is_synchronized, is_time_wait, is_syn_sent, is_syn_received}
use Rattle.sock_tcp.specs.segment.Number.{wire, distance}

-- SYN-SENT (section 3.10.7.3): only the acknowledgement of the SYN is acceptable, that of first
unfoldable pub syn_sent_verdict : ℕ → Header → Verdict
syn_sent_verdict first h =
    if h.has_ack && not (h.ack == first) then (if h.rst then Dropped else Refused)
    else if h.rst then (if h.has_ack then ConnectRefused else Dropped)
    else if h.syn && h.has_ack then Connects
    else Dropped

-- a RST where it is expected (section 3.10.7.4, second step)
abbrev pub reset_verdict : TcpState → Verdict
reset_verdict state =
    if is_syn_received state then Gone else if is_time_wait state then Gone else Reset

-- a SYN (section 3.10.7.4, fourth step): that of SYN-RECEIVED came again, any other is challenged
abbrev pub syn_verdict : TcpState → ℕ → ℕ → Verdict
syn_verdict state rcv seq =
    if is_syn_received state && ((seq + 1) % 2 ^ 32 == rcv) then SynAcknowledged else Acknowledged

-- an acknowledgement (section 3.10.7.4, fifth step)
abbrev pub distance_verdict : ℕ → Distance → Verdict
distance_verdict in_flight (Ahead by) = if nat_le by in_flight then Advances by else Acknowledged
distance_verdict in_flight (Behind by) = Continues

abbrev pub ack_verdict : TcpState → ℕ → ℕ → ℕ → Verdict
ack_verdict state una in_flight ack =
    if is_syn_received state
    then (if ack == wire una 1 then Establishes else Refused)
    else distance_verdict in_flight (distance una ack)

-- the states after SYN-SENT (section 3.10.7.4)
unfoldable pub synchronized_verdict : TcpState → ℕ → ℕ → ℕ → Header → Verdict
synchronized_verdict state rcv una in_flight h =
    if h.rst then (if h.seq == rcv then reset_verdict state else Dropped)
    else if h.syn then syn_verdict state rcv h.seq
    else if h.has_ack then ack_verdict state una in_flight h.ack
    else Dropped

-- until its SYN is acknowledged, what isn't acknowledged yet is the SYN
unfoldable pub verdict_of : TcpState → ℕ → ℕ → ℕ → Header → Verdict
verdict_of state rcv una in_flight h =
    if is_over state then Dropped
    else if is_syn_sent state then syn_sent_verdict (wire una 1) h
    else synchronized_verdict state rcv una in_flight h

-- in which states these verdicts come, and how much is acknowledged at most
abbrev pub ComesIn : TcpState → ℕ → Verdict → Type 0
ComesIn state in_flight Connects = is_opening state ≡ true
ComesIn state in_flight Establishes = is_opening state ≡ true
ComesIn state in_flight (Advances by) = (is_synchronized state ≡ true) × (by ≤ in_flight)
ComesIn state in_flight _ = Unit {0}
