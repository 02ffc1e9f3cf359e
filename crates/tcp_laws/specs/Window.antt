-- what congestion control makes of a record's acts (RFC 5681)
use Rattle.std.specs.Prelude.{◌≡◌, ◌⊎◌, ℕ, ◌+◌, ◌≤◌, nat_lt, List, [], ◌∷◌, ◌++◌, length, min, max, Bool, true, false, ◌&&◌, if◌then◌else◌, ◌*◌}
use Rattle.sim_base.specs.Packet.{max_segment}
use Rattle.sim_base.specs.declared.packet.Load.{Load}
use Rattle.sim_base.specs.declared.packet.Load.TheVariants.{Udp, Tcp}
use Rattle.sim_base.specs.declared.packet.Packet.{Packet}
use Rattle.sock_tcp.specs.segment.Congestion.{max_window}
use Rattle.sock_tcp.specs.declared.segment.congestion.Congestion.{Congestion}
use Rattle.sock_tcp.specs.declared.segment.header.Header.{Header}
use Rattle.sock_tcp.specs.declared.segment.verdict.Verdict.{Verdict}
use Rattle.sock_tcp.specs.declared.segment.verdict.Verdict.TheVariants.{Connects, Establishes, Advances}
use Rattle.sock_tcp.specs.segment.Header.{header_of}
use Rattle.sock_tcp.specs.segment.Number.{wire}
use Rattle.sock_tcp.specs.segment.State.{is_synchronized, is_time_wait}
use Rattle.sock_tcp.specs.segment.Control.{send_window}
use Rattle.sock_tcp.specs.connection.Tcb.{Tcb}
use Rattle.sock_tcp.specs.connection.Timer.{is_in_flight}
use Rattle.sock_tcp.specs.connection.Congestion.{CongestionEvent, flight_of, tells_loss, is_duplicate}
use Rattle.sock_tcp.specs.connection.Congestion.CongestionEvent.{opens, acknowledges, duplicates, times_out}
use Rattle.sock_tcp.specs.connection.Arrival.{verdict}
use Rattle.tcp_laws.specs.Acts.{Act, acted}
use Rattle.tcp_laws.specs.Acts.Act.{arrival, write, read, flow, shut, close, expiry, error_read}

-- what an arriving segment tells: that the record is ESTABLISHED, that so much more is acknowledged, or a
-- duplicate acknowledgement
abbrev pub opening_event : Tcb → List CongestionEvent
opening_event r = opens (nat_lt 0 r.control.retries) ∷ []

abbrev pub verdict_events : Verdict → Header → ℕ → Tcb → List CongestionEvent
verdict_events Connects h count r = opening_event r
verdict_events Establishes h count r = opening_event r
verdict_events (Advances by) h count r =
    if is_duplicate by h count r
    then duplicates r.una r.highest ∷ []
    else acknowledges by ∷ []
verdict_events v h count r = []

abbrev pub load_events : Load → Tcb → List CongestionEvent
load_events (Udp text) r = []
load_events (Tcp flags seq ack window text) r =
    let h = header_of flags seq ack window in verdict_events (verdict r h) h (length text) r

-- an expiry of a timer that runs, at most the sixth in a row, with text or the FIN in flight
abbrev pub loss_events : Tcb → List CongestionEvent
loss_events r =
    if is_synchronized r.control.state && is_in_flight r
    then times_out r.control.retries r.una r.highest ∷ []
    else []

abbrev pub running_events : Tcb → List CongestionEvent
running_events r =
    if is_time_wait r.control.state then []
    else if nat_lt r.control.retries 6 then loss_events r
    else []

abbrev pub expiry_events : Tcb → List CongestionEvent
expiry_events r = if r.control.timer then running_events r else []

abbrev pub events_of : Act → Tcb → List CongestionEvent
events_of (arrival p) r = load_events p.load r
events_of (write bytes) r = []
events_of (read count) r = []
events_of flow r = []
events_of (shut end) r = []
events_of close r = []
events_of expiry r = expiry_events r
events_of error_read r = []

abbrev pub all_events : List Act → Tcb → List CongestionEvent
all_events [] r = []
all_events (act ∷ acts) r = events_of act r ++ all_events acts (acted act r).tcb

-- a window of one segment at least and of what a segment can tell at most, a threshold of two at least
pub record Bounded (c : Congestion) : Type 0 where
  pub least : max_segment ≤ c.cwnd
  pub most : c.cwnd ≤ max_window
  pub threshold : 2 * max_segment ≤ c.ssthresh

-- a text of so many bytes, from an offset on that the segment's number is that of, ends at most where the
-- windows do
pub record Within (iss una window seq count : ℕ) : Type 0 where
  pub offset : ℕ
  pub number : seq ≡ wire iss offset
  pub from : una ≤ offset
  pub end : offset + count ≤ una + window

abbrev pub LoadWithin : ℕ → ℕ → ℕ → Load → Type 0
LoadWithin iss una window (Udp text) = ⊥
LoadWithin iss una window (Tcp flags seq ack w text) =
    (length text ≡ 0) ⊎ Within iss una window seq (length text)

abbrev pub AreWithin : ℕ → ℕ → ℕ → List Packet → Type 0
AreWithin iss una window [] = Unit {0}
AreWithin iss una window (p ∷ packets) =
    LoadWithin iss una window p.load × AreWithin iss una window packets

-- a text that goes out again begins at what isn't acknowledged; it is one segment at most, and as long as
-- the peer's window, or the one byte that probes a window of 0
pub record Again (iss una peer seq count : ℕ) : Type 0 where
  pub number : seq ≡ wire iss una
  pub most : count ≤ min max_segment (max peer 1)

abbrev pub LoadAgain : ℕ → ℕ → ℕ → Load → Type 0
LoadAgain iss una peer (Udp text) = ⊥
LoadAgain iss una peer (Tcp flags seq ack w text) = Again iss una peer seq (length text)

abbrev pub FirstAgain : ℕ → ℕ → ℕ → ℕ → List Packet → Type 0
FirstAgain iss una peer window [] = ⊥
FirstAgain iss una peer window (p ∷ packets) =
    LoadAgain iss una peer p.load × AreWithin iss una window packets

-- a duplicate acknowledgement that tells of a loss
abbrev pub tells : Tcb → CongestionEvent → Bool
tells r (opens expired) = false
tells r (acknowledges by) = false
tells r (duplicates una highest) = tells_loss una (flight_of r)
tells r (times_out retries una highest) = false

abbrev pub any_tells : Tcb → List CongestionEvent → Bool
any_tells r [] = false
any_tells r (e ∷ events) = if tells r e then true else any_tells r events

-- what sends a text again: an expiry of the timer, and the duplicate acknowledgement that tells of a loss
abbrev pub sends_again : Act → Tcb → Bool
sends_again (arrival p) r = any_tells r (load_events p.load r)
sends_again (write bytes) r = false
sends_again (read count) r = false
sends_again flow r = false
sends_again (shut end) r = false
sends_again close r = false
sends_again expiry r = true
sends_again error_read r = false

-- all texts end within the windows, but for the first where one goes out again
abbrev pub FitWindow : Bool → Tcb → List Packet → Type 0
FitWindow again r packets =
    AreWithin r.iss r.una (send_window r.control) packets
    ⊎ ((again ≡ true) × FirstAgain r.iss r.una r.control.window (send_window r.control) packets)
