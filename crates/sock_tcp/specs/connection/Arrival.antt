-- what an arriving segment does to a record (RFC 9293, section 3.10.7)
use Rattle.std.specs.Prelude.{ℕ, ◌+◌, ◌-◌, ◌==◌, nat_lt, List, [], ◌++◌, length, take, drop, max, Bool, true, not, ◌&&◌, ◌||◌, if◌then◌else◌}
use Rattle.sim_base.specs.declared.errno.Errno.TheVariants.{Econnrefused, Econnreset}
use Rattle.sim_base.specs.declared.packet.Packet.{Packet}
use Rattle.sim_base.specs.declared.packet.Load.{Load}
use Rattle.sim_base.specs.declared.packet.Load.TheVariants.{Udp, Tcp}
use Rattle.sock_tcp.specs.declared.segment.number.Distance.{Distance}
use Rattle.sock_tcp.specs.declared.segment.number.Distance.TheVariants.{Ahead, Behind}
use Rattle.sock_tcp.specs.declared.segment.state.TcpState.{TcpState}
use Rattle.sock_tcp.specs.declared.segment.state.TcpState.TheVariants.{Established}
use Rattle.sock_tcp.specs.declared.segment.control.Control.{Control}
use Rattle.sock_tcp.specs.declared.segment.header.Header.{Header}
use Rattle.sock_tcp.specs.declared.segment.verdict.Verdict.{Verdict}
use Rattle.sock_tcp.specs.declared.segment.verdict.Verdict.TheVariants.{Dropped, Acknowledged, SynAcknowledged, Refused, ConnectRefused, Reset, Gone, Connects, Establishes, Advances, Continues}
use Rattle.sock_tcp.specs.segment.Number.{wire, distance}
use Rattle.sock_tcp.specs.segment.State.{is_over, is_time_wait, takes_text, after_own_fin, after_peer_fin}
use Rattle.sock_tcp.specs.segment.Header.{header_of}
use Rattle.sock_tcp.specs.segment.Verdict.{verdict_of}
use Rattle.sock_tcp.specs.connection.Tcb.{Tcb, Turn, data_end, own_window, changed}
use Rattle.sock_tcp.specs.connection.Segment.{sends_ack, sends_syn_ack, sends_reset, sends_refusal}
use Rattle.sock_tcp.specs.connection.Ending.{ends, vanishes}
use Rattle.sock_tcp.specs.connection.Timer.{judged, restarts}
use Rattle.sock_tcp.specs.connection.Output.{output}
use Rattle.sock_tcp.specs.connection.Congestion.{happens, flight_of, tells_loss, is_duplicate}
use Rattle.sock_tcp.specs.connection.Congestion.CongestionEvent.{opens, acknowledges, duplicates}
use Rattle.sock_tcp.specs.connection.Retransmission.{sends_one}

abbrev pub verdict : Tcb → Header → Verdict
verdict r h =
    verdict_of r.control.state (wire r.irs r.rcv) (wire r.iss r.una) (r.highest - r.una) h

-- the peer's own SYN tells its first number
unfoldable pub peer_known : ℕ → Tcb → Tcb
peer_known seq r = record r { irs = seq; rcv = 1 }

-- the own SYN is acknowledged
unfoldable pub established : ℕ → Tcb → Tcb
established window r =
    happens (opens (nat_lt 0 r.control.retries))
    (record r {
      una = 1;
      control = record r.control { state = Established; was_established = true; window = window };
    })

unfoldable pub establishes : ℕ → Turn → Turn
establishes window t = judged (restarts (changed (established window) t))

-- as many more as by are acknowledged (SND.UNA), and what is next to send isn't behind (SND.NXT)
abbrev pub own_fin_acknowledged : ℕ → Tcb → Bool
own_fin_acknowledged by r = r.una + by == data_end r + 1

abbrev pub state_advanced : Bool → TcpState → TcpState
state_advanced fin state = if fin then after_own_fin state else state

abbrev pub control_advanced : Bool → ℕ → Control → Control
control_advanced fin window c =
    record c { window = window; state = state_advanced fin c.state }

unfoldable pub advanced : ℕ → ℕ → Tcb → Tcb
advanced by window r =
    happens (acknowledges by)
    (record r {
      una = r.una + by;
      nxt = max r.nxt (r.una + by);
      control = control_advanced (own_fin_acknowledged by r) window r.control;
    })

-- the timer starts anew at what moves SND.UNA, and while the window is 0 at each acknowledgement
abbrev pub restarts_timer : ℕ → ℕ → Control → Bool
restarts_timer by window c = nat_lt 0 by || ((window == 0) && not (is_time_wait c.state))

unfoldable pub advances : ℕ → ℕ → Turn → Turn
advances by window t =
    let moved = changed (advanced by window) t in
    judged (if restarts_timer by window t.tcb.control then restarts moved else moved)

-- a duplicate acknowledgement: where it tells of a loss, the first segment that isn't acknowledged goes
-- out again at once (RFC 5681, section 3.2)
abbrev pub duplicate_heard : Tcb → Tcb
duplicate_heard r = happens (duplicates r.una r.highest) r

unfoldable pub hears_duplicate : Turn → Turn
hears_duplicate t =
    let heard = changed duplicate_heard t in
    if tells_loss t.tcb.una (flight_of t.tcb) then sends_one heard else heard

unfoldable pub notices : Bool → Turn → Turn
notices duplicate t = if duplicate then hears_duplicate t else t

-- the text that begins where it is expected: what was received before is cut off
abbrev pub fresh_text : Distance → List ℕ → List ℕ
fresh_text (Ahead by) text = if by == 0 then text else []
fresh_text (Behind by) text = drop by text

-- as much of it as the own window holds
unfoldable pub fitting_text : Header → List ℕ → Tcb → List ℕ
fitting_text h text r = take (own_window r) (fresh_text (distance (wire r.irs r.rcv) h.seq) text)

unfoldable pub keeps : List ℕ → Tcb → Tcb
keeps bytes r = record r { received = r.received ++ bytes; rcv = r.rcv + length bytes }

unfoldable pub discards : ℕ → Tcb → Tcb
discards count r = record r { discarded = r.discarded + count; rcv = r.rcv + count }

-- text is kept; once reading has ended it is thrown away, and once the socket is closed the
-- connection is reset (section 3.6.1)
unfoldable pub text_comes : List ℕ → Turn → Turn
text_comes bytes t =
    if length bytes == 0 then t
    else if t.tcb.control.closed then vanishes (sends_reset t)
    else if t.tcb.control.reading_ended then changed (discards (length bytes)) t
    else changed (keeps bytes) t

unfoldable pub receives_text : Header → List ℕ → Turn → Turn
receives_text h text t =
    if takes_text t.tcb.control.state then text_comes (fitting_text h text t.tcb) t else t

-- a FIN is taken where all before it was
abbrev pub fin_is_due : Header → List ℕ → Tcb → Bool
fin_is_due h text r =
    h.fin && (takes_text r.control.state && (wire h.seq (length text) == wire r.irs r.rcv))

unfoldable pub fin_received : Tcb → Tcb
fin_received r = record r {
  rcv = r.rcv + 1;
  control = record r.control { state = after_peer_fin r.control.state; fin_taken = true };
}

unfoldable pub receives_fin : Header → List ℕ → Turn → Turn
receives_fin h text t = if fin_is_due h text t.tcb then changed fin_received t else t

-- a segment is answered by one ACK where it had text or a FIN, or isn't where it is expected
unfoldable pub wants_ack : Header → List ℕ → Tcb → Bool
wants_ack h text r = not (length text == 0) || (h.fin || not (h.seq == wire r.irs r.rcv))

unfoldable pub answers : Bool → Turn → Turn
answers wanted t = if wanted then sends_ack t else t

-- a FIN in TIME-WAIT starts its time anew (section 3.10.7.4, eighth step)
unfoldable pub waits_again : Bool → Turn → Turn
waits_again fin t = if fin && is_time_wait t.tcb.control.state then restarts t else t

unfoldable pub unless_over : (Turn → Turn) → Turn → Turn
unless_over act t = if is_over t.tcb.control.state then t else act t

unfoldable pub concludes : Bool → Bool → Turn → Turn
concludes wanted fin t = output (waits_again fin (answers wanted t))

-- the text, the FIN and the answer
unfoldable pub receives : Header → List ℕ → Turn → Turn
receives h text t =
    unless_over (concludes (wants_ack h text t.tcb) h.fin) (receives_fin h text (receives_text h text t))

-- the peer answered the own SYN (section 3.10.7.3, fourth step)
unfoldable pub connects : Header → Turn → Turn
connects h t = output (sends_ack (establishes h.window (changed (peer_known h.seq) t)))

abbrev pub acts_on : Verdict → Header → List ℕ → Turn → Turn
acts_on Dropped h text t = t
acts_on Acknowledged h text t = sends_ack t
acts_on SynAcknowledged h text t = sends_syn_ack t
acts_on Refused h text t = sends_refusal h.ack t
acts_on ConnectRefused h text t = ends Econnrefused t
acts_on Reset h text t = ends Econnreset t
acts_on Gone h text t = vanishes t
acts_on Connects h text t = connects h t
acts_on Establishes h text t = receives h text (establishes h.window t)
acts_on (Advances by) h text t =
    receives h text (notices (is_duplicate by h (length text) t.tcb) (advances by h.window t))
acts_on Continues h text t = receives h text t

unfoldable pub takes_segment : Header → List ℕ → Turn → Turn
takes_segment h text t = judged (acts_on (verdict t.tcb h) h text t)

abbrev pub takes_load : Load → Turn → Turn
takes_load (Udp text) t = t
takes_load (Tcp flags seq ack window text) t =
    takes_segment (header_of flags seq ack window) text t

unfoldable pub takes_packet : Packet → Turn → Turn
takes_packet packet t = takes_load packet.load t
