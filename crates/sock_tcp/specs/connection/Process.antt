-- what the process and the timer do to a record (RFC 9293, section 3.10.1 to 3.10.4 and 3.10.8)
use Rattle.std.specs.Prelude.{ℕ, ◌+◌, ◌-◌, nat_lt, nat_le, List, [], ◌∷◌, ◌++◌, length, take, drop, min, Bool, true, false, ◌&&◌, ◌||◌, if◌then◌else◌, None}
use Rattle.sim_base.specs.declared.address.Addr.{Addr}
use Rattle.sim_base.specs.declared.errno.Errno.TheVariants.{Etimedout}
use Rattle.sim_base.specs.Packet.{syn_flag, ack_flag, max_segment}
use Rattle.sock_tcp.specs.declared.segment.control.Control.{Control}
use Rattle.sock_tcp.specs.declared.connection.effects.Shut.{Shut}
use Rattle.sock_tcp.specs.declared.connection.effects.Shut.TheVariants.{Reading, Writing, Both}
use Rattle.sock_tcp.specs.declared.segment.state.TcpState.TheVariants.{SynSent, SynReceived}
use Rattle.sock_tcp.specs.segment.State.{is_over, is_time_wait, is_opening, is_syn_sent, is_syn_received, is_synchronized}
use Rattle.sock_tcp.specs.segment.Control.{fresh_control, without_ack, takes_bytes, finds_end, control_read, writing_ended}
use Rattle.sock_tcp.specs.connection.Tcb.{Tcb, Turn, buffer_size, unread, own_window, with_control, changed}
use Rattle.sock_tcp.specs.connection.Segment.{with_ack, sends_ack, sends_reset}
use Rattle.sock_tcp.specs.connection.Ending.{ends, vanishes}
use Rattle.sock_tcp.specs.connection.Timer.{is_in_flight, judged}
use Rattle.sock_tcp.specs.connection.Congestion.{happens}
use Rattle.sock_tcp.specs.connection.Congestion.CongestionEvent.{times_out}
use Rattle.sock_tcp.specs.connection.Retransmission.{unacknowledged, sends_one}
use Rattle.sock_tcp.specs.connection.Output.{output}
use Rattle.sock_tcp.specs.connection.Arrival.{unless_over}

-- a record that has sent its SYN, and nothing else
unfoldable pub fresh_tcb : Control → ℕ → ℕ → ℕ → Tcb
fresh_tcb c iss irs rcv = record {
  control = c;
  iss = iss;
  irs = irs;
  una = 0;
  nxt = 1;
  highest = 1;
  duplicates = 0;
  recover = 0;
  rcv = rcv;
  written = [];
  received = [];
  read = 0;
  discarded = 0;
}

-- an active open (section 3.10.1): the SYN goes out without ACK
unfoldable pub opened : Addr → Addr → ℕ → Turn
opened local peer iss =
    let c = fresh_control local peer SynSent in
    record { tcb = fresh_tcb c iss 0 0; sent = without_ack c syn_flag iss ∷ []; started = true }

-- a passive open (section 3.10.7.2, third step): a SYN came, and the SYN and ACK goes out
unfoldable pub answered : Addr → Addr → ℕ → ℕ → Turn
answered local peer iss seq =
    let r = fresh_tcb (fresh_control local peer SynReceived) iss seq 1 in
    record { tcb = r; sent = with_ack r (syn_flag + ack_flag) 0 [] ∷ []; started = true }

-- how much more there is room for
abbrev pub room : Tcb → ℕ
room r = buffer_size - length (unacknowledged r)

unfoldable pub bytes_taken : List ℕ → Tcb → List ℕ
bytes_taken bytes r = if takes_bytes r.control then take (room r) bytes else []

unfoldable pub writes : List ℕ → Tcb → Tcb
writes bytes r = record r { written = r.written ++ bytes_taken bytes r }

-- a read of count bytes gives as many as wait (section 3.10.3)
abbrev pub bytes_read : ℕ → Tcb → List ℕ
bytes_read count r = take count (drop r.read r.received)

-- it owes the peer an ACK where it raises the own window over a segment's text (section 3.8.6.2.2)
abbrev pub raises_window : ℕ → ℕ → Bool
raises_window before after = nat_lt before max_segment && nat_le max_segment after

unfoldable pub reads : ℕ → Tcb → Tcb
reads count r =
    let moved = record r { read = r.read + min count (unread r) } in
    with_control (control_read (raises_window (own_window r) (own_window moved)) (finds_end count (unread r) r.control)) moved

-- what a read or a write brings about: the ACK that is owed, and then what may be sent
abbrev pub ack_paid : Control → Control
ack_paid c = record c { owes_ack = false }

unfoldable pub pays_ack : Turn → Turn
pays_ack t =
    if t.tcb.control.owes_ack then changed (with_control ack_paid) (sends_ack t) else t

abbrev pub flows_on : Turn → Turn
flows_on t = output (pays_ack t)

unfoldable pub flows : Turn → Turn
flows t = judged (unless_over flows_on t)

unfoldable pub ends_writing : Turn → Turn
ends_writing t =
    if is_opening t.tcb.control.state then t else output (changed (with_control writing_ended) t)

-- the end of reading
abbrev pub reading_ended : Control → Control
reading_ended c = record c { reading_ended = true }

unfoldable pub ends_reading : Turn → Turn
ends_reading t = changed (with_control reading_ended) t

abbrev pub shuts_end : Shut → Turn → Turn
shuts_end Reading t = ends_reading t
shuts_end Writing t = ends_writing t
shuts_end Both t = ends_writing (ends_reading t)

unfoldable pub shuts : Shut → Turn → Turn
shuts end t = judged (shuts_end end t)

-- the socket is closed: a connection with bytes that nobody read is reset (section 3.6.1)
abbrev pub socket_closed : Control → Control
socket_closed c = record c { closed = true }

unfoldable pub closes_socket : Turn → Turn
closes_socket t =
    if is_syn_sent t.tcb.control.state || is_over t.tcb.control.state then vanishes t
    else if nat_lt 0 (unread t.tcb) then vanishes (sends_reset t)
    else ends_writing t

unfoldable pub closes : Turn → Turn
closes t = judged (closes_socket (changed (with_control socket_closed) t))

-- the error is taken by the call that answers it
unfoldable pub error_taken : Tcb → Tcb
error_taken r = with_control (λ c. record c { error = None }) r

abbrev pub expired_again : Control → Control
expired_again c = record c { retries = c.retries + 1 }

-- with text or the FIN in flight an expiry tells of a loss (RFC 5681, section 3.1)
unfoldable pub backs_off : Tcb → Tcb
backs_off r =
    if is_synchronized r.control.state && is_in_flight r
    then happens (times_out r.control.retries r.una r.highest) r
    else r

abbrev pub counts_expiry : Turn → Turn
counts_expiry t = record (changed (with_control expired_again) t) { started = true }

-- the window shrinks, the expiry counts, and the timer starts again
unfoldable pub retries_once : Turn → Turn
retries_once t = sends_one (counts_expiry (changed backs_off t))

-- at the seventh expiry in a row the record gives up
unfoldable pub gives_up : Turn → Turn
gives_up t = if is_syn_received t.tcb.control.state then vanishes t else ends Etimedout t

unfoldable pub expires_running : Turn → Turn
expires_running t =
    if is_time_wait t.tcb.control.state then vanishes t
    else if nat_lt t.tcb.control.retries 6 then retries_once t
    else gives_up t

-- an expiry of a timer that doesn't run is none
unfoldable pub expires : Turn → Turn
expires t = if t.tcb.control.timer then judged (expires_running t) else t
