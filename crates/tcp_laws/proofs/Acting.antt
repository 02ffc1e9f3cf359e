-- every act on a record keeps what records keep
use Rattle.std.proofs.Common.{◌≡◌, ℕ, ◌+◌, ◌-◌, ◌==◌, ◌≤◌, ◌^◌, ◌%◌, ◌&&◌, nat_lt, nat_le, List, [], ◌∷◌, ◌++◌, inl, length, take, append-nil, not, Bool, true, false, refl, sym, subst, arith}
use Rattle.std.specs.Prelude.{fold}
use Rattle.std.proofs.lemmas.Bool.Decides.{nat_tests}
use Rattle.sim_base.specs.declared.errno.Errno.TheVariants.{Econnrefused, Econnreset, Etimedout}
use Rattle.sim_base.specs.declared.packet.Packet.{Packet}
use Rattle.sim_base.specs.declared.packet.Load.{Load}
use Rattle.sim_base.specs.declared.packet.Load.TheVariants.{Udp, Tcp}
use Rattle.sock_tcp.specs.declared.segment.header.Header.{Header}
use Rattle.sock_tcp.specs.declared.segment.number.Distance.{Distance}
use Rattle.sock_tcp.specs.declared.segment.number.Distance.TheVariants.{Ahead, Behind}
use Rattle.sock_tcp.specs.declared.segment.state.TcpState.{TcpState}
use Rattle.sock_tcp.specs.declared.segment.verdict.Verdict.{Verdict}
use Rattle.sock_tcp.specs.declared.segment.verdict.Verdict.TheVariants.{Dropped, Acknowledged, SynAcknowledged, Refused, ConnectRefused, Reset, Gone, Connects, Establishes, Advances, Continues}
use Rattle.sock_tcp.specs.segment.Header.{header_of}
use Rattle.sock_tcp.specs.segment.Number.{wire, distance}
use Rattle.sock_tcp.specs.segment.State.{is_over, is_time_wait, is_syn_sent, is_syn_received, is_synchronized}
use Rattle.sock_tcp.specs.segment.Verdict.{syn_sent_verdict, reset_verdict, syn_verdict, distance_verdict, ack_verdict, synchronized_verdict, verdict_of}
use Rattle.sock_tcp.specs.connection.Tcb.{Tcb, Turn, changed}
use Rattle.sock_tcp.specs.connection.Begin.{begin}
use Rattle.sock_tcp.specs.connection.Segment.{sends_ack}
use Rattle.sock_tcp.specs.connection.Timer.{is_in_flight}
use Rattle.sock_tcp.specs.connection.Congestion.{CongestionEvent, Flight, after_event, flight_of, is_duplicate}
use Rattle.sock_tcp.specs.connection.Congestion.CongestionEvent.{acknowledges, duplicates}
use Rattle.sock_tcp.specs.connection.Arrival.{verdict, peer_known, establishes, advances, hears_duplicate, notices, connects, acts_on, takes_segment, takes_load, takes_packet}
use Rattle.sock_tcp.specs.connection.Process.{backs_off, counts_expiry, retries_once, gives_up, expires_running, expires}
use Rattle.tcp_laws.specs.Acts.{Act, acted}
use Rattle.tcp_laws.specs.Acts.Act.{arrival, write, read, flow, shut, close, expiry, error_read}
use Rattle.tcp_laws.specs.Order.{IsInOrder}
use Rattle.tcp_laws.specs.Received.{IsCounted, given_by}
use Rattle.tcp_laws.specs.Window.{opening_event, verdict_events, load_events, loss_events, running_events, expiry_events, events_of, any_tells, sends_again}
use Rattle.sock_tcp.proofs.Segments.States.{is_synchronized_else}
use Rattle.tcp_laws.proofs.Tests.{by_test, by_tests}
use Rattle.tcp_laws.proofs.Holds.{Kept, kept_of, kept_after, kept_again, Holds, holds_again, IsBuffered, holds_begin}
use Rattle.tcp_laws.proofs.Sending.{and_left, same_number, opening_una, holds_sends_ack, holds_sends_syn_ack, holds_sends_refusal, holds_judged, holds_sends_one, holds_output}
use Rattle.tcp_laws.proofs.Ends.{holds_ends, holds_vanishes, holds_shuts, holds_closes, holds_flows, holds_error_taken, holds_writes}
use Rattle.tcp_laws.proofs.Receiving.{holds_receives, holds_reads}
use Rattle.tcp_laws.proofs.Acknowledging.{opening_received, holds_establishes, holds_connects, holds_advances, numbers_advances, holds_hears_duplicate}

-- in which states these verdicts come, and how much is acknowledged at most
abbrev pub Comes : TcpState → ℕ → Verdict → Type 0
Comes state n SynAcknowledged = is_syn_received state ≡ true
Comes state n Connects = is_syn_sent state ≡ true
Comes state n Establishes = is_syn_received state ≡ true
Comes state n (Advances by) = (is_synchronized state ≡ true) × (by ≤ n)
Comes state n v = Unit {0}

comes_syn_sent : (state : TcpState) (n first : ℕ) (h : Header) → is_syn_sent state ≡ true → Comes state n (syn_sent_verdict first h)
unfolding syn_sent_verdict
comes_syn_sent state n first h s =
    by_test (Comes state n) (h.has_ack && not (h.ack == first)) _ _
    (λ e. by_test (Comes state n) h.rst _ _ (λ k. tt) (λ k. tt))
    (λ e.
    by_test (Comes state n) h.rst _ _
    (λ k. by_test (Comes state n) h.has_ack _ _ (λ m. tt) (λ m. tt))
    (λ k. by_test (Comes state n) (h.syn && h.has_ack) _ _ (λ m. s) (λ m. tt)))

comes_reset : (state : TcpState) (n : ℕ) → Comes state n (reset_verdict state)
comes_reset state n =
    by_test (Comes state n) (is_syn_received state) _ _
    (λ e. tt)
    (λ e. by_test (Comes state n) (is_time_wait state) _ _ (λ k. tt) (λ k. tt))

comes_syn : (state : TcpState) (n rcv seq : ℕ) → Comes state n (syn_verdict state rcv seq)
comes_syn state n rcv seq =
    by_test (Comes state n) (is_syn_received state && ((seq + 1) % 2 ^ 32 == rcv)) _ _
    (λ e. and_left (is_syn_received state) ((seq + 1) % 2 ^ 32 == rcv) e)
    (λ e. tt)

le_of_test : (a b : ℕ) → nat_le a b ≡ true → a ≤ b
le_of_test a b e = grind (arith, nat_tests)

comes_distance : (state : TcpState) (n : ℕ) (d : Distance) → is_synchronized state ≡ true → Comes state n (distance_verdict n d)
comes_distance state n (Ahead by) s =
    by_test (Comes state n) (nat_le by n) (Advances by) Acknowledged (λ e. (s, le_of_test by n e)) (λ e. tt)
comes_distance state n (Behind by) s = tt

comes_ack : (state : TcpState) (n una ack : ℕ) → is_over state ≡ false → is_syn_sent state ≡ false → Comes state n (ack_verdict state una n ack)
comes_ack state n una ack o s =
    by_test (Comes state n) (is_syn_received state) _ _
    (λ e. by_test (Comes state n) (ack == wire una 1) _ _ (λ k. e) (λ k. tt))
    (λ e. comes_distance state n (distance una ack) (is_synchronized_else state o s e))

comes_synchronized : (state : TcpState) (n rcv una : ℕ) (h : Header) → is_over state ≡ false → is_syn_sent state ≡ false → Comes state n (synchronized_verdict state rcv una n h)
unfolding synchronized_verdict
comes_synchronized state n rcv una h o s =
    by_test (Comes state n) h.rst _ _
    (λ e. by_test (Comes state n) (h.seq == rcv) _ _ (λ k. comes_reset state n) (λ k. tt))
    (λ e.
    by_test (Comes state n) h.syn _ _
    (λ k. comes_syn state n rcv h.seq)
    (λ k. by_test (Comes state n) h.has_ack _ _ (λ m. comes_ack state n una h.ack o s) (λ m. tt)))

verdict_comes : (state : TcpState) (n rcv una : ℕ) (h : Header) → Comes state n (verdict_of state rcv una n h)
unfolding verdict_of
verdict_comes state n rcv una h =
    by_test (Comes state n) (is_over state) _ _
    (λ o. tt)
    (λ o.
    by_test (Comes state n) (is_syn_sent state) _ _
    (λ s. comes_syn_sent state n (wire una 1) h s)
    (λ s. comes_synchronized state n rcv una h o s))

-- what a segment does
abbrev pub flight_by : List CongestionEvent → Flight → Flight
flight_by events f = fold (λ g e. after_event e g) f events

abbrev pub kept_by : List CongestionEvent → Tcb → Kept
kept_by events r = record {
  flight = flight_by events (flight_of r);
  given = take r.read r.received;
  again = any_tells r events;
}

abbrev Follows : Tcb → Turn → List CongestionEvent → Type 0
Follows r t events = Holds (kept_by events r) r t

nothing_acknowledged : (by count : ℕ) (h : Header) (r : Tcb) → is_duplicate by h count r ≡ true → by ≡ 0
unfolding is_duplicate
nothing_acknowledged by count h r e =
    same_number by 0 (and_left (by == 0) (nat_lt r.una r.highest && ((count == 0) && (not h.syn && (not h.fin && (h.window == r.control.window))))) e)

heard_twice : (r : Tcb) (window : ℕ) → Holds (kept_of r) r (begin r) → is_synchronized r.control.state ≡ true → r.una ≤ r.highest → Follows r (hears_duplicate (advances 0 window (begin r))) (duplicates r.una r.highest ∷ [])
heard_twice r window h s b =
    let t = advances 0 window (begin r) in
    let n = numbers_advances window (begin r) refl in
    let k = holds_hears_duplicate (kept_after (acknowledges 0) (kept_of r)) r t n.2 (holds_advances (kept_of r) r 0 window (begin r) s (omega arith) refl h) in
    subst (λ (m : ℕ). Holds (kept_by (duplicates r.una m ∷ []) r) r (hears_duplicate t)) n.1
    (subst (λ (m : ℕ). Holds (kept_by (duplicates m t.tcb.highest ∷ []) r) r (hears_duplicate t)) n.0 k)

noticed : (r : Tcb) (h : Header) (count by : ℕ) → Holds (kept_of r) r (begin r) → is_synchronized r.control.state ≡ true → r.una + by ≤ r.highest → Follows r (notices (is_duplicate by h count r) (advances by h.window (begin r))) (verdict_events (Advances by) h count r)
unfolding notices
noticed r h count by k s b =
    by_tests (λ (t : Turn) (events : List CongestionEvent). Follows r t events) (is_duplicate by h count r) _ _ _ _
    (λ e.
    let z = nothing_acknowledged by count h r e in
    subst (λ (n : ℕ). Follows r (hears_duplicate (advances n h.window (begin r))) (duplicates r.una r.highest ∷ [])) (sym z) (heard_twice r h.window k s (omega arith)))
    (λ e. holds_advances (kept_of r) r by h.window (begin r) s b refl k)

connects_hold : (h : Header) (r : Tcb) → is_syn_sent r.control.state ≡ true → Holds (kept_of r) r (begin r) → Follows r (connects h (begin r)) (opening_event r)
unfolding connects
connects_hold h r c k =
    let g = kept_by (opening_event r) r in
    let u = establishes h.window (changed (peer_known h.seq) (begin r)) in
    holds_output g r (sends_ack u) (holds_sends_ack g r u (holds_connects (kept_of r) r h.seq h.window (begin r) c refl k))

acts_hold : (v : Verdict) (h : Header) (text : List ℕ) (r : Tcb) → Comes r.control.state (r.highest - r.una) v → Holds (kept_of r) r (begin r) → Follows r (acts_on v h text (begin r)) (verdict_events v h (length text) r)
acts_hold Dropped h text r c k = k
acts_hold Acknowledged h text r c k = holds_sends_ack (kept_of r) r (begin r) k
acts_hold SynAcknowledged h text r c k =
    holds_sends_syn_ack (kept_of r) r (begin r) (opening_una (kept_of r) r (begin r) (opening_received r.control.state c) k) k
acts_hold Refused h text r c k = holds_sends_refusal (kept_of r) r h.ack (begin r) k
acts_hold ConnectRefused h text r c k = holds_ends (kept_of r) r Econnrefused (begin r) k
acts_hold Reset h text r c k = holds_ends (kept_of r) r Econnreset (begin r) k
acts_hold Gone h text r c k = holds_vanishes (kept_of r) r (begin r) k
acts_hold Connects h text r c k = connects_hold h r c k
acts_hold Establishes h text r c k =
    holds_receives (kept_by (opening_event r) r) r h text (establishes h.window (begin r)) (holds_establishes (kept_of r) r h.window (begin r) c refl k)
acts_hold (Advances by) h text r c k =
    let within : r.una + by ≤ r.highest = omega (arith, c.1, k.order.unacknowledged, k.order.next) in
    holds_receives (kept_by (verdict_events (Advances by) h (length text) r) r) r h text (notices (is_duplicate by h (length text) r) (advances by h.window (begin r))) (noticed r h (length text) by k c.0 within)
acts_hold Continues h text r c k = holds_receives (kept_of r) r h text (begin r) k

segment_holds : (h : Header) (text : List ℕ) (r : Tcb) → Holds (kept_of r) r (begin r) → Follows r (takes_segment h text (begin r)) (verdict_events (verdict r h) h (length text) r)
unfolding takes_segment
segment_holds h text r k =
    let v = verdict r h in
    let comes = verdict_comes r.control.state (r.highest - r.una) (wire r.irs r.rcv) (wire r.iss r.una) h in
    holds_judged (kept_by (verdict_events v h (length text) r) r) r (acts_on v h text (begin r)) (acts_hold v h text r comes k)

load_holds : (load : Load) (r : Tcb) → Holds (kept_of r) r (begin r) → Follows r (takes_load load (begin r)) (load_events load r)
load_holds (Udp text) r k = k
load_holds (Tcp flags seq ack window text) r k = segment_holds (header_of flags seq ack window) text r k

packet_holds : (p : Packet) (r : Tcb) → Holds (kept_of r) r (begin r) → Follows r (takes_packet p (begin r)) (load_events p.load r)
unfolding takes_packet
packet_holds p r k = load_holds p.load r k

-- what an expiry does
backed_off : (r : Tcb) → Holds (kept_of r) r (begin r) → Follows r (counts_expiry (changed backs_off (begin r))) (loss_events r)
unfolding backs_off
backed_off r k =
    by_tests (λ (b : Tcb) (events : List CongestionEvent). Follows r (counts_expiry (record (begin r) { tcb = b })) events) (is_synchronized r.control.state && is_in_flight r) _ _ _ _
    (λ e. record { order = k.order; heard = k.heard; grown = k.grown; sent = tt; flight = refl; given = refl; fits = inl tt; buffered = k.buffered })
    (λ e. record { order = k.order; heard = k.heard; grown = k.grown; sent = tt; flight = refl; given = refl; fits = inl tt; buffered = k.buffered })

-- it may send text again
abbrev Expires : Tcb → Turn → List CongestionEvent → Type 0
Expires r t events = Holds (kept_again (kept_by events r)) r t

retries_hold : (r : Tcb) → Holds (kept_of r) r (begin r) → Expires r (retries_once (begin r)) (loss_events r)
unfolding retries_once
retries_hold r k =
    holds_sends_one (kept_by (loss_events r) r) r (counts_expiry (changed backs_off (begin r))) refl (backed_off r k)

gives_up_holds : (r : Tcb) → Holds (kept_of r) r (begin r) → Follows r (gives_up (begin r)) []
unfolding gives_up
gives_up_holds r k =
    by_test (Holds (kept_of r) r) (is_syn_received r.control.state) _ _
    (λ e. holds_vanishes (kept_of r) r (begin r) k)
    (λ e. holds_ends (kept_of r) r Etimedout (begin r) k)

running_holds : (r : Tcb) → Holds (kept_of r) r (begin r) → Expires r (expires_running (begin r)) (running_events r)
unfolding expires_running
running_holds r k =
    by_tests (Expires r) (is_time_wait r.control.state) _ _ _ _
    (λ e. holds_again (kept_of r) r _ (holds_vanishes (kept_of r) r (begin r) k))
    (λ e.
    by_tests (Expires r) (nat_lt r.control.retries 6) _ _ _ _
    (λ m. retries_hold r k)
    (λ m. holds_again (kept_of r) r _ (gives_up_holds r k)))

expiry_holds : (r : Tcb) → Holds (kept_of r) r (begin r) → Expires r (expires (begin r)) (expiry_events r)
unfolding expires
expiry_holds r k =
    by_tests (Expires r) r.control.timer _ _ _ _
    (λ e. holds_judged (kept_again (kept_by (running_events r) r)) r (expires_running (begin r)) (running_holds r k))
    (λ e. holds_again (kept_of r) r (begin r) k)

-- every act
abbrev pub kept_acting : Act → Tcb → Kept
kept_acting act r = record {
  flight = flight_by (events_of act r) (flight_of r);
  given = take r.read r.received ++ given_by act r;
  again = sends_again act r;
}

unread_as : (r : Tcb) (t : Turn) (flight : Flight) (again : Bool) → Holds (record { flight = flight; given = take r.read r.received; again = again }) r t → Holds (record { flight = flight; given = take r.read r.received ++ []; again = again }) r t
unread_as r t flight again h =
    subst (λ (xs : List ℕ). Holds (record { flight = flight; given = xs; again = again }) r t) (sym (append-nil (take r.read r.received))) h

act_holds : (act : Act) (r : Tcb) → Holds (kept_of r) r (begin r) → Holds (kept_acting act r) r (acted act r)
act_holds (arrival p) r k = unread_as r _ _ _ (packet_holds p r k)
act_holds (write bytes) r k = unread_as r _ _ _ (holds_writes bytes r k)
act_holds (read count) r k = holds_reads count r k
act_holds flow r k = unread_as r _ _ _ (holds_flows (kept_of r) r (begin r) k)
act_holds (shut end) r k = unread_as r _ _ _ (holds_shuts (kept_of r) r end (begin r) k)
act_holds close r k = unread_as r _ _ _ (holds_closes (kept_of r) r (begin r) k)
act_holds expiry r k = unread_as r _ _ _ (expiry_holds r k)
act_holds error_read r k = unread_as r _ _ _ (holds_error_taken (kept_of r) r (begin r) k)

pub acts_keep : (act : Act) (r : Tcb) → IsInOrder r → IsCounted r → IsBuffered r → Holds (kept_acting act r) r (acted act r)
acts_keep act r order heard buffered = act_holds act r (holds_begin r order heard buffered)
