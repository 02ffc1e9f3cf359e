-- what a record keeps as its numbers are acknowledged
use Rattle.std.proofs.Common.{◌≡◌, ℕ, ◌+◌, ◌≤◌, inl, nat_lt, List, [], Bool, true, false, if◌then◌else◌, refl, sym, ap, subst, arith}
use Rattle.sock_tcp.specs.declared.segment.state.TcpState.{TcpState}
use Rattle.sock_tcp.specs.declared.segment.state.TcpState.TheVariants.{SynSent, SynReceived, Established, FinWait1, FinWait2, CloseWait, Closing, LastAck, TimeWait, Ended, Vanished}
use Rattle.sock_tcp.specs.segment.Refusal.{one_if}
use Rattle.sock_tcp.specs.segment.State.{after_own_fin, is_opening, is_syn_sent, is_syn_received, is_synchronized}
use Rattle.sock_tcp.specs.connection.Tcb.{Tcb, Turn, data_end, changed}
use Rattle.sock_tcp.specs.connection.Timer.{needs_timer, judged, restarts}
use Rattle.sock_tcp.specs.connection.Congestion.{CongestionEvent, Flight, after_event, flight_of, tells_loss}
use Rattle.sock_tcp.specs.connection.Congestion.CongestionEvent.{opens, acknowledges, duplicates}
use Rattle.sock_tcp.specs.connection.Arrival.{peer_known, established, establishes, own_fin_acknowledged, state_advanced, advanced, restarts_timer, advances, duplicate_heard, hears_duplicate}
use Rattle.sim_base.specs.declared.packet.Packet.{Packet}
use Rattle.tcp_laws.specs.Received.{FitsTaken}
use Rattle.tcp_laws.specs.Window.{FitWindow}
use Rattle.sock_tcp.proofs.Connections.Phases.{opening_of}
use Rattle.sock_tcp.proofs.Connections.Advance.{phase_advanced, not_all}
use Rattle.tcp_laws.proofs.Tests.{by_test, by_tests}
use Rattle.tcp_laws.proofs.Holds.{Kept, kept_after, Holds}
use Rattle.tcp_laws.proofs.Sending.{holds_restarts, holds_judged, holds_sends_one}

-- nothing is sent yet
fits_none : (again : Bool) (r : Tcb) (packets : List Packet) → packets ≡ [] → FitWindow again r packets
fits_none again r packets e =
    subst (λ (xs : List Packet). FitWindow again r xs) (sym e) (inl tt)

-- the handshake of a passive open
received_stage : (state : TcpState) (taken : Bool) (rcv : ℕ) → is_syn_received state ≡ true → FitsTaken state taken rcv → (taken ≡ false) × (1 ≤ rcv)
received_stage SynSent taken rcv e h = cc
received_stage SynReceived taken rcv e h = h
received_stage Established taken rcv e h = cc
received_stage FinWait1 taken rcv e h = cc
received_stage FinWait2 taken rcv e h = cc
received_stage CloseWait taken rcv e h = cc
received_stage Closing taken rcv e h = cc
received_stage LastAck taken rcv e h = cc
received_stage TimeWait taken rcv e h = cc
received_stage Ended taken rcv e h = cc
received_stage Vanished taken rcv e h = cc

sent_stage : (state : TcpState) (taken : Bool) (rcv : ℕ) → is_syn_sent state ≡ true → FitsTaken state taken rcv → rcv ≡ 0
sent_stage SynSent taken rcv e h = h
sent_stage SynReceived taken rcv e h = cc
sent_stage Established taken rcv e h = cc
sent_stage FinWait1 taken rcv e h = cc
sent_stage FinWait2 taken rcv e h = cc
sent_stage CloseWait taken rcv e h = cc
sent_stage Closing taken rcv e h = cc
sent_stage LastAck taken rcv e h = cc
sent_stage TimeWait taken rcv e h = cc
sent_stage Ended taken rcv e h = cc
sent_stage Vanished taken rcv e h = cc

pub opening_received : (state : TcpState) → is_syn_received state ≡ true → is_opening state ≡ true
opening_received SynSent e = refl
opening_received SynReceived e = refl
opening_received Established e = cc
opening_received FinWait1 e = cc
opening_received FinWait2 e = cc
opening_received CloseWait e = cc
opening_received Closing e = cc
opening_received LastAck e = cc
opening_received TimeWait e = cc
opening_received Ended e = cc
opening_received Vanished e = cc

opening_sent : (state : TcpState) → is_syn_sent state ≡ true → is_opening state ≡ true
opening_sent SynSent e = refl
opening_sent SynReceived e = refl
opening_sent Established e = cc
opening_sent FinWait1 e = cc
opening_sent FinWait2 e = cc
opening_sent CloseWait e = cc
opening_sent Closing e = cc
opening_sent LastAck e = cc
opening_sent TimeWait e = cc
opening_sent Ended e = cc
opening_sent Vanished e = cc

abbrev pub opening_of_turn : Turn → CongestionEvent
opening_of_turn t = opens (nat_lt 0 t.tcb.control.retries)

holds_established : (f : Kept) (r0 : Tcb) (window : ℕ) (t : Turn) → is_syn_received t.tcb.control.state ≡ true → t.sent ≡ [] → Holds f r0 t → Holds (kept_after (opening_of_turn t) f) r0 (changed (established window) t)
unfolding established
holds_established f r0 window t s sent h =
    let r = t.tcb in
    let c = r.control in
    let o = opening_of c.state _ _ _ _ _ (opening_received c.state s) h.order.phase in
    let k = received_stage c.state c.fin_taken r.rcv s h.heard.stage in
    record {
      order = record {
        unacknowledged = omega (arith, o.2);
        next = h.order.next;
        last = h.order.last;
        phase = (o.0, omega arith, omega (arith, o.2), omega (arith, o.3));
      };
      heard = record {
        nothing = h.heard.nothing;
        expected = h.heard.expected;
        stage = k;
        within = h.heard.within;
        kept = h.heard.kept;
        seen = h.heard.seen;
      };
      grown = h.grown;
      sent = h.sent;
      flight = ap (after_event (opening_of_turn t)) h.flight;
      given = h.given;
      fits = fits_none f.again (established window r) t.sent sent;
      buffered = omega (arith, h.buffered, o.1);
    }

pub holds_establishes : (f : Kept) (r0 : Tcb) (window : ℕ) (t : Turn) → is_syn_received t.tcb.control.state ≡ true → t.sent ≡ [] → Holds f r0 t → Holds (kept_after (opening_of_turn t) f) r0 (establishes window t)
unfolding establishes
holds_establishes f r0 window t s sent h =
    let g = kept_after (opening_of_turn t) f in
    let u = changed (established window) t in
    holds_judged g r0 (restarts u) (holds_restarts g r0 u (holds_established f r0 window t s sent h))

-- that of an active one
holds_connected : (f : Kept) (r0 : Tcb) (seq window : ℕ) (t : Turn) → is_syn_sent t.tcb.control.state ≡ true → t.sent ≡ [] → Holds f r0 t → Holds (kept_after (opening_of_turn t) f) r0 (changed (established window) (changed (peer_known seq) t))
unfolding established peer_known
holds_connected f r0 seq window t s sent h =
    let r = t.tcb in
    let c = r.control in
    let o = opening_of c.state _ _ _ _ _ (opening_sent c.state s) h.order.phase in
    let zero = sent_stage c.state c.fin_taken r.rcv s h.heard.stage in
    let none = h.heard.nothing zero in
    let fin : one_if c.fin_taken ≡ 0 = ap one_if none.1 in
    record {
      order = record {
        unacknowledged = omega (arith, o.2);
        next = h.order.next;
        last = h.order.last;
        phase = (o.0, omega arith, omega (arith, o.2), omega (arith, o.3));
      };
      heard = record {
        nothing = λ e. absurd (omega arith);
        expected = λ b. omega (arith, none.0, fin);
        stage = (none.1, omega arith);
        within = h.heard.within;
        kept = h.heard.kept;
        seen = h.heard.seen;
      };
      grown = h.grown;
      sent = h.sent;
      flight = ap (after_event (opening_of_turn t)) h.flight;
      given = h.given;
      fits = fits_none f.again (established window (peer_known seq r)) t.sent sent;
      buffered = omega (arith, h.buffered, o.1);
    }

pub holds_connects : (f : Kept) (r0 : Tcb) (seq window : ℕ) (t : Turn) → is_syn_sent t.tcb.control.state ≡ true → t.sent ≡ [] → Holds f r0 t → Holds (kept_after (opening_of_turn t) f) r0 (establishes window (changed (peer_known seq) t))
unfolding establishes
holds_connects f r0 seq window t s sent h =
    let g = kept_after (opening_of_turn t) f in
    let u = changed (established window) (changed (peer_known seq) t) in
    holds_judged g r0 (restarts u) (holds_restarts g r0 u (holds_connected f r0 seq window t s sent h))

-- more is acknowledged
taken_after_own_fin : (state : TcpState) (taken : Bool) (rcv : ℕ) → FitsTaken state taken rcv → FitsTaken (after_own_fin state) taken rcv
taken_after_own_fin SynSent taken rcv h = h
taken_after_own_fin SynReceived taken rcv h = h
taken_after_own_fin Established taken rcv h = h
taken_after_own_fin FinWait1 taken rcv h = h
taken_after_own_fin FinWait2 taken rcv h = h
taken_after_own_fin CloseWait taken rcv h = h
taken_after_own_fin Closing taken rcv h = h
taken_after_own_fin LastAck taken rcv h = tt
taken_after_own_fin TimeWait taken rcv h = h
taken_after_own_fin Ended taken rcv h = tt
taken_after_own_fin Vanished taken rcv h = tt

taken_advanced : (state : TcpState) (fin taken : Bool) (rcv : ℕ) → FitsTaken state taken rcv → FitsTaken (state_advanced fin state) taken rcv
taken_advanced state fin taken rcv h =
    by_test (λ (s : TcpState). FitsTaken s taken rcv) fin (after_own_fin state) state (λ e. taken_after_own_fin state taken rcv h) (λ e. h)

holds_advanced : (f : Kept) (r0 : Tcb) (by window : ℕ) (t : Turn) → is_synchronized t.tcb.control.state ≡ true → t.tcb.una + by ≤ t.tcb.highest → t.sent ≡ [] → Holds f r0 t → Holds (kept_after (acknowledges by) f) r0 (changed (advanced by window) t)
unfolding advanced
holds_advanced f r0 by window t s b sent h =
    let r = t.tcb in
    let c = r.control in
    let fin = own_fin_acknowledged by r in
    record {
      order = record {
        unacknowledged = omega arith;
        next = omega (arith, h.order.next);
        last = h.order.last;
        phase = phase_advanced c.state fin c.fin_wanted r.una r.nxt r.highest (data_end r) by (λ e m n. not_all r.una by (data_end r) r.highest e m n) h.order.unacknowledged b s h.order.phase;
      };
      heard = record {
        nothing = h.heard.nothing;
        expected = h.heard.expected;
        stage = taken_advanced c.state fin c.fin_taken r.rcv h.heard.stage;
        within = h.heard.within;
        kept = h.heard.kept;
        seen = h.heard.seen;
      };
      grown = h.grown;
      sent = h.sent;
      flight = ap (after_event (acknowledges by)) h.flight;
      given = h.given;
      fits = fits_none f.again (advanced by window r) t.sent sent;
      buffered = omega (arith, h.buffered);
    }

pub holds_advances : (f : Kept) (r0 : Tcb) (by window : ℕ) (t : Turn) → is_synchronized t.tcb.control.state ≡ true → t.tcb.una + by ≤ t.tcb.highest → t.sent ≡ [] → Holds f r0 t → Holds (kept_after (acknowledges by) f) r0 (advances by window t)
unfolding advances
holds_advances f r0 by window t s b sent h =
    let g = kept_after (acknowledges by) f in
    let u = changed (advanced by window) t in
    let k = holds_advanced f r0 by window t s b sent h in
    let test = restarts_timer by window t.tcb.control in
    holds_judged g r0 (if test then restarts u else u)
    (by_test (Holds g r0) test (restarts u) u (λ e. holds_restarts g r0 u k) (λ e. k))

-- where the numbers are afterwards, and that nothing is sent
abbrev pub SameNumbers : Tcb → Turn → Type 0
SameNumbers r t = (t.tcb.una ≡ r.una) × (t.tcb.highest ≡ r.highest) × (t.sent ≡ [])

numbers_restarts : (r : Tcb) (t : Turn) → SameNumbers r t → SameNumbers r (restarts t)
unfolding restarts
numbers_restarts r t h = h

numbers_judged : (r : Tcb) (t : Turn) → SameNumbers r t → SameNumbers r (judged t)
unfolding judged
numbers_judged r t h =
    by_test (SameNumbers r) (needs_timer t.tcb) _ _
    (λ e. by_test (SameNumbers r) t.tcb.control.timer _ _ (λ k. h) (λ k. h))
    (λ e. h)

numbers_advanced : (window : ℕ) (t : Turn) → t.sent ≡ [] → SameNumbers t.tcb (changed (advanced 0 window) t)
unfolding advanced
numbers_advanced window t e = (omega arith, refl, e)

pub numbers_advances : (window : ℕ) (t : Turn) → t.sent ≡ [] → SameNumbers t.tcb (advances 0 window t)
unfolding advances
numbers_advances window t e =
    let u = changed (advanced 0 window) t in
    let test = restarts_timer 0 window t.tcb.control in
    let k = numbers_advanced window t e in
    numbers_judged t.tcb (if test then restarts u else u)
    (by_test (SameNumbers t.tcb) test (restarts u) u (λ m. numbers_restarts t.tcb u k) (λ m. k))

-- a duplicate
abbrev pub duplicate_of_turn : Turn → CongestionEvent
duplicate_of_turn t = duplicates t.tcb.una t.tcb.highest

holds_duplicate_heard : (f : Kept) (r0 : Tcb) (t : Turn) → t.sent ≡ [] → Holds f r0 t → Holds (kept_after (duplicate_of_turn t) f) r0 (changed duplicate_heard t)
holds_duplicate_heard f r0 t sent h = record {
  order = h.order;
  heard = h.heard;
  grown = h.grown;
  sent = h.sent;
  flight = ap (after_event (duplicate_of_turn t)) h.flight;
  given = h.given;
  fits = fits_none f.again (duplicate_heard t.tcb) t.sent sent;
  buffered = h.buffered;
}

-- where it tells of a loss, text goes out again
abbrev pub kept_heard : Turn → Kept → Kept
kept_heard t f = record (kept_after (duplicate_of_turn t) f) {
  again = (if tells_loss t.tcb.una f.flight then true else f.again);
}

pub holds_hears_duplicate : (f : Kept) (r0 : Tcb) (t : Turn) → t.sent ≡ [] → Holds f r0 t → Holds (kept_heard t f) r0 (hears_duplicate t)
unfolding hears_duplicate
holds_hears_duplicate f r0 t sent h =
    let g = kept_after (duplicate_of_turn t) f in
    let u = changed duplicate_heard t in
    let k = holds_duplicate_heard f r0 t sent h in
    subst (λ (flight : Flight). Holds (record g { again = (if tells_loss t.tcb.una flight then true else f.again) }) r0 (hears_duplicate t)) h.flight
    (by_tests (λ (v : Turn) (again : Bool). Holds (record g { again = again }) r0 v) (tells_loss t.tcb.una (flight_of t.tcb)) _ _ _ _
    (λ e. holds_sends_one g r0 u sent k)
    (λ e. k))
