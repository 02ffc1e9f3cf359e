-- a record on which segments and its timer alone have acted: it writes nothing, and once it is ESTABLISHED its timer doesn't run
use Rattle.std.proofs.Common.{◌≡◌, ℕ, ◌+◌, ◌==◌, ◌<◌, ◌≤◌, ◌^◌, ◌&&◌, ◌||◌, nat_lt, List, [], length, Bool, true, false, refl, sym, ap, ◌∙◌, arith}
use Rattle.std.proofs.lemmas.Bool.Decides.{nat_tests}
use Rattle.sim_base.specs.declared.address.Addr.{Addr}
use Rattle.sim_base.specs.declared.errno.Errno.{Errno}
use Rattle.sim_base.specs.declared.errno.Errno.TheVariants.{Econnrefused, Econnreset, Etimedout}
use Rattle.sim_base.specs.declared.packet.Packet.{Packet}
use Rattle.sim_base.specs.declared.packet.Load.{Load}
use Rattle.sim_base.specs.declared.packet.Load.TheVariants.{Udp, Tcp}
use Rattle.sock_tcp.specs.declared.segment.header.Header.{Header}
use Rattle.sock_tcp.specs.declared.segment.state.Phase.{Phase}
use Rattle.sock_tcp.specs.declared.segment.state.Phase.TheVariants.{Opening, Open, Ending, Finished, Over}
use Rattle.sock_tcp.specs.declared.segment.state.TcpState.{TcpState}
use Rattle.sock_tcp.specs.declared.segment.state.TcpState.TheVariants.{SynSent, SynReceived, Established, FinWait1, FinWait2, CloseWait, Closing, LastAck, TimeWait, Ended, Vanished}
use Rattle.sock_tcp.specs.declared.segment.verdict.Verdict.{Verdict}
use Rattle.sock_tcp.specs.declared.segment.verdict.Verdict.TheVariants.{Dropped, Acknowledged, SynAcknowledged, Refused, ConnectRefused, Reset, Gone, Connects, Establishes, Advances, Continues}
use Rattle.sock_tcp.specs.segment.Header.{header_of}
use Rattle.sock_tcp.specs.segment.State.{phase_of, is_over, is_opening, is_sending, is_syn_sent, is_syn_received, is_synchronized, is_time_wait, takes_text, after_own_fin, after_peer_fin}
use Rattle.sock_tcp.specs.segment.Control.{fresh_control}
use Rattle.sock_tcp.specs.connection.Tcb.{Tcb, Turn, data_end, changed, with_control}
use Rattle.sock_tcp.specs.connection.Begin.{begin}
use Rattle.sock_tcp.specs.connection.Congestion.{flight_of, tells_loss, is_duplicate}
use Rattle.sock_tcp.specs.connection.Segment.{sends_ack, sends_syn_ack, sends_reset, sends_refusal}
use Rattle.sock_tcp.specs.connection.Ending.{ended, vanished, ends, vanishes}
use Rattle.sock_tcp.specs.connection.Timer.{needs_timer_in, needs_timer, is_in_flight, timer_set, judged, restarted, restarts}
use Rattle.sock_tcp.specs.connection.Output.{sends_text, fin_is_next, moves_next, sends_fin, follows, output}
use Rattle.sock_tcp.specs.connection.Retransmission.{sends_again_text, sends_again, sends_syn, sends_syn_again, sends_one}
use Rattle.sock_tcp.specs.connection.Arrival.{verdict, peer_known, established, establishes, state_advanced, advanced, restarts_timer, advances, duplicate_heard, hears_duplicate, notices, fitting_text, keeps, discards, text_comes, receives_text, fin_is_due, fin_received, receives_fin, wants_ack, answers, waits_again, unless_over, concludes, receives, connects, acts_on, takes_segment, takes_load, takes_packet}
use Rattle.sock_tcp.specs.connection.Process.{fresh_tcb, answered, backs_off, counts_expiry, retries_once, gives_up, expires_running, expires}
use Rattle.sock_tcp.specs.connection.StandsFor.{FitsPhase}
use Rattle.tcp_laws.specs.Acts.Start.{passive}
use Rattle.tcp_laws.specs.Acts.Act.{arrival, expiry}
use Rattle.tcp_laws.specs.Order.{IsInOrder}
use Rattle.tcp_laws.specs.Received.{IsCounted}
use Rattle.tcp_laws.proofs.Tests.{by_test}
use Rattle.tcp_laws.proofs.Holds.{IsBuffered}
use Rattle.tcp_laws.proofs.Acting.{acts_keep}
use Rattle.tcp_laws.proofs.Histories.{begun_holds}

-- nothing was written, and writing is open; before ESTABLISHED it never was; and what was stays so
pub record Quiet (b : Bool) (r : Tcb) : Type 0 where
  pub written : r.written ≡ []
  pub wanted : r.control.fin_wanted ≡ false
  pub opening : is_opening r.control.state ≡ true → r.control.was_established ≡ false
  pub was : b ≡ true → r.control.was_established ≡ true

abbrev Is : Bool → Turn → Type 0
Is b t = Quiet b t.tcb

-- what changes none of these
quiet_sends_ack : (b : Bool) (t : Turn) → Is b t → Is b (sends_ack t)
unfolding sends_ack
quiet_sends_ack b t h = h

quiet_sends_syn_ack : (b : Bool) (t : Turn) → Is b t → Is b (sends_syn_ack t)
unfolding sends_syn_ack
quiet_sends_syn_ack b t h = h

quiet_sends_reset : (b : Bool) (t : Turn) → Is b t → Is b (sends_reset t)
unfolding sends_reset
quiet_sends_reset b t h = h

quiet_sends_refusal : (b : Bool) (ack : ℕ) (t : Turn) → Is b t → Is b (sends_refusal ack t)
unfolding sends_refusal
quiet_sends_refusal b ack t h = h

quiet_sends_syn : (b : Bool) (t : Turn) → Is b t → Is b (sends_syn t)
unfolding sends_syn
quiet_sends_syn b t h = h

quiet_restarts : (b : Bool) (t : Turn) → Is b t → Is b (restarts t)
unfolding restarts restarted
quiet_restarts b t h = record { written = h.written; wanted = h.wanted; opening = h.opening; was = h.was }

quiet_timer : (b on started : Bool) (t : Turn) → Is b t → Is b (record (changed (with_control (timer_set on)) t) { started = started })
quiet_timer b on started t h = record { written = h.written; wanted = h.wanted; opening = h.opening; was = h.was }

quiet_judged : (b : Bool) (t : Turn) → Is b t → Is b (judged t)
unfolding judged
quiet_judged b t h =
    by_test (Is b) (needs_timer t.tcb) _ _
    (λ e. by_test (Is b) t.tcb.control.timer _ _ (λ k. h) (λ k. quiet_timer b true true t h))
    (λ e. quiet_timer b false t.started t h)

quiet_sends_text : (b : Bool) (t : Turn) → Is b t → Is b (sends_text t)
unfolding sends_text
quiet_sends_text b t h = record { written = h.written; wanted = h.wanted; opening = h.opening; was = h.was }

quiet_moves : (b : Bool) (n : ℕ) (t : Turn) → Is b t → Is b (changed (moves_next n) t)
quiet_moves b n t h = record { written = h.written; wanted = h.wanted; opening = h.opening; was = h.was }

quiet_sends_fin : (b : Bool) (t : Turn) → Is b t → Is b (sends_fin t)
unfolding sends_fin
quiet_sends_fin b t h =
    by_test (Is b) (fin_is_next t.tcb) _ _ (λ e. record { written = h.written; wanted = h.wanted; opening = h.opening; was = h.was }) (λ e. h)

quiet_follows : (b : Bool) (t : Turn) → Is b t → Is b (follows t)
unfolding follows
quiet_follows b t h = record { written = h.written; wanted = h.wanted; opening = h.opening; was = h.was }

quiet_output : (b : Bool) (t : Turn) → Is b t → Is b (output t)
unfolding output
quiet_output b t h =
    by_test (Is b) (is_sending t.tcb.control.state) _ _
    (λ s. quiet_follows b (sends_fin (sends_text t)) (quiet_sends_fin b (sends_text t) (quiet_sends_text b t h)))
    (λ s. h)

quiet_sends_again_text : (b : Bool) (t : Turn) → Is b t → Is b (sends_again_text t)
unfolding sends_again_text
quiet_sends_again_text b t h = record { written = h.written; wanted = h.wanted; opening = h.opening; was = h.was }

quiet_sends_again : (b : Bool) (t : Turn) → Is b t → Is b (sends_again t)
unfolding sends_again
quiet_sends_again b t h =
    by_test (Is b) (nat_lt t.tcb.una (data_end t.tcb)) _ _
    (λ e. quiet_sends_again_text b t h)
    (λ e. quiet_sends_fin b (changed (moves_next t.tcb.una) t) (quiet_moves b t.tcb.una t h))

quiet_sends_syn_again : (b : Bool) (t : Turn) → Is b t → Is b (sends_syn_again t)
unfolding sends_syn_again
quiet_sends_syn_again b t h =
    by_test (Is b) (is_syn_sent t.tcb.control.state) _ _ (λ e. quiet_sends_syn b t h) (λ e. quiet_sends_syn_ack b t h)

quiet_sends_one : (b : Bool) (t : Turn) → Is b t → Is b (sends_one t)
unfolding sends_one
quiet_sends_one b t h =
    by_test (Is b) (is_opening t.tcb.control.state) _ _
    (λ o. quiet_sends_syn_again b t h)
    (λ o. by_test (Is b) (is_sending t.tcb.control.state) _ _ (λ s. quiet_follows b (sends_again t) (quiet_sends_again b t h)) (λ s. h))

-- the record is over
quiet_ends : (b : Bool) (error : Errno) (t : Turn) → Is b t → Is b (ends error t)
unfolding ends ended
quiet_ends b error t h = record { written = h.written; wanted = h.wanted; opening = λ e. absurd (cc); was = h.was }

quiet_vanishes : (b : Bool) (t : Turn) → Is b t → Is b (vanishes t)
unfolding vanishes vanished
quiet_vanishes b t h = record { written = h.written; wanted = h.wanted; opening = λ e. absurd (cc); was = h.was }

-- acknowledgements
quiet_established : (b : Bool) (window : ℕ) (t : Turn) → Is b t → Is b (changed (established window) t)
unfolding established
quiet_established b window t h = record { written = h.written; wanted = h.wanted; opening = λ e. absurd (cc); was = λ e. refl }

quiet_establishes : (b : Bool) (window : ℕ) (t : Turn) → Is b t → Is b (establishes window t)
unfolding establishes
quiet_establishes b window t h =
    quiet_judged b (restarts (changed (established window) t)) (quiet_restarts b (changed (established window) t) (quiet_established b window t h))

opening_before : (state : TcpState) → is_opening (after_own_fin state) ≡ true → is_opening state ≡ true
opening_before SynSent e = e
opening_before SynReceived e = e
opening_before Established e = e
opening_before FinWait1 e = e
opening_before FinWait2 e = e
opening_before CloseWait e = e
opening_before Closing e = e
opening_before LastAck e = e
opening_before TimeWait e = e
opening_before Ended e = e
opening_before Vanished e = e

opening_advanced : (fin : Bool) (state : TcpState) → is_opening (state_advanced fin state) ≡ true → is_opening state ≡ true
opening_advanced true state e = opening_before state e
opening_advanced false state e = e

quiet_advanced : (b : Bool) (by window : ℕ) (t : Turn) → Is b t → Is b (changed (advanced by window) t)
unfolding advanced
quiet_advanced b by window t h =
    record { written = h.written; wanted = h.wanted; opening = λ e. h.opening (opening_advanced _ t.tcb.control.state e); was = h.was }

quiet_advances : (b : Bool) (by window : ℕ) (t : Turn) → Is b t → Is b (advances by window t)
unfolding advances
quiet_advances b by window t h =
    let moved = changed (advanced by window) t in
    let k = quiet_advanced b by window t h in
    quiet_judged b _ (by_test (Is b) (restarts_timer by window t.tcb.control) _ _ (λ e. quiet_restarts b moved k) (λ e. k))

quiet_duplicate : (b : Bool) (t : Turn) → Is b t → Is b (changed duplicate_heard t)
quiet_duplicate b t h = record { written = h.written; wanted = h.wanted; opening = h.opening; was = h.was }

quiet_hears_duplicate : (b : Bool) (t : Turn) → Is b t → Is b (hears_duplicate t)
unfolding hears_duplicate
quiet_hears_duplicate b t h =
    by_test (Is b) (tells_loss t.tcb.una (flight_of t.tcb)) _ _
    (λ e. quiet_sends_one b (changed duplicate_heard t) (quiet_duplicate b t h))
    (λ e. quiet_duplicate b t h)

quiet_notices : (b duplicate : Bool) (t : Turn) → Is b t → Is b (notices duplicate t)
unfolding notices
quiet_notices b duplicate t h = by_test (Is b) duplicate _ _ (λ e. quiet_hears_duplicate b t h) (λ e. h)

-- text and the FIN
quiet_keeps : (b : Bool) (bytes : List ℕ) (t : Turn) → Is b t → Is b (changed (keeps bytes) t)
unfolding keeps
quiet_keeps b bytes t h = record { written = h.written; wanted = h.wanted; opening = h.opening; was = h.was }

quiet_discards : (b : Bool) (count : ℕ) (t : Turn) → Is b t → Is b (changed (discards count) t)
unfolding discards
quiet_discards b count t h = record { written = h.written; wanted = h.wanted; opening = h.opening; was = h.was }

quiet_takes : (b : Bool) (bytes : List ℕ) (t : Turn) → Is b t → Is b (text_comes bytes t)
unfolding text_comes
quiet_takes b bytes t h =
    by_test (Is b) (length bytes == 0) _ _ (λ e. h)
    (λ e. by_test (Is b) t.tcb.control.closed _ _
    (λ k. quiet_vanishes b (sends_reset t) (quiet_sends_reset b t h))
    (λ k. by_test (Is b) t.tcb.control.reading_ended _ _ (λ g. quiet_discards b (length bytes) t h) (λ g. quiet_keeps b bytes t h)))

quiet_receives_text : (b : Bool) (h : Header) (text : List ℕ) (t : Turn) → Is b t → Is b (receives_text h text t)
unfolding receives_text
quiet_receives_text b h text t k =
    by_test (Is b) (takes_text t.tcb.control.state) _ _ (λ e. quiet_takes b (fitting_text h text t.tcb) t k) (λ e. k)

opening_received : (state : TcpState) → is_opening (after_peer_fin state) ≡ true → is_opening state ≡ true
opening_received SynSent e = e
opening_received SynReceived e = e
opening_received Established e = e
opening_received FinWait1 e = e
opening_received FinWait2 e = e
opening_received CloseWait e = e
opening_received Closing e = e
opening_received LastAck e = e
opening_received TimeWait e = e
opening_received Ended e = e
opening_received Vanished e = e

quiet_fin_received : (b : Bool) (t : Turn) → Is b t → Is b (changed fin_received t)
unfolding fin_received
quiet_fin_received b t h =
    record { written = h.written; wanted = h.wanted; opening = λ e. h.opening (opening_received t.tcb.control.state e); was = h.was }

quiet_receives_fin : (b : Bool) (h : Header) (text : List ℕ) (t : Turn) → Is b t → Is b (receives_fin h text t)
unfolding receives_fin
quiet_receives_fin b h text t k =
    by_test (Is b) (fin_is_due h text t.tcb) _ _ (λ e. quiet_fin_received b t k) (λ e. k)

quiet_answers : (b wanted : Bool) (t : Turn) → Is b t → Is b (answers wanted t)
unfolding answers
quiet_answers b wanted t h = by_test (Is b) wanted _ _ (λ e. quiet_sends_ack b t h) (λ e. h)

quiet_waits_again : (b fin : Bool) (t : Turn) → Is b t → Is b (waits_again fin t)
unfolding waits_again
quiet_waits_again b fin t h = by_test (Is b) (fin && is_time_wait t.tcb.control.state) _ _ (λ e. quiet_restarts b t h) (λ e. h)

quiet_concludes : (b wanted fin : Bool) (t : Turn) → Is b t → Is b (concludes wanted fin t)
unfolding concludes
quiet_concludes b wanted fin t h =
    quiet_output b (waits_again fin (answers wanted t)) (quiet_waits_again b fin (answers wanted t) (quiet_answers b wanted t h))

quiet_unless_over : (b wanted fin : Bool) (t : Turn) → Is b t → Is b (unless_over (concludes wanted fin) t)
unfolding unless_over
quiet_unless_over b wanted fin t h =
    by_test (Is b) (is_over t.tcb.control.state) _ _ (λ e. h) (λ e. quiet_concludes b wanted fin t h)

quiet_receives : (b : Bool) (h : Header) (text : List ℕ) (t : Turn) → Is b t → Is b (receives h text t)
unfolding receives
quiet_receives b h text t k =
    quiet_unless_over b (wants_ack h text t.tcb) h.fin (receives_fin h text (receives_text h text t))
    (quiet_receives_fin b h text (receives_text h text t) (quiet_receives_text b h text t k))

quiet_peer_known : (b : Bool) (seq : ℕ) (t : Turn) → Is b t → Is b (changed (peer_known seq) t)
unfolding peer_known
quiet_peer_known b seq t h = record { written = h.written; wanted = h.wanted; opening = h.opening; was = h.was }

quiet_connects : (b : Bool) (h : Header) (t : Turn) → Is b t → Is b (connects h t)
unfolding connects
quiet_connects b h t k =
    let known = changed (peer_known h.seq) t in
    quiet_output b (sends_ack (establishes h.window known))
    (quiet_sends_ack b (establishes h.window known) (quiet_establishes b h.window known (quiet_peer_known b h.seq t k)))

quiet_acts_on : (b : Bool) (v : Verdict) (h : Header) (text : List ℕ) (t : Turn) → Is b t → Is b (acts_on v h text t)
quiet_acts_on b Dropped h text t k = k
quiet_acts_on b Acknowledged h text t k = quiet_sends_ack b t k
quiet_acts_on b SynAcknowledged h text t k = quiet_sends_syn_ack b t k
quiet_acts_on b Refused h text t k = quiet_sends_refusal b h.ack t k
quiet_acts_on b ConnectRefused h text t k = quiet_ends b Econnrefused t k
quiet_acts_on b Reset h text t k = quiet_ends b Econnreset t k
quiet_acts_on b Gone h text t k = quiet_vanishes b t k
quiet_acts_on b Connects h text t k = quiet_connects b h t k
quiet_acts_on b Establishes h text t k = quiet_receives b h text (establishes h.window t) (quiet_establishes b h.window t k)
quiet_acts_on b (Advances by) h text t k =
    quiet_receives b h text (notices (is_duplicate by h (length text) t.tcb) (advances by h.window t))
    (quiet_notices b (is_duplicate by h (length text) t.tcb) (advances by h.window t) (quiet_advances b by h.window t k))
quiet_acts_on b Continues h text t k = quiet_receives b h text t k

quiet_takes_load : (b : Bool) (load : Load) (t : Turn) → Is b t → Is b (takes_load load t)
unfolding takes_segment
quiet_takes_load b (Udp text) t k = k
quiet_takes_load b (Tcp flags seq ack window text) t k =
    let h = header_of flags seq ack window in
    quiet_judged b (acts_on (verdict t.tcb h) h text t) (quiet_acts_on b (verdict t.tcb h) h text t k)

quiet_takes_packet : (b : Bool) (p : Packet) (t : Turn) → Is b t → Is b (takes_packet p t)
unfolding takes_packet
quiet_takes_packet b p t k = quiet_takes_load b p.load t k

-- the timer expires
quiet_backs_off : (b : Bool) (t : Turn) → Is b t → Is b (changed backs_off t)
unfolding backs_off
quiet_backs_off b t h =
    by_test (Quiet b) (is_synchronized t.tcb.control.state && is_in_flight t.tcb) _ _
    (λ e. record { written = h.written; wanted = h.wanted; opening = h.opening; was = h.was }) (λ e. h)

quiet_counts_expiry : (b : Bool) (t : Turn) → Is b t → Is b (counts_expiry t)
quiet_counts_expiry b t h = record { written = h.written; wanted = h.wanted; opening = h.opening; was = h.was }

quiet_retries_once : (b : Bool) (t : Turn) → Is b t → Is b (retries_once t)
unfolding retries_once
quiet_retries_once b t h =
    quiet_sends_one b (counts_expiry (changed backs_off t)) (quiet_counts_expiry b (changed backs_off t) (quiet_backs_off b t h))

quiet_gives_up : (b : Bool) (t : Turn) → Is b t → Is b (gives_up t)
unfolding gives_up
quiet_gives_up b t h =
    by_test (Is b) (is_syn_received t.tcb.control.state) _ _ (λ e. quiet_vanishes b t h) (λ e. quiet_ends b Etimedout t h)

quiet_expires_running : (b : Bool) (t : Turn) → Is b t → Is b (expires_running t)
unfolding expires_running
quiet_expires_running b t h =
    by_test (Is b) (is_time_wait t.tcb.control.state) _ _ (λ e. quiet_vanishes b t h)
    (λ e. by_test (Is b) (nat_lt t.tcb.control.retries 6) _ _ (λ k. quiet_retries_once b t h) (λ k. quiet_gives_up b t h))

quiet_expires : (b : Bool) (t : Turn) → Is b t → Is b (expires t)
unfolding expires
quiet_expires b t h =
    by_test (Is b) t.tcb.control.timer _ _ (λ e. quiet_judged b (expires_running t) (quiet_expires_running b t h)) (λ e. h)

-- it needs no timer
not_below : (a b : ℕ) → b ≤ a → nat_lt a b ≡ false
not_below a b h = grind (arith, nat_tests)

nothing_due : (a b c d : Bool) → a ≡ false → c ≡ false → d ≡ false → (a || (b && (c || d))) ≡ false
nothing_due true b c d e f g = cc
nothing_due false true true d e f g = cc
nothing_due false true false true e f g = cc
nothing_due false true false false e f g = refl
nothing_due false false c d e f g = refl

end_at_one : (r : Tcb) → r.written ≡ [] → data_end r ≡ 1
end_at_one r e = ap (λ (xs : List ℕ). 1 + length xs) e

calm_in : (phase : Phase) (r : Tcb) → (phase ≡ Opening → ⊥) → FitsPhase phase r.control.fin_wanted r.una r.nxt r.highest (data_end r) → r.written ≡ [] → r.control.fin_wanted ≡ false → needs_timer_in phase r ≡ false
calm_in Opening r o fits written wanted = absurd (o refl)
calm_in Open r o fits written wanted =
    let end = end_at_one r written in
    nothing_due (nat_lt r.una r.highest) (r.control.window == 0) (nat_lt r.una (data_end r)) r.control.fin_wanted
    (not_below r.una r.highest (omega (arith, fits.1, fits.3, end))) (not_below r.una (data_end r) (omega (arith, fits.1, end))) wanted
calm_in Ending r o fits written wanted = let w = fits.0 in absurd (cc)
calm_in Finished r o fits written wanted = let w = fits.0 in absurd (cc)
calm_in Over r o fits written wanted = refl

opening_phase : (state : TcpState) → phase_of state ≡ Opening → is_opening state ≡ true
opening_phase SynSent e = refl
opening_phase SynReceived e = refl
opening_phase Established e = cc
opening_phase FinWait1 e = cc
opening_phase FinWait2 e = cc
opening_phase CloseWait e = cc
opening_phase Closing e = cc
opening_phase LastAck e = cc
opening_phase TimeWait e = cc
opening_phase Ended e = cc
opening_phase Vanished e = cc

never_opens : (b : Bool) (r : Tcb) → Quiet b r → r.control.was_established ≡ true → phase_of r.control.state ≡ Opening → ⊥
never_opens b r h was e = let never = h.opening (opening_phase r.control.state e) in cc

calm : (b : Bool) (r : Tcb) → Quiet b r → r.control.was_established ≡ true → IsInOrder r → needs_timer r ≡ false
unfolding needs_timer
calm b r h was order = calm_in (phase_of r.control.state) r (never_opens b r h was) order.phase h.written h.wanted

needs_same : (phase : Phase) (on : Bool) (r : Tcb) → needs_timer_in phase (with_control (timer_set on) r) ≡ needs_timer_in phase r
needs_same Opening on r = refl
needs_same Open on r = refl
needs_same Ending on r = refl
needs_same Finished on r = refl
needs_same Over on r = refl

abbrev Needs : Tcb → Turn → Type 0
Needs r x = needs_timer x.tcb ≡ needs_timer r

judged_needs : (t : Turn) → Needs t.tcb (judged t)
unfolding judged needs_timer
judged_needs t =
    by_test (Needs t.tcb) (needs_timer t.tcb) _ _
    (λ e. by_test (Needs t.tcb) t.tcb.control.timer _ _ (λ k. refl) (λ k. needs_same (phase_of t.tcb.control.state) true t.tcb))
    (λ e. needs_same (phase_of t.tcb.control.state) false t.tcb)

stopped : (t : Turn) → needs_timer t.tcb ≡ false → (judged t).tcb.control.timer ≡ false
unfolding judged
stopped t calm =
    by_test (λ (x : Turn). x.tcb.control.timer ≡ false) (needs_timer t.tcb) _ _ (λ e. absurd (cc)) (λ e. refl)

abbrev Rests : Tcb → Type 0
Rests r = r.control.was_established ≡ true → r.control.timer ≡ false

judged_rests : (b : Bool) (t : Turn) → IsInOrder (judged t).tcb → Quiet b (judged t).tcb → Rests (judged t).tcb
judged_rests b t order quiet = λ was. stopped t (sym (judged_needs t) ∙ calm b (judged t).tcb quiet was order)

-- a record that waits at a listener
pub record Waiting (r : Tcb) : Type 0 where
  pub order : IsInOrder r
  pub heard : IsCounted r
  pub buffered : IsBuffered r
  pub quiet : Quiet false r
  pub rests : Rests r

-- whatever it was before
quiet_from : (b : Bool) (r : Tcb) → Quiet false r → (b ≡ true → r.control.was_established ≡ true) → Quiet b r
quiet_from b r h was = record { written = h.written; wanted = h.wanted; opening = h.opening; was = was }

quiet_self : (r : Tcb) → Quiet false r → Quiet r.control.was_established r
quiet_self r h = quiet_from r.control.was_established r h (λ e. e)

quiet_any : (b : Bool) (r : Tcb) → Quiet b r → Quiet false r
quiet_any b r h = record { written = h.written; wanted = h.wanted; opening = h.opening; was = λ e. absurd (cc) }

load_rests : (b : Bool) (load : Load) (r : Tcb) → Rests r → IsInOrder (takes_load load (begin r)).tcb → Quiet b (takes_load load (begin r)).tcb → Rests (takes_load load (begin r)).tcb
unfolding takes_segment
load_rests b (Udp text) r rests order quiet = rests
load_rests b (Tcp flags seq ack window text) r rests order quiet =
    let h = header_of flags seq ack window in
    judged_rests b (acts_on (verdict r h) h text (begin r)) order quiet

packet_rests : (b : Bool) (p : Packet) (r : Tcb) → Rests r → IsInOrder (takes_packet p (begin r)).tcb → Quiet b (takes_packet p (begin r)).tcb → Rests (takes_packet p (begin r)).tcb
unfolding takes_packet
packet_rests b p r rests order quiet = load_rests b p.load r rests order quiet

abbrev RestsSo : Bool → Turn → Type 0
RestsSo b x = IsInOrder x.tcb → Quiet b x.tcb → Rests x.tcb

expiry_rests : (b : Bool) (r : Tcb) → RestsSo b (expires (begin r))
unfolding expires
expiry_rests b r =
    by_test (RestsSo b) r.control.timer (judged (expires_running (begin r))) (begin r)
    (λ e. λ order quiet. judged_rests b (expires_running (begin r)) order quiet)
    (λ e. λ order quiet. λ was. e)

-- a segment comes, and the timer expires; what was ESTABLISHED stays so
pub packet_waits : (p : Packet) (r : Tcb) → Waiting r → Waiting (takes_packet p (begin r)).tcb
packet_waits p r w =
    let h = acts_keep (arrival p) r w.order w.heard w.buffered in
    let quiet = quiet_takes_packet false p (begin r) w.quiet in
    record { order = h.order; heard = h.heard; buffered = h.buffered; quiet = quiet; rests = packet_rests false p r w.rests h.order quiet }

pub packet_stays : (p : Packet) (r : Tcb) → Waiting r → r.control.was_established ≡ true → (takes_packet p (begin r)).tcb.control.was_established ≡ true
packet_stays p r w = (quiet_takes_packet r.control.was_established p (begin r) (quiet_self r w.quiet)).was

pub expiry_waits : (r : Tcb) → Waiting r → Waiting (expires (begin r)).tcb
expiry_waits r w =
    let h = acts_keep expiry r w.order w.heard w.buffered in
    let quiet = quiet_expires false (begin r) w.quiet in
    record { order = h.order; heard = h.heard; buffered = h.buffered; quiet = quiet; rests = expiry_rests false r h.order quiet }

pub expiry_stays : (r : Tcb) → Waiting r → r.control.was_established ≡ true → (expires (begin r)).tcb.control.was_established ≡ true
expiry_stays r w = (quiet_expires r.control.was_established (begin r) (quiet_self r w.quiet)).was

-- it begins by the answer to a SYN
answered_quiet : (own other : Addr) (iss seq : ℕ) → Quiet false (answered own other iss seq).tcb
unfolding answered fresh_tcb fresh_control
answered_quiet own other iss seq = record { written = refl; wanted = refl; opening = λ e. refl; was = λ e. absurd (cc) }

answered_rests : (own other : Addr) (iss seq : ℕ) → Rests (answered own other iss seq).tcb
unfolding answered fresh_tcb fresh_control
answered_rests own other iss seq = λ e. absurd (cc)

pub answer_waits : (own other : Addr) (iss seq : ℕ) → iss < 2 ^ 32 → Waiting (answered own other iss seq).tcb
answer_waits own other iss seq b =
    let h = begun_holds (passive own other iss seq) b in
    record { order = h.order; heard = h.heard; buffered = h.buffered; quiet = answered_quiet own other iss seq; rests = answered_rests own other iss seq }
