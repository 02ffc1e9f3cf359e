-- what every act on a record leaves: its two ends, and that it is over
use Rattle.std.proofs.Common.{◌≡◌, ℕ, ◌==◌, ◌&&◌, ◌||◌, nat_lt, List, length, Bool, true, false, refl, sym, subst}
use Rattle.sim_base.specs.declared.address.Addr.{Addr}
use Rattle.sim_base.specs.declared.errno.Errno.{Errno}
use Rattle.sim_base.specs.declared.errno.Errno.TheVariants.{Econnrefused, Econnreset, Etimedout}
use Rattle.sim_base.specs.declared.packet.Packet.{Packet}
use Rattle.sim_base.specs.declared.packet.Load.{Load}
use Rattle.sim_base.specs.declared.packet.Load.TheVariants.{Udp, Tcp}
use Rattle.sock_tcp.specs.declared.segment.header.Header.{Header}
use Rattle.sock_tcp.specs.declared.segment.state.TcpState.{TcpState}
use Rattle.sock_tcp.specs.declared.segment.state.TcpState.TheVariants.{SynSent, SynReceived, Established, FinWait1, FinWait2, CloseWait, Closing, LastAck, TimeWait, Ended, Vanished}
use Rattle.sock_tcp.specs.declared.segment.verdict.Verdict.{Verdict}
use Rattle.sock_tcp.specs.declared.segment.verdict.Verdict.TheVariants.{Dropped, Acknowledged, SynAcknowledged, Refused, ConnectRefused, Reset, Gone, Connects, Establishes, Advances, Continues}
use Rattle.sock_tcp.specs.segment.Header.{header_of}
use Rattle.sock_tcp.specs.segment.Verdict.{verdict_of}
use Rattle.sock_tcp.specs.declared.connection.effects.Shut.{Shut}
use Rattle.sock_tcp.specs.declared.connection.effects.Shut.TheVariants.{Reading, Writing, Both}
use Rattle.sock_tcp.specs.segment.State.{after_writing, is_over, is_opening, is_sending, is_syn_sent, is_syn_received, is_synchronized, is_time_wait, takes_text, after_own_fin, after_peer_fin}
use Rattle.sock_tcp.specs.segment.Control.{writing_ended}
use Rattle.sock_tcp.specs.connection.Tcb.{Tcb, Turn, unread, data_end, changed, with_control}
use Rattle.sock_tcp.specs.connection.Begin.{begin}
use Rattle.sock_tcp.specs.connection.Congestion.{flight_of, tells_loss, is_duplicate}
use Rattle.sock_tcp.specs.connection.Segment.{sends_ack, sends_syn_ack, sends_reset, sends_refusal}
use Rattle.sock_tcp.specs.connection.Ending.{ended, vanished, ends, vanishes}
use Rattle.sock_tcp.specs.connection.Timer.{needs_timer, is_in_flight, timer_set, judged, restarted, restarts}
use Rattle.sock_tcp.specs.connection.Output.{sends_text, fin_is_next, moves_next, sends_fin, follows, output}
use Rattle.sock_tcp.specs.connection.Retransmission.{sends_again_text, sends_again, sends_syn, sends_syn_again, sends_one}
use Rattle.sock_tcp.specs.connection.Arrival.{verdict, peer_known, established, establishes, state_advanced, advanced, restarts_timer, advances, duplicate_heard, hears_duplicate, notices, fitting_text, keeps, discards, text_comes, receives_text, fin_is_due, fin_received, receives_fin, wants_ack, answers, waits_again, unless_over, concludes, receives, connects, acts_on, takes_segment, takes_load, takes_packet}
use Rattle.sock_tcp.specs.connection.Process.{writes, reads, ack_paid, pays_ack, flows_on, flows, ends_writing, ends_reading, shuts_end, shuts, socket_closed, closes_socket, closes, error_taken, backs_off, counts_expiry, retries_once, gives_up, expires_running, expires}
use Rattle.tcp_laws.proofs.Tests.{by_test}

pub record Same (own other : Addr) (b : Bool) (r : Tcb) : Type 0 where
  pub local : own ≡ r.control.local
  pub peer : other ≡ r.control.peer
  pub over : b ≡ true → is_over r.control.state ≡ true

abbrev Is : Addr → Addr → Bool → Turn → Type 0
Is own other b t = Same own other b t.tcb

-- what changes none of these
same_sends_ack : (own other : Addr) (b : Bool) (t : Turn) → Is own other b t → Is own other b (sends_ack t)
unfolding sends_ack
same_sends_ack own other b t h = h

same_sends_syn_ack : (own other : Addr) (b : Bool) (t : Turn) → Is own other b t → Is own other b (sends_syn_ack t)
unfolding sends_syn_ack
same_sends_syn_ack own other b t h = h

same_sends_reset : (own other : Addr) (b : Bool) (t : Turn) → Is own other b t → Is own other b (sends_reset t)
unfolding sends_reset
same_sends_reset own other b t h = h

same_sends_refusal : (own other : Addr) (b : Bool) (ack : ℕ) (t : Turn) → Is own other b t → Is own other b (sends_refusal ack t)
unfolding sends_refusal
same_sends_refusal own other b ack t h = h

same_sends_syn : (own other : Addr) (b : Bool) (t : Turn) → Is own other b t → Is own other b (sends_syn t)
unfolding sends_syn
same_sends_syn own other b t h = h

same_restarts : (own other : Addr) (b : Bool) (t : Turn) → Is own other b t → Is own other b (restarts t)
unfolding restarts restarted
same_restarts own other b t h = record { local = h.local; peer = h.peer; over = h.over }

same_timer : (own other : Addr) (b on started : Bool) (t : Turn) → Is own other b t → Is own other b (record (changed (with_control (timer_set on)) t) { started = started })
same_timer own other b on started t h = record { local = h.local; peer = h.peer; over = h.over }

same_judged : (own other : Addr) (b : Bool) (t : Turn) → Is own other b t → Is own other b (judged t)
unfolding judged
same_judged own other b t h =
    by_test (Is own other b) (needs_timer t.tcb) _ _
    (λ e. by_test (Is own other b) t.tcb.control.timer _ _ (λ k. h) (λ k. same_timer own other b true true t h))
    (λ e. same_timer own other b false t.started t h)

same_sends_text : (own other : Addr) (b : Bool) (t : Turn) → Is own other b t → Is own other b (sends_text t)
unfolding sends_text
same_sends_text own other b t h = record { local = h.local; peer = h.peer; over = h.over }

same_moves : (own other : Addr) (b : Bool) (n : ℕ) (t : Turn) → Is own other b t → Is own other b (changed (moves_next n) t)
same_moves own other b n t h = record { local = h.local; peer = h.peer; over = h.over }

same_sends_fin : (own other : Addr) (b : Bool) (t : Turn) → Is own other b t → Is own other b (sends_fin t)
unfolding sends_fin
same_sends_fin own other b t h =
    by_test (Is own other b) (fin_is_next t.tcb) _ _ (λ e. record { local = h.local; peer = h.peer; over = h.over }) (λ e. h)

same_follows : (own other : Addr) (b : Bool) (t : Turn) → Is own other b t → Is own other b (follows t)
unfolding follows
same_follows own other b t h = record { local = h.local; peer = h.peer; over = h.over }

same_output : (own other : Addr) (b : Bool) (t : Turn) → Is own other b t → Is own other b (output t)
unfolding output
same_output own other b t h =
    by_test (Is own other b) (is_sending t.tcb.control.state) _ _
    (λ s. same_follows own other b (sends_fin (sends_text t)) (same_sends_fin own other b (sends_text t) (same_sends_text own other b t h)))
    (λ s. h)

same_sends_again_text : (own other : Addr) (b : Bool) (t : Turn) → Is own other b t → Is own other b (sends_again_text t)
unfolding sends_again_text
same_sends_again_text own other b t h = record { local = h.local; peer = h.peer; over = h.over }

same_sends_again : (own other : Addr) (b : Bool) (t : Turn) → Is own other b t → Is own other b (sends_again t)
unfolding sends_again
same_sends_again own other b t h =
    by_test (Is own other b) (nat_lt t.tcb.una (data_end t.tcb)) _ _
    (λ e. same_sends_again_text own other b t h)
    (λ e. same_sends_fin own other b (changed (moves_next t.tcb.una) t) (same_moves own other b t.tcb.una t h))

same_sends_syn_again : (own other : Addr) (b : Bool) (t : Turn) → Is own other b t → Is own other b (sends_syn_again t)
unfolding sends_syn_again
same_sends_syn_again own other b t h =
    by_test (Is own other b) (is_syn_sent t.tcb.control.state) _ _ (λ e. same_sends_syn own other b t h) (λ e. same_sends_syn_ack own other b t h)

same_sends_one : (own other : Addr) (b : Bool) (t : Turn) → Is own other b t → Is own other b (sends_one t)
unfolding sends_one
same_sends_one own other b t h =
    by_test (Is own other b) (is_opening t.tcb.control.state) _ _
    (λ o. same_sends_syn_again own other b t h)
    (λ o. by_test (Is own other b) (is_sending t.tcb.control.state) _ _ (λ s. same_follows own other b (sends_again t) (same_sends_again own other b t h)) (λ s. h))

-- the record is over
same_ends : (own other : Addr) (b : Bool) (error : Errno) (t : Turn) → Is own other b t → Is own other b (ends error t)
unfolding ends ended
same_ends own other b error t h = record { local = h.local; peer = h.peer; over = λ e. refl }

same_vanishes : (own other : Addr) (b : Bool) (t : Turn) → Is own other b t → Is own other b (vanishes t)
unfolding vanishes vanished
same_vanishes own other b t h = record { local = h.local; peer = h.peer; over = λ e. refl }

-- acknowledgements
same_established : (own other : Addr) (window : ℕ) (t : Turn) → Is own other false t → Is own other false (changed (established window) t)
unfolding established
same_established own other window t h = record { local = h.local; peer = h.peer; over = λ e. absurd (cc) }

same_establishes : (own other : Addr) (window : ℕ) (t : Turn) → Is own other false t → Is own other false (establishes window t)
unfolding establishes
same_establishes own other window t h =
    same_judged own other false (restarts (changed (established window) t)) (same_restarts own other false (changed (established window) t) (same_established own other window t h))

over_before : (state : TcpState) → is_over state ≡ true → is_over (after_own_fin state) ≡ true
over_before SynSent e = e
over_before SynReceived e = e
over_before Established e = e
over_before FinWait1 e = e
over_before FinWait2 e = e
over_before CloseWait e = e
over_before Closing e = e
over_before LastAck e = refl
over_before TimeWait e = e
over_before Ended e = e
over_before Vanished e = e

over_advanced : (fin : Bool) (state : TcpState) → is_over state ≡ true → is_over (state_advanced fin state) ≡ true
over_advanced true state e = over_before state e
over_advanced false state e = e

same_advanced : (own other : Addr) (b : Bool) (by window : ℕ) (t : Turn) → Is own other b t → Is own other b (changed (advanced by window) t)
unfolding advanced
same_advanced own other b by window t h =
    record { local = h.local; peer = h.peer; over = λ e. over_advanced _ t.tcb.control.state (h.over e) }

same_advances : (own other : Addr) (b : Bool) (by window : ℕ) (t : Turn) → Is own other b t → Is own other b (advances by window t)
unfolding advances
same_advances own other b by window t h =
    let moved = changed (advanced by window) t in
    let k = same_advanced own other b by window t h in
    same_judged own other b _ (by_test (Is own other b) (restarts_timer by window t.tcb.control) _ _ (λ e. same_restarts own other b moved k) (λ e. k))

same_duplicate : (own other : Addr) (b : Bool) (t : Turn) → Is own other b t → Is own other b (changed duplicate_heard t)
same_duplicate own other b t h = record { local = h.local; peer = h.peer; over = h.over }

same_hears_duplicate : (own other : Addr) (b : Bool) (t : Turn) → Is own other b t → Is own other b (hears_duplicate t)
unfolding hears_duplicate
same_hears_duplicate own other b t h =
    by_test (Is own other b) (tells_loss t.tcb.una (flight_of t.tcb)) _ _
    (λ e. same_sends_one own other b (changed duplicate_heard t) (same_duplicate own other b t h))
    (λ e. same_duplicate own other b t h)

same_notices : (own other : Addr) (b duplicate : Bool) (t : Turn) → Is own other b t → Is own other b (notices duplicate t)
unfolding notices
same_notices own other b duplicate t h = by_test (Is own other b) duplicate _ _ (λ e. same_hears_duplicate own other b t h) (λ e. h)

-- text and the FIN
same_keeps : (own other : Addr) (b : Bool) (bytes : List ℕ) (t : Turn) → Is own other b t → Is own other b (changed (keeps bytes) t)
unfolding keeps
same_keeps own other b bytes t h = record { local = h.local; peer = h.peer; over = h.over }

same_discards : (own other : Addr) (b : Bool) (count : ℕ) (t : Turn) → Is own other b t → Is own other b (changed (discards count) t)
unfolding discards
same_discards own other b count t h = record { local = h.local; peer = h.peer; over = h.over }

same_takes : (own other : Addr) (b : Bool) (bytes : List ℕ) (t : Turn) → Is own other b t → Is own other b (text_comes bytes t)
unfolding text_comes
same_takes own other b bytes t h =
    by_test (Is own other b) (length bytes == 0) _ _ (λ e. h)
    (λ e. by_test (Is own other b) t.tcb.control.closed _ _
    (λ k. same_vanishes own other b (sends_reset t) (same_sends_reset own other b t h))
    (λ k. by_test (Is own other b) t.tcb.control.reading_ended _ _ (λ g. same_discards own other b (length bytes) t h) (λ g. same_keeps own other b bytes t h)))

same_receives_text : (own other : Addr) (b : Bool) (h : Header) (text : List ℕ) (t : Turn) → Is own other b t → Is own other b (receives_text h text t)
unfolding receives_text
same_receives_text own other b h text t k =
    by_test (Is own other b) (takes_text t.tcb.control.state) _ _ (λ e. same_takes own other b (fitting_text h text t.tcb) t k) (λ e. k)

over_received : (state : TcpState) → is_over state ≡ true → is_over (after_peer_fin state) ≡ true
over_received SynSent e = e
over_received SynReceived e = e
over_received Established e = e
over_received FinWait1 e = e
over_received FinWait2 e = e
over_received CloseWait e = e
over_received Closing e = e
over_received LastAck e = e
over_received TimeWait e = e
over_received Ended e = e
over_received Vanished e = e

same_fin_received : (own other : Addr) (b : Bool) (t : Turn) → Is own other b t → Is own other b (changed fin_received t)
unfolding fin_received
same_fin_received own other b t h =
    record { local = h.local; peer = h.peer; over = λ e. over_received t.tcb.control.state (h.over e) }

same_receives_fin : (own other : Addr) (b : Bool) (h : Header) (text : List ℕ) (t : Turn) → Is own other b t → Is own other b (receives_fin h text t)
unfolding receives_fin
same_receives_fin own other b h text t k =
    by_test (Is own other b) (fin_is_due h text t.tcb) _ _ (λ e. same_fin_received own other b t k) (λ e. k)

same_answers : (own other : Addr) (b wanted : Bool) (t : Turn) → Is own other b t → Is own other b (answers wanted t)
unfolding answers
same_answers own other b wanted t h = by_test (Is own other b) wanted _ _ (λ e. same_sends_ack own other b t h) (λ e. h)

same_waits_again : (own other : Addr) (b fin : Bool) (t : Turn) → Is own other b t → Is own other b (waits_again fin t)
unfolding waits_again
same_waits_again own other b fin t h = by_test (Is own other b) (fin && is_time_wait t.tcb.control.state) _ _ (λ e. same_restarts own other b t h) (λ e. h)

same_concludes : (own other : Addr) (b wanted fin : Bool) (t : Turn) → Is own other b t → Is own other b (concludes wanted fin t)
unfolding concludes
same_concludes own other b wanted fin t h =
    same_output own other b (waits_again fin (answers wanted t)) (same_waits_again own other b fin (answers wanted t) (same_answers own other b wanted t h))

same_unless_over : (own other : Addr) (b wanted fin : Bool) (t : Turn) → Is own other b t → Is own other b (unless_over (concludes wanted fin) t)
unfolding unless_over
same_unless_over own other b wanted fin t h =
    by_test (Is own other b) (is_over t.tcb.control.state) _ _ (λ e. h) (λ e. same_concludes own other b wanted fin t h)

same_receives : (own other : Addr) (b : Bool) (h : Header) (text : List ℕ) (t : Turn) → Is own other b t → Is own other b (receives h text t)
unfolding receives
same_receives own other b h text t k =
    same_unless_over own other b (wants_ack h text t.tcb) h.fin (receives_fin h text (receives_text h text t))
    (same_receives_fin own other b h text (receives_text h text t) (same_receives_text own other b h text t k))

same_peer_known : (own other : Addr) (b : Bool) (seq : ℕ) (t : Turn) → Is own other b t → Is own other b (changed (peer_known seq) t)
unfolding peer_known
same_peer_known own other b seq t h = record { local = h.local; peer = h.peer; over = h.over }

same_connects : (own other : Addr) (h : Header) (t : Turn) → Is own other false t → Is own other false (connects h t)
unfolding connects
same_connects own other h t k =
    let known = changed (peer_known h.seq) t in
    same_output own other false (sends_ack (establishes h.window known))
    (same_sends_ack own other false (establishes h.window known) (same_establishes own other h.window known (same_peer_known own other false h.seq t k)))

same_acts_on : (own other : Addr) (v : Verdict) (h : Header) (text : List ℕ) (t : Turn) → Is own other false t → Is own other false (acts_on v h text t)
same_acts_on own other Dropped h text t k = k
same_acts_on own other Acknowledged h text t k = same_sends_ack own other false t k
same_acts_on own other SynAcknowledged h text t k = same_sends_syn_ack own other false t k
same_acts_on own other Refused h text t k = same_sends_refusal own other false h.ack t k
same_acts_on own other ConnectRefused h text t k = same_ends own other false Econnrefused t k
same_acts_on own other Reset h text t k = same_ends own other false Econnreset t k
same_acts_on own other Gone h text t k = same_vanishes own other false t k
same_acts_on own other Connects h text t k = same_connects own other h t k
same_acts_on own other Establishes h text t k = same_receives own other false h text (establishes h.window t) (same_establishes own other h.window t k)
same_acts_on own other (Advances by) h text t k =
    same_receives own other false h text (notices (is_duplicate by h (length text) t.tcb) (advances by h.window t))
    (same_notices own other false (is_duplicate by h (length text) t.tcb) (advances by h.window t) (same_advances own other false by h.window t k))
same_acts_on own other Continues h text t k = same_receives own other false h text t k

-- a record that is over drops what comes
over_drops : (r : Tcb) (h : Header) → is_over r.control.state ≡ true → verdict r h ≡ Dropped
unfolding verdict_of
over_drops r h e = by_test (λ (v : Verdict). v ≡ Dropped) (is_over r.control.state) _ _ (λ k. refl) (λ k. absurd (cc))

same_takes_load : (own other : Addr) (b : Bool) (load : Load) (t : Turn) → Is own other b t → Is own other b (takes_load load t)
unfolding takes_segment
same_takes_load own other b (Udp text) t k = k
same_takes_load own other true (Tcp flags seq ack window text) t k =
    let h = header_of flags seq ack window in
    same_judged own other true (acts_on (verdict t.tcb h) h text t)
    (subst (λ (v : Verdict). Is own other true (acts_on v h text t)) (sym (over_drops t.tcb h (k.over refl))) k)
same_takes_load own other false (Tcp flags seq ack window text) t k =
    let h = header_of flags seq ack window in
    same_judged own other false (acts_on (verdict t.tcb h) h text t) (same_acts_on own other (verdict t.tcb h) h text t k)

same_takes_packet : (own other : Addr) (b : Bool) (p : Packet) (t : Turn) → Is own other b t → Is own other b (takes_packet p t)
unfolding takes_packet
same_takes_packet own other b p t k = same_takes_load own other b p.load t k

-- the timer expires
same_backs_off : (own other : Addr) (b : Bool) (t : Turn) → Is own other b t → Is own other b (changed backs_off t)
unfolding backs_off
same_backs_off own other b t h =
    by_test (Same own other b) (is_synchronized t.tcb.control.state && is_in_flight t.tcb) _ _
    (λ e. record { local = h.local; peer = h.peer; over = h.over }) (λ e. h)

same_counts_expiry : (own other : Addr) (b : Bool) (t : Turn) → Is own other b t → Is own other b (counts_expiry t)
same_counts_expiry own other b t h = record { local = h.local; peer = h.peer; over = h.over }

same_retries_once : (own other : Addr) (b : Bool) (t : Turn) → Is own other b t → Is own other b (retries_once t)
unfolding retries_once
same_retries_once own other b t h =
    same_sends_one own other b (counts_expiry (changed backs_off t)) (same_counts_expiry own other b (changed backs_off t) (same_backs_off own other b t h))

same_gives_up : (own other : Addr) (b : Bool) (t : Turn) → Is own other b t → Is own other b (gives_up t)
unfolding gives_up
same_gives_up own other b t h =
    by_test (Is own other b) (is_syn_received t.tcb.control.state) _ _ (λ e. same_vanishes own other b t h) (λ e. same_ends own other b Etimedout t h)

same_expires_running : (own other : Addr) (b : Bool) (t : Turn) → Is own other b t → Is own other b (expires_running t)
unfolding expires_running
same_expires_running own other b t h =
    by_test (Is own other b) (is_time_wait t.tcb.control.state) _ _ (λ e. same_vanishes own other b t h)
    (λ e. by_test (Is own other b) (nat_lt t.tcb.control.retries 6) _ _ (λ k. same_retries_once own other b t h) (λ k. same_gives_up own other b t h))

same_expires : (own other : Addr) (b : Bool) (t : Turn) → Is own other b t → Is own other b (expires t)
unfolding expires
same_expires own other b t h =
    by_test (Is own other b) t.tcb.control.timer _ _ (λ e. same_judged own other b (expires_running t) (same_expires_running own other b t h)) (λ e. h)

-- the process calls
same_paid : (own other : Addr) (b : Bool) (t : Turn) → Is own other b t → Is own other b (changed (with_control ack_paid) t)
same_paid own other b t h = record { local = h.local; peer = h.peer; over = h.over }

same_pays_ack : (own other : Addr) (b : Bool) (t : Turn) → Is own other b t → Is own other b (pays_ack t)
unfolding pays_ack
same_pays_ack own other b t h =
    by_test (Is own other b) t.tcb.control.owes_ack _ _ (λ e. same_paid own other b (sends_ack t) (same_sends_ack own other b t h)) (λ e. h)

same_flows_on : (own other : Addr) (b : Bool) (t : Turn) → Is own other b t → Is own other b (unless_over flows_on t)
unfolding unless_over
same_flows_on own other b t h =
    by_test (Is own other b) (is_over t.tcb.control.state) _ _ (λ e. h) (λ e. same_output own other b (pays_ack t) (same_pays_ack own other b t h))

same_flows : (own other : Addr) (b : Bool) (t : Turn) → Is own other b t → Is own other b (flows t)
unfolding flows
same_flows own other b t h = same_judged own other b (unless_over flows_on t) (same_flows_on own other b t h)

over_written : (state : TcpState) → is_over state ≡ true → is_over (after_writing state) ≡ true
over_written SynSent e = e
over_written SynReceived e = e
over_written Established e = e
over_written FinWait1 e = e
over_written FinWait2 e = e
over_written CloseWait e = e
over_written Closing e = e
over_written LastAck e = e
over_written TimeWait e = e
over_written Ended e = e
over_written Vanished e = e

same_writing_ended : (own other : Addr) (b : Bool) (t : Turn) → Is own other b t → Is own other b (changed (with_control writing_ended) t)
unfolding writing_ended
same_writing_ended own other b t h = record { local = h.local; peer = h.peer; over = λ e. over_written t.tcb.control.state (h.over e) }

same_ends_writing : (own other : Addr) (b : Bool) (t : Turn) → Is own other b t → Is own other b (ends_writing t)
unfolding ends_writing
same_ends_writing own other b t h =
    by_test (Is own other b) (is_opening t.tcb.control.state) _ _ (λ e. h)
    (λ e. same_output own other b (changed (with_control writing_ended) t) (same_writing_ended own other b t h))

same_ends_reading : (own other : Addr) (b : Bool) (t : Turn) → Is own other b t → Is own other b (ends_reading t)
unfolding ends_reading
same_ends_reading own other b t h = record { local = h.local; peer = h.peer; over = h.over }

same_shuts_end : (own other : Addr) (b : Bool) (end : Shut) (t : Turn) → Is own other b t → Is own other b (shuts_end end t)
same_shuts_end own other b Reading t h = same_ends_reading own other b t h
same_shuts_end own other b Writing t h = same_ends_writing own other b t h
same_shuts_end own other b Both t h = same_ends_writing own other b (ends_reading t) (same_ends_reading own other b t h)

same_shuts : (own other : Addr) (b : Bool) (end : Shut) (t : Turn) → Is own other b t → Is own other b (shuts end t)
unfolding shuts
same_shuts own other b end t h = same_judged own other b (shuts_end end t) (same_shuts_end own other b end t h)

same_marked : (own other : Addr) (b : Bool) (t : Turn) → Is own other b t → Is own other b (changed (with_control socket_closed) t)
same_marked own other b t h = record { local = h.local; peer = h.peer; over = h.over }

same_closes_socket : (own other : Addr) (b : Bool) (t : Turn) → Is own other b t → Is own other b (closes_socket t)
unfolding closes_socket
same_closes_socket own other b t h =
    by_test (Is own other b) (is_syn_sent t.tcb.control.state || is_over t.tcb.control.state) _ _ (λ e. same_vanishes own other b t h)
    (λ e. by_test (Is own other b) (nat_lt 0 (unread t.tcb)) _ _
    (λ k. same_vanishes own other b (sends_reset t) (same_sends_reset own other b t h))
    (λ k. same_ends_writing own other b t h))

same_closes : (own other : Addr) (b : Bool) (t : Turn) → Is own other b t → Is own other b (closes t)
unfolding closes
same_closes own other b t h =
    same_judged own other b (closes_socket (changed (with_control socket_closed) t)) (same_closes_socket own other b (changed (with_control socket_closed) t) (same_marked own other b t h))

same_writes : (own other : Addr) (b : Bool) (bytes : List ℕ) (t : Turn) → Is own other b t → Is own other b (changed (writes bytes) t)
unfolding writes
same_writes own other b bytes t h = record { local = h.local; peer = h.peer; over = h.over }

same_reads : (own other : Addr) (b : Bool) (count : ℕ) (t : Turn) → Is own other b t → Is own other b (changed (reads count) t)
unfolding reads
same_reads own other b count t h = record { local = h.local; peer = h.peer; over = h.over }

same_error_taken : (own other : Addr) (b : Bool) (t : Turn) → Is own other b t → Is own other b (changed error_taken t)
unfolding error_taken
same_error_taken own other b t h = record { local = h.local; peer = h.peer; over = h.over }

-- an act on a record: the ends stay, and what is over stays over
abbrev pub Stays : (Tcb → Turn) → Type 0
Stays act = (r : Tcb) → Same r.control.local r.control.peer (is_over r.control.state) (act r).tcb

itself : (r : Tcb) → Same r.control.local r.control.peer (is_over r.control.state) r
itself r = record { local = refl; peer = refl; over = λ e. e }

pub packet_stays : (p : Packet) → Stays (λ r. takes_packet p (begin r))
packet_stays p r = same_takes_packet r.control.local r.control.peer (is_over r.control.state) p (begin r) (itself r)

pub expiry_stays : Stays (λ r. expires (begin r))
expiry_stays r = same_expires r.control.local r.control.peer (is_over r.control.state) (begin r) (itself r)

pub write_stays : (bytes : List ℕ) → Stays (λ r. flows (changed (writes bytes) (begin r)))
write_stays bytes r =
    let o = is_over r.control.state in
    same_flows r.control.local r.control.peer o (changed (writes bytes) (begin r)) (same_writes r.control.local r.control.peer o bytes (begin r) (itself r))

pub read_stays : (count : ℕ) → Stays (λ r. flows (changed (reads count) (begin r)))
read_stays count r =
    let o = is_over r.control.state in
    same_flows r.control.local r.control.peer o (changed (reads count) (begin r)) (same_reads r.control.local r.control.peer o count (begin r) (itself r))

pub shut_stays : (end : Shut) → Stays (λ r. shuts end (begin r))
shut_stays end r = same_shuts r.control.local r.control.peer (is_over r.control.state) end (begin r) (itself r)

pub close_stays : Stays (λ r. closes (begin r))
close_stays r = same_closes r.control.local r.control.peer (is_over r.control.state) (begin r) (itself r)

pub error_stays : Stays (λ r. changed error_taken (begin r))
error_stays r = same_error_taken r.control.local r.control.peer (is_over r.control.state) (begin r) (itself r)
