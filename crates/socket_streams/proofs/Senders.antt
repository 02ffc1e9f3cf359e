-- what every act on a record sends goes from its own end to its peer
use Rattle.std.proofs.Common.{◌≡◌, ℕ, ◌+◌, ◌==◌, ◌&&◌, ◌||◌, nat_lt, List, [], ◌∷◌, ◌++◌, length, take, Bool, true, false, refl, sym, ◌∙◌}
use Rattle.std.specs.List.{AllByRecursion}
use Rattle.sim_base.specs.Packet.{fin_flag, syn_flag, rst_flag, ack_flag}
use Rattle.sim_base.specs.declared.address.Addr.{Addr}
use Rattle.sim_base.specs.declared.errno.Errno.{Errno}
use Rattle.sim_base.specs.declared.errno.Errno.TheVariants.{Econnrefused, Econnreset, Etimedout}
use Rattle.sim_base.specs.declared.packet.Packet.{Packet}
use Rattle.sim_base.specs.declared.packet.Load.{Load}
use Rattle.sim_base.specs.declared.packet.Load.TheVariants.{Udp, Tcp}
use Rattle.sock_tcp.specs.declared.segment.header.Header.{Header}
use Rattle.sock_tcp.specs.declared.segment.verdict.Verdict.{Verdict}
use Rattle.sock_tcp.specs.declared.segment.verdict.Verdict.TheVariants.{Dropped, Acknowledged, SynAcknowledged, Refused, ConnectRefused, Reset, Gone, Connects, Establishes, Advances, Continues}
use Rattle.sock_tcp.specs.segment.Header.{header_of}
use Rattle.sock_tcp.specs.declared.connection.effects.Shut.{Shut}
use Rattle.sock_tcp.specs.declared.connection.effects.Shut.TheVariants.{Reading, Writing, Both}
use Rattle.sock_tcp.specs.segment.State.{is_over, is_opening, is_sending, is_syn_sent, is_syn_received, is_synchronized, is_time_wait, takes_text}
use Rattle.sock_tcp.specs.declared.segment.control.Control.{Control}
use Rattle.sock_tcp.specs.segment.Control.{fresh_control, without_ack, writing_ended}
use Rattle.sock_tcp.specs.segment.Number.{wire}
use Rattle.sock_tcp.specs.connection.Tcb.{Tcb, Turn, unread, data_end, own_window, changed, with_control}
use Rattle.sock_tcp.specs.connection.Begin.{begin}
use Rattle.sock_tcp.specs.connection.Congestion.{flight_of, tells_loss, is_duplicate}
use Rattle.sock_tcp.specs.connection.Segment.{with_ack, sends, sends_ack, sends_syn_ack, sends_reset, sends_refusal}
use Rattle.sock_tcp.specs.connection.Ending.{ended, vanished, ends, vanishes}
use Rattle.sock_tcp.specs.connection.Timer.{needs_timer, is_in_flight, timer_set, judged, restarted, restarts}
use Rattle.sock_tcp.specs.connection.Output.{pieces, text_segments, to_send, sends_text, fin_is_next, moves_next, sends_fin, follows, output}
use Rattle.sock_tcp.specs.connection.Retransmission.{unacknowledged, probe_length, sends_again_text, sends_again, sends_syn, sends_syn_again, sends_one}
use Rattle.sock_tcp.specs.connection.Arrival.{verdict, peer_known, established, establishes, advanced, restarts_timer, advances, duplicate_heard, hears_duplicate, notices, fitting_text, keeps, discards, text_comes, receives_text, fin_is_due, fin_received, receives_fin, wants_ack, answers, waits_again, unless_over, concludes, receives, connects, acts_on, takes_segment, takes_load, takes_packet}
use Rattle.sock_tcp.specs.connection.Process.{fresh_tcb, opened, answered, writes, reads, ack_paid, pays_ack, flows_on, flows, ends_writing, ends_reading, shuts_end, shuts, socket_closed, closes_socket, closes, error_taken, backs_off, counts_expiry, retries_once, gives_up, expires_running, expires}
use Rattle.tcp_laws.proofs.Tests.{by_test}

abbrev pub Goes : Addr → Addr → Packet → Type 0
Goes own other p = (p.from ≡ own) × (p.to ≡ other)

abbrev pub AllGo : Addr → Addr → List Packet → Type 0
AllGo own other packets = AllByRecursion (Goes own other) packets

-- a turn of a record with these ends, whose segments go from the one to the other
pub record Is (own other : Addr) (t : Turn) : Type 0 where
  pub local : own ≡ t.tcb.control.local
  pub peer : other ≡ t.tcb.control.peer
  pub sent : AllGo own other t.sent

all_go : (own other : Addr) (packets more : List Packet) → AllGo own other packets → AllGo own other more → AllGo own other (packets ++ more)
all_go own other [] more h k = k
all_go own other (p ∷ packets) more h k = (h.0, all_go own other packets more h.1 k)

-- one segment more
one_more : (own other : Addr) (p : Packet) (t : Turn) → p.from ≡ t.tcb.control.local → p.to ≡ t.tcb.control.peer → Is own other t → Is own other (sends p t)
one_more own other p t from to h = record {
  local = h.local;
  peer = h.peer;
  sent = all_go own other t.sent (p ∷ []) h.sent ((from ∙ sym h.local, to ∙ sym h.peer), tt);
}

goes_sends_ack : (own other : Addr) (t : Turn) → Is own other t → Is own other (sends_ack t)
unfolding sends_ack with_ack
goes_sends_ack own other t h = one_more own other (with_ack t.tcb ack_flag t.tcb.nxt []) t refl refl h

goes_sends_syn_ack : (own other : Addr) (t : Turn) → Is own other t → Is own other (sends_syn_ack t)
unfolding sends_syn_ack with_ack
goes_sends_syn_ack own other t h = one_more own other (with_ack t.tcb (syn_flag + ack_flag) t.tcb.una []) t refl refl h

goes_sends_reset : (own other : Addr) (t : Turn) → Is own other t → Is own other (sends_reset t)
unfolding sends_reset without_ack
goes_sends_reset own other t h = one_more own other (without_ack t.tcb.control rst_flag (wire t.tcb.iss t.tcb.nxt)) t refl refl h

goes_sends_refusal : (own other : Addr) (ack : ℕ) (t : Turn) → Is own other t → Is own other (sends_refusal ack t)
unfolding sends_refusal without_ack
goes_sends_refusal own other ack t h = one_more own other (without_ack t.tcb.control rst_flag ack) t refl refl h

goes_sends_syn : (own other : Addr) (t : Turn) → Is own other t → Is own other (sends_syn t)
unfolding sends_syn without_ack
goes_sends_syn own other t h = one_more own other (without_ack t.tcb.control syn_flag (wire t.tcb.iss t.tcb.una)) t refl refl h

goes_restarts : (own other : Addr) (t : Turn) → Is own other t → Is own other (restarts t)
unfolding restarts restarted
goes_restarts own other t h = record { local = h.local; peer = h.peer; sent = h.sent }

goes_timer : (own other : Addr) (on started : Bool) (t : Turn) → Is own other t → Is own other (record (changed (with_control (timer_set on)) t) { started = started })
goes_timer own other on started t h = record { local = h.local; peer = h.peer; sent = h.sent }

goes_judged : (own other : Addr) (t : Turn) → Is own other t → Is own other (judged t)
unfolding judged
goes_judged own other t h =
    by_test (Is own other) (needs_timer t.tcb) _ _
    (λ e. by_test (Is own other) t.tcb.control.timer _ _ (λ k. h) (λ k. goes_timer own other true true t h))
    (λ e. goes_timer own other false t.started t h)

all_segments : (own other : Addr) (c : Control) (start offset ack window : ℕ) (pieces : List (List ℕ)) → own ≡ c.local → other ≡ c.peer → AllGo own other (text_segments c start offset ack window pieces)
all_segments own other c start offset ack window [] a b = tt
all_segments own other c start offset ack window (piece ∷ rest) a b =
    ((sym a, sym b), all_segments own other c start (offset + length piece) ack window rest a b)

goes_sends_text : (own other : Addr) (t : Turn) → Is own other t → Is own other (sends_text t)
unfolding sends_text
goes_sends_text own other t h =
    let r = t.tcb in
    record {
      local = h.local;
      peer = h.peer;
      sent = all_go own other t.sent (text_segments r.control r.iss r.nxt (wire r.irs r.rcv) (own_window r) (pieces (to_send r))) h.sent
          (all_segments own other r.control r.iss r.nxt (wire r.irs r.rcv) (own_window r) (pieces (to_send r)) h.local h.peer);
    }

goes_moves : (own other : Addr) (n : ℕ) (t : Turn) → Is own other t → Is own other (changed (moves_next n) t)
goes_moves own other n t h = record { local = h.local; peer = h.peer; sent = h.sent }

goes_sends_fin : (own other : Addr) (t : Turn) → Is own other t → Is own other (sends_fin t)
unfolding sends_fin with_ack
goes_sends_fin own other t h =
    let p : Packet = with_ack t.tcb (fin_flag + ack_flag) t.tcb.nxt [] in
    by_test (Is own other) (fin_is_next t.tcb) _ _
    (λ e. goes_moves own other (t.tcb.nxt + 1) (sends p t) (one_more own other p t refl refl h))
    (λ e. h)

goes_follows : (own other : Addr) (t : Turn) → Is own other t → Is own other (follows t)
unfolding follows
goes_follows own other t h = record { local = h.local; peer = h.peer; sent = h.sent }

goes_output : (own other : Addr) (t : Turn) → Is own other t → Is own other (output t)
unfolding output
goes_output own other t h =
    by_test (Is own other) (is_sending t.tcb.control.state) _ _
    (λ s. goes_follows own other (sends_fin (sends_text t)) (goes_sends_fin own other (sends_text t) (goes_sends_text own other t h)))
    (λ s. h)

goes_sends_again_text : (own other : Addr) (t : Turn) → Is own other t → Is own other (sends_again_text t)
unfolding sends_again_text with_ack
goes_sends_again_text own other t h =
    let r = t.tcb in
    let text = take (probe_length r) (unacknowledged r) in
    let p : Packet = with_ack r ack_flag r.una text in
    goes_moves own other (r.una + length text) (sends p t) (one_more own other p t refl refl h)

goes_sends_again : (own other : Addr) (t : Turn) → Is own other t → Is own other (sends_again t)
unfolding sends_again
goes_sends_again own other t h =
    by_test (Is own other) (nat_lt t.tcb.una (data_end t.tcb)) _ _
    (λ e. goes_sends_again_text own other t h)
    (λ e. goes_sends_fin own other (changed (moves_next t.tcb.una) t) (goes_moves own other t.tcb.una t h))

goes_sends_syn_again : (own other : Addr) (t : Turn) → Is own other t → Is own other (sends_syn_again t)
unfolding sends_syn_again
goes_sends_syn_again own other t h =
    by_test (Is own other) (is_syn_sent t.tcb.control.state) _ _ (λ e. goes_sends_syn own other t h) (λ e. goes_sends_syn_ack own other t h)

goes_sends_one : (own other : Addr) (t : Turn) → Is own other t → Is own other (sends_one t)
unfolding sends_one
goes_sends_one own other t h =
    by_test (Is own other) (is_opening t.tcb.control.state) _ _
    (λ o. goes_sends_syn_again own other t h)
    (λ o. by_test (Is own other) (is_sending t.tcb.control.state) _ _ (λ s. goes_follows own other (sends_again t) (goes_sends_again own other t h)) (λ s. h))

-- the record is over
goes_ends : (own other : Addr) (error : Errno) (t : Turn) → Is own other t → Is own other (ends error t)
unfolding ends ended
goes_ends own other error t h = record { local = h.local; peer = h.peer; sent = h.sent }

goes_vanishes : (own other : Addr) (t : Turn) → Is own other t → Is own other (vanishes t)
unfolding vanishes vanished
goes_vanishes own other t h = record { local = h.local; peer = h.peer; sent = h.sent }

-- acknowledgements
goes_established : (own other : Addr) (window : ℕ) (t : Turn) → Is own other t → Is own other (changed (established window) t)
unfolding established
goes_established own other window t h = record { local = h.local; peer = h.peer; sent = h.sent }

goes_establishes : (own other : Addr) (window : ℕ) (t : Turn) → Is own other t → Is own other (establishes window t)
unfolding establishes
goes_establishes own other window t h =
    goes_judged own other (restarts (changed (established window) t)) (goes_restarts own other (changed (established window) t) (goes_established own other window t h))

goes_advanced : (own other : Addr) (by window : ℕ) (t : Turn) → Is own other t → Is own other (changed (advanced by window) t)
unfolding advanced
goes_advanced own other by window t h =
    record { local = h.local; peer = h.peer; sent = h.sent }

goes_advances : (own other : Addr) (by window : ℕ) (t : Turn) → Is own other t → Is own other (advances by window t)
unfolding advances
goes_advances own other by window t h =
    let moved = changed (advanced by window) t in
    let k = goes_advanced own other by window t h in
    goes_judged own other _ (by_test (Is own other) (restarts_timer by window t.tcb.control) _ _ (λ e. goes_restarts own other moved k) (λ e. k))

goes_duplicate : (own other : Addr) (t : Turn) → Is own other t → Is own other (changed duplicate_heard t)
goes_duplicate own other t h = record { local = h.local; peer = h.peer; sent = h.sent }

goes_hears_duplicate : (own other : Addr) (t : Turn) → Is own other t → Is own other (hears_duplicate t)
unfolding hears_duplicate
goes_hears_duplicate own other t h =
    by_test (Is own other) (tells_loss t.tcb.una (flight_of t.tcb)) _ _
    (λ e. goes_sends_one own other (changed duplicate_heard t) (goes_duplicate own other t h))
    (λ e. goes_duplicate own other t h)

goes_notices : (own other : Addr) (duplicate : Bool) (t : Turn) → Is own other t → Is own other (notices duplicate t)
unfolding notices
goes_notices own other duplicate t h = by_test (Is own other) duplicate _ _ (λ e. goes_hears_duplicate own other t h) (λ e. h)

-- text and the FIN
goes_keeps : (own other : Addr) (bytes : List ℕ) (t : Turn) → Is own other t → Is own other (changed (keeps bytes) t)
unfolding keeps
goes_keeps own other bytes t h = record { local = h.local; peer = h.peer; sent = h.sent }

goes_discards : (own other : Addr) (count : ℕ) (t : Turn) → Is own other t → Is own other (changed (discards count) t)
unfolding discards
goes_discards own other count t h = record { local = h.local; peer = h.peer; sent = h.sent }

goes_takes : (own other : Addr) (bytes : List ℕ) (t : Turn) → Is own other t → Is own other (text_comes bytes t)
unfolding text_comes
goes_takes own other bytes t h =
    by_test (Is own other) (length bytes == 0) _ _ (λ e. h)
    (λ e. by_test (Is own other) t.tcb.control.closed _ _
    (λ k. goes_vanishes own other (sends_reset t) (goes_sends_reset own other t h))
    (λ k. by_test (Is own other) t.tcb.control.reading_ended _ _ (λ g. goes_discards own other (length bytes) t h) (λ g. goes_keeps own other bytes t h)))

goes_receives_text : (own other : Addr) (h : Header) (text : List ℕ) (t : Turn) → Is own other t → Is own other (receives_text h text t)
unfolding receives_text
goes_receives_text own other h text t k =
    by_test (Is own other) (takes_text t.tcb.control.state) _ _ (λ e. goes_takes own other (fitting_text h text t.tcb) t k) (λ e. k)

goes_fin_received : (own other : Addr) (t : Turn) → Is own other t → Is own other (changed fin_received t)
unfolding fin_received
goes_fin_received own other t h =
    record { local = h.local; peer = h.peer; sent = h.sent }

goes_receives_fin : (own other : Addr) (h : Header) (text : List ℕ) (t : Turn) → Is own other t → Is own other (receives_fin h text t)
unfolding receives_fin
goes_receives_fin own other h text t k =
    by_test (Is own other) (fin_is_due h text t.tcb) _ _ (λ e. goes_fin_received own other t k) (λ e. k)

goes_answers : (own other : Addr) (wanted : Bool) (t : Turn) → Is own other t → Is own other (answers wanted t)
unfolding answers
goes_answers own other wanted t h = by_test (Is own other) wanted _ _ (λ e. goes_sends_ack own other t h) (λ e. h)

goes_waits_again : (own other : Addr) (fin : Bool) (t : Turn) → Is own other t → Is own other (waits_again fin t)
unfolding waits_again
goes_waits_again own other fin t h = by_test (Is own other) (fin && is_time_wait t.tcb.control.state) _ _ (λ e. goes_restarts own other t h) (λ e. h)

goes_concludes : (own other : Addr) (wanted fin : Bool) (t : Turn) → Is own other t → Is own other (concludes wanted fin t)
unfolding concludes
goes_concludes own other wanted fin t h =
    goes_output own other (waits_again fin (answers wanted t)) (goes_waits_again own other fin (answers wanted t) (goes_answers own other wanted t h))

goes_unless_over : (own other : Addr) (wanted fin : Bool) (t : Turn) → Is own other t → Is own other (unless_over (concludes wanted fin) t)
unfolding unless_over
goes_unless_over own other wanted fin t h =
    by_test (Is own other) (is_over t.tcb.control.state) _ _ (λ e. h) (λ e. goes_concludes own other wanted fin t h)

goes_receives : (own other : Addr) (h : Header) (text : List ℕ) (t : Turn) → Is own other t → Is own other (receives h text t)
unfolding receives
goes_receives own other h text t k =
    goes_unless_over own other (wants_ack h text t.tcb) h.fin (receives_fin h text (receives_text h text t))
    (goes_receives_fin own other h text (receives_text h text t) (goes_receives_text own other h text t k))

goes_peer_known : (own other : Addr) (seq : ℕ) (t : Turn) → Is own other t → Is own other (changed (peer_known seq) t)
unfolding peer_known
goes_peer_known own other seq t h = record { local = h.local; peer = h.peer; sent = h.sent }

goes_connects : (own other : Addr) (h : Header) (t : Turn) → Is own other t → Is own other (connects h t)
unfolding connects
goes_connects own other h t k =
    let known = changed (peer_known h.seq) t in
    goes_output own other (sends_ack (establishes h.window known))
    (goes_sends_ack own other (establishes h.window known) (goes_establishes own other h.window known (goes_peer_known own other h.seq t k)))

goes_acts_on : (own other : Addr) (v : Verdict) (h : Header) (text : List ℕ) (t : Turn) → Is own other t → Is own other (acts_on v h text t)
goes_acts_on own other Dropped h text t k = k
goes_acts_on own other Acknowledged h text t k = goes_sends_ack own other t k
goes_acts_on own other SynAcknowledged h text t k = goes_sends_syn_ack own other t k
goes_acts_on own other Refused h text t k = goes_sends_refusal own other h.ack t k
goes_acts_on own other ConnectRefused h text t k = goes_ends own other Econnrefused t k
goes_acts_on own other Reset h text t k = goes_ends own other Econnreset t k
goes_acts_on own other Gone h text t k = goes_vanishes own other t k
goes_acts_on own other Connects h text t k = goes_connects own other h t k
goes_acts_on own other Establishes h text t k = goes_receives own other h text (establishes h.window t) (goes_establishes own other h.window t k)
goes_acts_on own other (Advances by) h text t k =
    goes_receives own other h text (notices (is_duplicate by h (length text) t.tcb) (advances by h.window t))
    (goes_notices own other (is_duplicate by h (length text) t.tcb) (advances by h.window t) (goes_advances own other by h.window t k))
goes_acts_on own other Continues h text t k = goes_receives own other h text t k

goes_takes_load : (own other : Addr) (load : Load) (t : Turn) → Is own other t → Is own other (takes_load load t)
unfolding takes_segment
goes_takes_load own other (Udp text) t k = k
goes_takes_load own other (Tcp flags seq ack window text) t k =
    let h = header_of flags seq ack window in
    goes_judged own other (acts_on (verdict t.tcb h) h text t) (goes_acts_on own other (verdict t.tcb h) h text t k)

goes_takes_packet : (own other : Addr) (p : Packet) (t : Turn) → Is own other t → Is own other (takes_packet p t)
unfolding takes_packet
goes_takes_packet own other p t k = goes_takes_load own other p.load t k

-- the timer expires
goes_backs_off : (own other : Addr) (t : Turn) → Is own other t → Is own other (changed backs_off t)
unfolding backs_off
goes_backs_off own other t h =
    by_test (λ (r : Tcb). Is own other (record t { tcb = r })) (is_synchronized t.tcb.control.state && is_in_flight t.tcb) _ _
    (λ e. record { local = h.local; peer = h.peer; sent = h.sent })
    (λ e. record { local = h.local; peer = h.peer; sent = h.sent })

goes_counts_expiry : (own other : Addr) (t : Turn) → Is own other t → Is own other (counts_expiry t)
goes_counts_expiry own other t h = record { local = h.local; peer = h.peer; sent = h.sent }

goes_retries_once : (own other : Addr) (t : Turn) → Is own other t → Is own other (retries_once t)
unfolding retries_once
goes_retries_once own other t h =
    goes_sends_one own other (counts_expiry (changed backs_off t)) (goes_counts_expiry own other (changed backs_off t) (goes_backs_off own other t h))

goes_gives_up : (own other : Addr) (t : Turn) → Is own other t → Is own other (gives_up t)
unfolding gives_up
goes_gives_up own other t h =
    by_test (Is own other) (is_syn_received t.tcb.control.state) _ _ (λ e. goes_vanishes own other t h) (λ e. goes_ends own other Etimedout t h)

goes_expires_running : (own other : Addr) (t : Turn) → Is own other t → Is own other (expires_running t)
unfolding expires_running
goes_expires_running own other t h =
    by_test (Is own other) (is_time_wait t.tcb.control.state) _ _ (λ e. goes_vanishes own other t h)
    (λ e. by_test (Is own other) (nat_lt t.tcb.control.retries 6) _ _ (λ k. goes_retries_once own other t h) (λ k. goes_gives_up own other t h))

goes_expires : (own other : Addr) (t : Turn) → Is own other t → Is own other (expires t)
unfolding expires
goes_expires own other t h =
    by_test (Is own other) t.tcb.control.timer _ _ (λ e. goes_judged own other (expires_running t) (goes_expires_running own other t h)) (λ e. h)

-- the process calls
goes_paid : (own other : Addr) (t : Turn) → Is own other t → Is own other (changed (with_control ack_paid) t)
goes_paid own other t h = record { local = h.local; peer = h.peer; sent = h.sent }

goes_pays_ack : (own other : Addr) (t : Turn) → Is own other t → Is own other (pays_ack t)
unfolding pays_ack
goes_pays_ack own other t h =
    by_test (Is own other) t.tcb.control.owes_ack _ _ (λ e. goes_paid own other (sends_ack t) (goes_sends_ack own other t h)) (λ e. h)

goes_flows_on : (own other : Addr) (t : Turn) → Is own other t → Is own other (unless_over flows_on t)
unfolding unless_over
goes_flows_on own other t h =
    by_test (Is own other) (is_over t.tcb.control.state) _ _ (λ e. h) (λ e. goes_output own other (pays_ack t) (goes_pays_ack own other t h))

goes_flows : (own other : Addr) (t : Turn) → Is own other t → Is own other (flows t)
unfolding flows
goes_flows own other t h = goes_judged own other (unless_over flows_on t) (goes_flows_on own other t h)

goes_writing_ended : (own other : Addr) (t : Turn) → Is own other t → Is own other (changed (with_control writing_ended) t)
unfolding writing_ended
goes_writing_ended own other t h = record { local = h.local; peer = h.peer; sent = h.sent }

goes_ends_writing : (own other : Addr) (t : Turn) → Is own other t → Is own other (ends_writing t)
unfolding ends_writing
goes_ends_writing own other t h =
    by_test (Is own other) (is_opening t.tcb.control.state) _ _ (λ e. h)
    (λ e. goes_output own other (changed (with_control writing_ended) t) (goes_writing_ended own other t h))

goes_ends_reading : (own other : Addr) (t : Turn) → Is own other t → Is own other (ends_reading t)
unfolding ends_reading
goes_ends_reading own other t h = record { local = h.local; peer = h.peer; sent = h.sent }

goes_shuts_end : (own other : Addr) (end : Shut) (t : Turn) → Is own other t → Is own other (shuts_end end t)
goes_shuts_end own other Reading t h = goes_ends_reading own other t h
goes_shuts_end own other Writing t h = goes_ends_writing own other t h
goes_shuts_end own other Both t h = goes_ends_writing own other (ends_reading t) (goes_ends_reading own other t h)

goes_shuts : (own other : Addr) (end : Shut) (t : Turn) → Is own other t → Is own other (shuts end t)
unfolding shuts
goes_shuts own other end t h = goes_judged own other (shuts_end end t) (goes_shuts_end own other end t h)

goes_marked : (own other : Addr) (t : Turn) → Is own other t → Is own other (changed (with_control socket_closed) t)
goes_marked own other t h = record { local = h.local; peer = h.peer; sent = h.sent }

goes_closes_socket : (own other : Addr) (t : Turn) → Is own other t → Is own other (closes_socket t)
unfolding closes_socket
goes_closes_socket own other t h =
    by_test (Is own other) (is_syn_sent t.tcb.control.state || is_over t.tcb.control.state) _ _ (λ e. goes_vanishes own other t h)
    (λ e. by_test (Is own other) (nat_lt 0 (unread t.tcb)) _ _
    (λ k. goes_vanishes own other (sends_reset t) (goes_sends_reset own other t h))
    (λ k. goes_ends_writing own other t h))

goes_closes : (own other : Addr) (t : Turn) → Is own other t → Is own other (closes t)
unfolding closes
goes_closes own other t h =
    goes_judged own other (closes_socket (changed (with_control socket_closed) t)) (goes_closes_socket own other (changed (with_control socket_closed) t) (goes_marked own other t h))

goes_writes : (own other : Addr) (bytes : List ℕ) (t : Turn) → Is own other t → Is own other (changed (writes bytes) t)
unfolding writes
goes_writes own other bytes t h = record { local = h.local; peer = h.peer; sent = h.sent }

goes_reads : (own other : Addr) (count : ℕ) (t : Turn) → Is own other t → Is own other (changed (reads count) t)
unfolding reads
goes_reads own other count t h = record { local = h.local; peer = h.peer; sent = h.sent }

goes_error_taken : (own other : Addr) (t : Turn) → Is own other t → Is own other (changed error_taken t)
unfolding error_taken
goes_error_taken own other t h = record { local = h.local; peer = h.peer; sent = h.sent }

-- an act on a record
abbrev pub Sends : (Tcb → Turn) → Type 0
Sends act = (r : Tcb) → Is r.control.local r.control.peer (act r)

begun : (r : Tcb) → Is r.control.local r.control.peer (begin r)
begun r = record { local = refl; peer = refl; sent = tt }

pub packet_sends : (p : Packet) → Sends (λ r. takes_packet p (begin r))
packet_sends p r = goes_takes_packet r.control.local r.control.peer p (begin r) (begun r)

pub expiry_sends : Sends (λ r. expires (begin r))
expiry_sends r = goes_expires r.control.local r.control.peer (begin r) (begun r)

pub write_sends : (bytes : List ℕ) → Sends (λ r. flows (changed (writes bytes) (begin r)))
write_sends bytes r =
    goes_flows r.control.local r.control.peer (changed (writes bytes) (begin r)) (goes_writes r.control.local r.control.peer bytes (begin r) (begun r))

pub read_sends : (count : ℕ) → Sends (λ r. flows (changed (reads count) (begin r)))
read_sends count r =
    goes_flows r.control.local r.control.peer (changed (reads count) (begin r)) (goes_reads r.control.local r.control.peer count (begin r) (begun r))

pub shut_sends : (end : Shut) → Sends (λ r. shuts end (begin r))
shut_sends end r = goes_shuts r.control.local r.control.peer end (begin r) (begun r)

pub close_sends : Sends (λ r. closes (begin r))
close_sends r = goes_closes r.control.local r.control.peer (begin r) (begun r)

pub error_sends : Sends (λ r. changed error_taken (begin r))
error_sends r = goes_error_taken r.control.local r.control.peer (begin r) (begun r)

-- a record that begins
pub opened_sends : (own other : Addr) (iss : ℕ) → Is own other (opened own other iss)
unfolding opened fresh_tcb fresh_control without_ack
opened_sends own other iss = record { local = refl; peer = refl; sent = ((refl, refl), tt) }

pub answered_sends : (own other : Addr) (iss seq : ℕ) → Is own other (answered own other iss seq)
unfolding answered fresh_tcb fresh_control with_ack
answered_sends own other iss seq = record { local = refl; peer = refl; sent = ((refl, refl), tt) }
