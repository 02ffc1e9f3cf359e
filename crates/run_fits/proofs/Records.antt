-- what a record of a connection sends fits, where its ends do and its texts are bytes
use Rattle.run_fits.specs.Packets.{AreWhole}
use Rattle.sim_base.specs.declared.errno.Errno.{Errno}
use Rattle.sim_base.specs.declared.packet.Load.{Load}
use Rattle.sim_base.specs.declared.packet.Load.TheVariants.{Tcp, Udp}
use Rattle.sim_base.specs.declared.packet.Packet.{Packet}
use Rattle.sock_tcp.specs.declared.segment.control.Control.{Control}
use Rattle.sock_tcp.specs.declared.segment.number.Distance.TheVariants.{Ahead, Behind}
use Rattle.std.proofs.Common.{Bool, IfSome, List, Option, [], arith, drop, length, mod-lt, nat_lt, suc, take, zero, ℕ, ◌&&◌, ◌+◌, ◌-◌, ◌<◌, ◌==◌, ◌^◌, ◌||◌, ◌∷◌}
use Rattle.std.specs.List.{AllByRecursion}
use Rattle.pcap_text.specs.Laws.{IsByte, IsText, IsWhole}
use Rattle.pcap_text.specs.Packets.{FitsAddr, FitsLoad}
use Rattle.run_fits.proofs.Bytes.{all_append, all_drop, all_take}
use Rattle.run_fits.specs.Bytes.{AreBytes, AreTexts}
use Rattle.run_fits.specs.Sockets.{TcbFits}
use Rattle.sim_base.specs.Packet.{ack_flag, fin_flag, max_segment, rst_flag, syn_flag}
use Rattle.sim_base.specs.declared.address.Addr.{Addr}
use Rattle.sim_base.specs.declared.errno.Errno.TheVariants.{Econnrefused, Econnreset, Etimedout}
use Rattle.sock_tcp.specs.connection.Arrival.{acts_on, advances, answers, concludes, connects, discards, duplicate_heard, established, establishes, fin_is_due, fin_received, fitting_text, fresh_text, hears_duplicate, keeps, notices, peer_known, receives, receives_fin, receives_text, restarts_timer, text_comes, takes_load, takes_packet, takes_segment, unless_over, verdict, waits_again, wants_ack, advanced}
use Rattle.sock_tcp.specs.connection.Begin.{begin}
use Rattle.sock_tcp.specs.connection.Congestion.{flight_of, is_duplicate, tells_loss}
use Rattle.sock_tcp.specs.connection.Ending.{ended, ends, vanished, vanishes}
use Rattle.sock_tcp.specs.connection.Output.{cut, fin_is_next, follows, moves_next, output, pieces, send_limit, sends_fin, sends_text, text_segments, to_send}
use Rattle.sock_tcp.specs.connection.Process.{answered, backs_off, bytes_read, bytes_taken, closes, closes_socket, counts_expiry, ends_reading, ends_writing, error_taken, expires, expires_running, flows, flows_on, fresh_tcb, gives_up, opened, pays_ack, reads, retries_once, room, shuts, shuts_end, socket_closed, writes}
use Rattle.sock_tcp.specs.connection.Resets.{reset_of, resets_of}
use Rattle.sock_tcp.specs.connection.Retransmission.{probe_length, sends_again_text, sends_one, sends_syn, sends_syn_again, unacknowledged, sends_again}
use Rattle.sock_tcp.specs.connection.Segment.{sends, sends_ack, sends_refusal, sends_reset, sends_syn_ack, with_ack}
use Rattle.sock_tcp.specs.connection.Tcb.{Tcb, Turn, changed, data_end, own_window, unread, with_control}
use Rattle.sock_tcp.specs.connection.Timer.{is_in_flight, needs_timer, restarts, judged, restarted}
use Rattle.sock_tcp.specs.declared.connection.effects.Shut.{Shut}
use Rattle.sock_tcp.specs.declared.connection.effects.Shut.TheVariants.{Both, Reading, Writing}
use Rattle.sock_tcp.specs.declared.segment.header.Header.{Header}
use Rattle.sock_tcp.specs.declared.segment.number.Distance.{Distance}
use Rattle.sock_tcp.specs.declared.segment.state.TcpState.TheVariants.{SynReceived, SynSent}
use Rattle.sock_tcp.specs.declared.segment.verdict.Verdict.{Verdict}
use Rattle.sock_tcp.specs.declared.segment.verdict.Verdict.TheVariants.{Acknowledged, Advances, ConnectRefused, Continues, Establishes, Reset, SynAcknowledged, Connects, Dropped, Gone, Refused}
use Rattle.sock_tcp.specs.segment.Congestion.{max_window}
use Rattle.sock_tcp.specs.segment.Control.{fresh_control, takes_bytes, without_ack, segment, writing_ended}
use Rattle.sock_tcp.specs.segment.Header.{header_of}
use Rattle.sock_tcp.specs.segment.Number.{distance, wire}
use Rattle.sock_tcp.specs.segment.Refusal.{header_refusal, load_refusal, refusal_of}
use Rattle.sock_tcp.specs.segment.State.{is_opening, is_sending, is_syn_received, is_syn_sent, is_synchronized, is_time_wait, takes_text, is_over}
use Rattle.tcp_laws.proofs.Tests.{by_test}

wire_small : (start offset : ℕ) → wire start offset < 2 ^ 32
unfolding wire
wire_small start offset = mod-lt (start + offset) (omega arith)

window_small : (r : Tcb) → own_window r < 2 ^ 16
window_small r = omega arith

segment_whole : (c : Control) (flags seq ack window : ℕ) (text : List ℕ) → FitsAddr c.local → FitsAddr c.peer → FitsLoad (Tcp flags seq ack window text) → AreBytes text
    → IsWhole (segment c flags seq ack window text)
segment_whole c flags seq ack window text from to load are = record { fits = record { from = from; to = to; load = load }; text = are }

-- a call on its way: its record, and the segments sent so far
abbrev pub TurnFits : Turn → Type 0
TurnFits t = TcbFits t.tcb × AreWhole t.sent

pub begin_fits : (r : Tcb) → TcbFits r → TurnFits (begin r)
begin_fits r h = (h, tt)

sends_fits : (p : Packet) (t : Turn) → IsWhole p → TurnFits t → TurnFits (sends p t)
sends_fits p t whole h = (h.0, all_append IsWhole t.sent (p ∷ []) h.1 (whole, tt))

ack_whole : (r : Tcb) (flags offset : ℕ) (text : List ℕ) → flags < 2 ^ 8 → AreBytes text → TcbFits r → IsWhole (with_ack r flags offset text)
unfolding with_ack
ack_whole r flags offset text small are h =
    segment_whole r.control flags (wire r.iss offset) (wire r.irs r.rcv) (own_window r) text h.0 h.1
    (small, wire_small r.iss offset, wire_small r.irs r.rcv, window_small r) are

pub bare_whole : (c : Control) (flags seq : ℕ) → flags < 2 ^ 8 → seq < 2 ^ 32 → FitsAddr c.local → FitsAddr c.peer → IsWhole (without_ack c flags seq)
unfolding without_ack
bare_whole c flags seq small number from to =
    segment_whole c flags seq 0 max_window [] from to (small, number, omega arith, omega arith) tt

-- ---- single segments

sends_ack_fits : (t : Turn) → TurnFits t → TurnFits (sends_ack t)
unfolding sends_ack
sends_ack_fits t h = sends_fits _ t (ack_whole t.tcb ack_flag t.tcb.nxt [] (omega arith) tt h.0) h

sends_syn_ack_fits : (t : Turn) → TurnFits t → TurnFits (sends_syn_ack t)
unfolding sends_syn_ack
sends_syn_ack_fits t h = sends_fits _ t (ack_whole t.tcb (syn_flag + ack_flag) t.tcb.una [] (omega arith) tt h.0) h

sends_reset_fits : (t : Turn) → TurnFits t → TurnFits (sends_reset t)
unfolding sends_reset
sends_reset_fits t h =
    sends_fits _ t (bare_whole t.tcb.control rst_flag (wire t.tcb.iss t.tcb.nxt) (omega arith) (wire_small t.tcb.iss t.tcb.nxt) h.0.0 h.0.1) h

sends_refusal_fits : (ack : ℕ) (t : Turn) → ack < 2 ^ 32 → TurnFits t → TurnFits (sends_refusal ack t)
unfolding sends_refusal
sends_refusal_fits ack t number h = sends_fits _ t (bare_whole t.tcb.control rst_flag ack (omega arith) number h.0.0 h.0.1) h

sends_syn_fits : (t : Turn) → TurnFits t → TurnFits (sends_syn t)
unfolding sends_syn
sends_syn_fits t h =
    sends_fits _ t (bare_whole t.tcb.control syn_flag (wire t.tcb.iss t.tcb.una) (omega arith) (wire_small t.tcb.iss t.tcb.una) h.0.0 h.0.1) h

-- ---- texts

cut_are : (size count : ℕ) (text : List ℕ) → AreBytes text → AreTexts (cut size count text)
cut_are size zero text are = tt
cut_are size (suc count) [] are = tt
cut_are size (suc count) (byte ∷ text) are =
    (all_take IsByte size (byte ∷ text) are, cut_are size count (drop size (byte ∷ text)) (all_drop IsByte size (byte ∷ text) are))

pieces_are : (text : List ℕ) → AreBytes text → AreTexts (pieces text)
unfolding pieces
pieces_are text are = cut_are max_segment (length text) text are

segments_whole : (c : Control) (start offset ack window : ℕ) (parts : List (List ℕ)) → FitsAddr c.local → FitsAddr c.peer → ack < 2 ^ 32 → window < 2 ^ 16 → AreTexts parts
    → AreWhole (text_segments c start offset ack window parts)
segments_whole c start offset ack window [] from to number small are = tt
segments_whole c start offset ack window (part ∷ rest) from to number small are = (
  segment_whole c ack_flag (wire start offset) ack window part from to (omega arith, wire_small start offset, number, small) are.0,
  segments_whole c start (offset + length part) ack window rest from to number small are.1,
)

sends_text_fits : (t : Turn) → TurnFits t → TurnFits (sends_text t)
unfolding sends_text
sends_text_fits t h =
    let r = t.tcb in
    let text = to_send r in
    let are : AreBytes text = all_take IsByte (send_limit r - r.nxt) (drop (r.nxt - 1) r.written) (all_drop IsByte (r.nxt - 1) r.written h.0.2) in (
      h.0,
      all_append IsWhole t.sent (text_segments r.control r.iss r.nxt (wire r.irs r.rcv) (own_window r) (pieces text)) h.1
          (segments_whole r.control r.iss r.nxt (wire r.irs r.rcv) (own_window r) (pieces text) h.0.0 h.0.1 (wire_small r.irs r.rcv) (window_small r) (pieces_are text are)),
    )

sends_fin_fits : (t : Turn) → TurnFits t → TurnFits (sends_fin t)
unfolding sends_fin
sends_fin_fits t h =
    by_test TurnFits (fin_is_next t.tcb) _ _
    (λ e. sends_fits _ t (ack_whole t.tcb (fin_flag + ack_flag) t.tcb.nxt [] (omega arith) tt h.0) h)
    (λ e. h)

follows_fits : (t : Turn) → TurnFits t → TurnFits (follows t)
unfolding follows
follows_fits t h = h

pub output_fits : (t : Turn) → TurnFits t → TurnFits (output t)
unfolding output
output_fits t h =
    by_test TurnFits (is_sending t.tcb.control.state) _ _
    (λ e. follows_fits (sends_fin (sends_text t)) (sends_fin_fits (sends_text t) (sends_text_fits t h)))
    (λ e. h)

-- ---- what goes out again

sends_again_text_fits : (t : Turn) → TurnFits t → TurnFits (sends_again_text t)
unfolding sends_again_text
sends_again_text_fits t h =
    let r = t.tcb in
    let text = take (probe_length r) (unacknowledged r) in
    let are : AreBytes text = all_take IsByte (probe_length r) (unacknowledged r) (all_drop IsByte (r.una - 1) r.written h.0.2) in
    sends_fits (with_ack r ack_flag r.una text) t (ack_whole r ack_flag r.una text (omega arith) are h.0) h

sends_again_fits : (t : Turn) → TurnFits t → TurnFits (sends_again t)
unfolding sends_again
sends_again_fits t h =
    by_test TurnFits (nat_lt t.tcb.una (data_end t.tcb)) _ _
    (λ e. sends_again_text_fits t h)
    (λ e. sends_fin_fits (changed (moves_next t.tcb.una) t) h)

sends_syn_again_fits : (t : Turn) → TurnFits t → TurnFits (sends_syn_again t)
unfolding sends_syn_again
sends_syn_again_fits t h =
    by_test TurnFits (is_syn_sent t.tcb.control.state) _ _ (λ e. sends_syn_fits t h) (λ e. sends_syn_ack_fits t h)

sends_one_fits : (t : Turn) → TurnFits t → TurnFits (sends_one t)
unfolding sends_one
sends_one_fits t h =
    by_test TurnFits (is_opening t.tcb.control.state) _ _
    (λ e. sends_syn_again_fits t h)
    (λ e. by_test TurnFits (is_sending t.tcb.control.state) _ _ (λ k. follows_fits (sends_again t) (sends_again_fits t h)) (λ k. h))

-- ---- timers and ends

judged_fits : (t : Turn) → TurnFits t → TurnFits (judged t)
unfolding judged
judged_fits t h =
    by_test TurnFits (needs_timer t.tcb) _ _ (λ e. by_test TurnFits t.tcb.control.timer _ _ (λ k. h) (λ k. h)) (λ e. h)

restarts_fits : (t : Turn) → TurnFits t → TurnFits (restarts t)
unfolding restarts restarted
restarts_fits t h = h

ends_fits : (error : Errno) (t : Turn) → TurnFits t → TurnFits (ends error t)
unfolding ends ended
ends_fits error t h = h

vanishes_fits : (t : Turn) → TurnFits t → TurnFits (vanishes t)
unfolding vanishes vanished
vanishes_fits t h = h

-- ---- what a process and the timer do

pub opened_fits : (local peer : Addr) (iss : ℕ) → FitsAddr local → FitsAddr peer → iss < 2 ^ 32 → TurnFits (opened local peer iss)
unfolding opened fresh_tcb fresh_control
opened_fits local peer iss from to number =
    ((from, to, tt, tt), (bare_whole (fresh_control local peer SynSent) syn_flag iss (omega arith) number from to, tt))

pub answered_fits : (local peer : Addr) (iss seq : ℕ) → FitsAddr local → FitsAddr peer → TurnFits (answered local peer iss seq)
unfolding answered fresh_tcb fresh_control
answered_fits local peer iss seq from to =
    let r = fresh_tcb (fresh_control local peer SynReceived) iss seq 1 in
    let h : TcbFits r = (from, to, tt, tt) in
    (h, (ack_whole r (syn_flag + ack_flag) 0 [] (omega arith) tt h, tt))

taken_are : (bytes : List ℕ) (r : Tcb) → AreBytes bytes → AreBytes (bytes_taken bytes r)
unfolding bytes_taken
taken_are bytes r are =
    by_test AreBytes (takes_bytes r.control) _ _ (λ e. all_take IsByte (room r) bytes are) (λ e. tt)

pub writes_fits : (bytes : List ℕ) (r : Tcb) → AreBytes bytes → TcbFits r → TcbFits (writes bytes r)
unfolding writes
writes_fits bytes r are h = (h.0, h.1, all_append IsByte r.written (bytes_taken bytes r) h.2 (taken_are bytes r are), h.3)

pub reads_fits : (count : ℕ) (r : Tcb) → TcbFits r → TcbFits (reads count r)
unfolding reads
reads_fits count r h = h

pub read_are : (count : ℕ) (r : Tcb) → TcbFits r → AreBytes (bytes_read count r)
read_are count r h = all_take IsByte count (drop r.read r.received) (all_drop IsByte r.read r.received h.3)

pays_ack_fits : (t : Turn) → TurnFits t → TurnFits (pays_ack t)
unfolding pays_ack
pays_ack_fits t h = by_test TurnFits t.tcb.control.owes_ack _ _ (λ e. sends_ack_fits t h) (λ e. h)

unless_over_fits : (act : Turn → Turn) (t : Turn) → ((u : Turn) → TurnFits u → TurnFits (act u)) → TurnFits t → TurnFits (unless_over act t)
unfolding unless_over
unless_over_fits act t keeps h = by_test TurnFits (is_over t.tcb.control.state) _ _ (λ e. h) (λ e. keeps t h)

pub flows_fits : (t : Turn) → TurnFits t → TurnFits (flows t)
unfolding flows
flows_fits t h =
    judged_fits (unless_over flows_on t) (unless_over_fits flows_on t (λ u k. output_fits (pays_ack u) (pays_ack_fits u k)) h)

ends_writing_fits : (t : Turn) → TurnFits t → TurnFits (ends_writing t)
unfolding ends_writing writing_ended
ends_writing_fits t h =
    by_test TurnFits (is_opening t.tcb.control.state) _ _ (λ e. h) (λ e. output_fits (changed (with_control writing_ended) t) h)

ends_reading_fits : (t : Turn) → TurnFits t → TurnFits (ends_reading t)
unfolding ends_reading
ends_reading_fits t h = h

shuts_end_fits : (how : Shut) (t : Turn) → TurnFits t → TurnFits (shuts_end how t)
shuts_end_fits Reading t h = ends_reading_fits t h
shuts_end_fits Writing t h = ends_writing_fits t h
shuts_end_fits Both t h = ends_writing_fits (ends_reading t) (ends_reading_fits t h)

pub shuts_fits : (how : Shut) (t : Turn) → TurnFits t → TurnFits (shuts how t)
unfolding shuts
shuts_fits how t h = judged_fits (shuts_end how t) (shuts_end_fits how t h)

closes_socket_fits : (t : Turn) → TurnFits t → TurnFits (closes_socket t)
unfolding closes_socket
closes_socket_fits t h =
    by_test TurnFits (is_syn_sent t.tcb.control.state || is_over t.tcb.control.state) _ _
    (λ e. vanishes_fits t h)
    (λ e. by_test TurnFits (nat_lt 0 (unread t.tcb)) _ _
    (λ k. vanishes_fits (sends_reset t) (sends_reset_fits t h))
    (λ k. ends_writing_fits t h))

pub closes_fits : (t : Turn) → TurnFits t → TurnFits (closes t)
unfolding closes
closes_fits t h =
    let shut = changed (with_control socket_closed) t in judged_fits (closes_socket shut) (closes_socket_fits shut h)

pub error_taken_fits : (r : Tcb) → TcbFits r → TcbFits (error_taken r)
unfolding error_taken
error_taken_fits r h = h

backs_off_fits : (r : Tcb) → TcbFits r → TcbFits (backs_off r)
unfolding backs_off
backs_off_fits r h =
    by_test TcbFits (is_synchronized r.control.state && is_in_flight r) _ _ (λ e. h) (λ e. h)

retries_fits : (t : Turn) → TurnFits t → TurnFits (retries_once t)
unfolding retries_once
retries_fits t h =
    sends_one_fits (counts_expiry (changed backs_off t)) (backs_off_fits t.tcb h.0, h.1)

gives_up_fits : (t : Turn) → TurnFits t → TurnFits (gives_up t)
unfolding gives_up
gives_up_fits t h =
    by_test TurnFits (is_syn_received t.tcb.control.state) _ _ (λ e. vanishes_fits t h) (λ e. ends_fits Etimedout t h)

expires_running_fits : (t : Turn) → TurnFits t → TurnFits (expires_running t)
unfolding expires_running
expires_running_fits t h =
    by_test TurnFits (is_time_wait t.tcb.control.state) _ _
    (λ e. vanishes_fits t h)
    (λ e. by_test TurnFits (nat_lt t.tcb.control.retries 6) _ _ (λ k. retries_fits t h) (λ k. gives_up_fits t h))

pub expires_fits : (t : Turn) → TurnFits t → TurnFits (expires t)
unfolding expires
expires_fits t h =
    by_test TurnFits t.tcb.control.timer _ _ (λ e. judged_fits (expires_running t) (expires_running_fits t h)) (λ e. h)

-- ---- what an arriving segment does

established_fits : (window : ℕ) (r : Tcb) → TcbFits r → TcbFits (established window r)
unfolding established
established_fits window r h = h

establishes_fits : (window : ℕ) (t : Turn) → TurnFits t → TurnFits (establishes window t)
unfolding establishes
establishes_fits window t h =
    let made = changed (established window) t in
    judged_fits (restarts made) (restarts_fits made (established_fits window t.tcb h.0, h.1))

advanced_fits : (by window : ℕ) (r : Tcb) → TcbFits r → TcbFits (advanced by window r)
unfolding advanced
advanced_fits by window r h = h

advances_fits : (by window : ℕ) (t : Turn) → TurnFits t → TurnFits (advances by window t)
unfolding advances
advances_fits by window t h =
    let moved = changed (advanced by window) t in
    let k : TurnFits moved = (advanced_fits by window t.tcb h.0, h.1) in
    judged_fits _ (by_test TurnFits (restarts_timer by window t.tcb.control) _ _ (λ e. restarts_fits moved k) (λ e. k))

hears_fits : (t : Turn) → TurnFits t → TurnFits (hears_duplicate t)
unfolding hears_duplicate
hears_fits t h =
    let heard = changed duplicate_heard t in
    by_test TurnFits (tells_loss t.tcb.una (flight_of t.tcb)) _ _ (λ e. sends_one_fits heard h) (λ e. h)

notices_fits : (duplicate : Bool) (t : Turn) → TurnFits t → TurnFits (notices duplicate t)
unfolding notices
notices_fits duplicate t h = by_test TurnFits duplicate _ _ (λ e. hears_fits t h) (λ e. h)

fresh_are : (d : Distance) (text : List ℕ) → AreBytes text → AreBytes (fresh_text d text)
fresh_are (Ahead by) text are = by_test AreBytes (by == 0) _ _ (λ e. are) (λ e. tt)
fresh_are (Behind by) text are = all_drop IsByte by text are

fitting_are : (h : Header) (text : List ℕ) (r : Tcb) → AreBytes text → AreBytes (fitting_text h text r)
unfolding fitting_text
fitting_are h text r are =
    let d = distance (wire r.irs r.rcv) h.seq in all_take IsByte (own_window r) (fresh_text d text) (fresh_are d text are)

keeps_fits : (bytes : List ℕ) (r : Tcb) → AreBytes bytes → TcbFits r → TcbFits (keeps bytes r)
unfolding keeps
keeps_fits bytes r are h = (h.0, h.1, h.2, all_append IsByte r.received bytes h.3 are)

discards_fits : (count : ℕ) (r : Tcb) → TcbFits r → TcbFits (discards count r)
unfolding discards
discards_fits count r h = h

takes_fits : (bytes : List ℕ) (t : Turn) → AreBytes bytes → TurnFits t → TurnFits (text_comes bytes t)
unfolding text_comes
takes_fits bytes t are h =
    by_test TurnFits (length bytes == 0) _ _
    (λ e. h)
    (λ e. by_test TurnFits t.tcb.control.closed _ _
    (λ k. vanishes_fits (sends_reset t) (sends_reset_fits t h))
    (λ k. by_test TurnFits t.tcb.control.reading_ended _ _
    (λ m. (discards_fits (length bytes) t.tcb h.0, h.1))
    (λ m. (keeps_fits bytes t.tcb are h.0, h.1))))

receives_text_fits : (header : Header) (text : List ℕ) (t : Turn) → AreBytes text → TurnFits t → TurnFits (receives_text header text t)
unfolding receives_text
receives_text_fits header text t are h =
    by_test TurnFits (takes_text t.tcb.control.state) _ _
    (λ e. takes_fits (fitting_text header text t.tcb) t (fitting_are header text t.tcb are) h)
    (λ e. h)

fin_fits : (r : Tcb) → TcbFits r → TcbFits (fin_received r)
unfolding fin_received
fin_fits r h = h

receives_fin_fits : (header : Header) (text : List ℕ) (t : Turn) → TurnFits t → TurnFits (receives_fin header text t)
unfolding receives_fin
receives_fin_fits header text t h =
    by_test TurnFits (fin_is_due header text t.tcb) _ _ (λ e. (fin_fits t.tcb h.0, h.1)) (λ e. h)

answers_fits : (wanted : Bool) (t : Turn) → TurnFits t → TurnFits (answers wanted t)
unfolding answers
answers_fits wanted t h = by_test TurnFits wanted _ _ (λ e. sends_ack_fits t h) (λ e. h)

waits_again_fits : (fin : Bool) (t : Turn) → TurnFits t → TurnFits (waits_again fin t)
unfolding waits_again
waits_again_fits fin t h = by_test TurnFits (fin && is_time_wait t.tcb.control.state) _ _ (λ e. restarts_fits t h) (λ e. h)

concludes_fits : (wanted fin : Bool) (t : Turn) → TurnFits t → TurnFits (concludes wanted fin t)
unfolding concludes
concludes_fits wanted fin t h =
    output_fits (waits_again fin (answers wanted t)) (waits_again_fits fin (answers wanted t) (answers_fits wanted t h))

receives_fits : (header : Header) (text : List ℕ) (t : Turn) → AreBytes text → TurnFits t → TurnFits (receives header text t)
unfolding receives
receives_fits header text t are h =
    let wanted = wants_ack header text t.tcb in
    let after = receives_fin header text (receives_text header text t) in
    unless_over_fits (concludes wanted header.fin) after (λ u k. concludes_fits wanted header.fin u k)
    (receives_fin_fits header text (receives_text header text t) (receives_text_fits header text t are h))

peer_fits : (seq : ℕ) (r : Tcb) → TcbFits r → TcbFits (peer_known seq r)
unfolding peer_known
peer_fits seq r h = h

connects_fits : (header : Header) (t : Turn) → TurnFits t → TurnFits (connects header t)
unfolding connects
connects_fits header t h =
    let known = changed (peer_known header.seq) t in
    output_fits (sends_ack (establishes header.window known))
    (sends_ack_fits (establishes header.window known) (establishes_fits header.window known (peer_fits header.seq t.tcb h.0, h.1)))

acts_fits : (v : Verdict) (header : Header) (text : List ℕ) (t : Turn) → header.ack < 2 ^ 32 → AreBytes text → TurnFits t → TurnFits (acts_on v header text t)
acts_fits Dropped header text t number are h = h
acts_fits Acknowledged header text t number are h = sends_ack_fits t h
acts_fits SynAcknowledged header text t number are h = sends_syn_ack_fits t h
acts_fits Refused header text t number are h = sends_refusal_fits header.ack t number h
acts_fits ConnectRefused header text t number are h = ends_fits Econnrefused t h
acts_fits Reset header text t number are h = ends_fits Econnreset t h
acts_fits Gone header text t number are h = vanishes_fits t h
acts_fits Connects header text t number are h = connects_fits header t h
acts_fits Establishes header text t number are h =
    receives_fits header text (establishes header.window t) are (establishes_fits header.window t h)
acts_fits (Advances by) header text t number are h =
    let again = is_duplicate by header (length text) t.tcb in
    receives_fits header text (notices again (advances by header.window t)) are
    (notices_fits again (advances by header.window t) (advances_fits by header.window t h))
acts_fits Continues header text t number are h = receives_fits header text t are h

takes_segment_fits : (header : Header) (text : List ℕ) (t : Turn) → header.ack < 2 ^ 32 → AreBytes text → TurnFits t → TurnFits (takes_segment header text t)
unfolding takes_segment
takes_segment_fits header text t number are h =
    judged_fits (acts_on (verdict t.tcb header) header text t) (acts_fits (verdict t.tcb header) header text t number are h)

takes_load_fits : (load : Load) (t : Turn) → FitsLoad load → IsText load → TurnFits t → TurnFits (takes_load load t)
takes_load_fits (Udp text) t fits are h = h
takes_load_fits (Tcp flags seq ack window text) t fits are h = takes_segment_fits (header_of flags seq ack window) text t fits.2 are h

pub takes_packet_fits : (p : Packet) (t : Turn) → IsWhole p → TurnFits t → TurnFits (takes_packet p t)
unfolding takes_packet
takes_packet_fits p t whole h = takes_load_fits p.load t whole.fits.load whole.text h

-- ---- what answers a segment of no connection

abbrev pub MayBeWhole : Option Packet → Type 0
MayBeWhole found = IfSome found IsWhole

refused_whole : (p : Packet) (header : Header) (count : ℕ) → header.ack < 2 ^ 32 → IsWhole p → MayBeWhole (header_refusal p header count)
unfolding header_refusal
refused_whole p header count number whole =
    by_test MayBeWhole header.rst _ _
    (λ e. tt)
    (λ e. by_test MayBeWhole header.has_ack _ _
    (λ k. record { fits = record { from = whole.fits.to; to = whole.fits.from; load = (omega arith, number, omega arith, omega arith) }; text = tt })
    (λ k. record {
      fits = record { from = whole.fits.to; to = whole.fits.from; load = (omega arith, omega arith, wire_small header.seq _, omega arith) };
      text = tt;
    }))

load_refused : (p : Packet) (load : Load) → FitsLoad load → IsWhole p → MayBeWhole (load_refusal p load)
load_refused p (Udp text) fits whole = tt
load_refused p (Tcp flags seq ack window text) fits whole =
    refused_whole p (header_of flags seq ack window) (length text) fits.2 whole

pub refusal_whole : (p : Packet) → IsWhole p → MayBeWhole (refusal_of p)
refusal_whole p whole = load_refused p p.load whole.fits.load whole

-- ---- what resets the records that a closed listener gives up

reset_whole : (r : Tcb) → TcbFits r → AreWhole (reset_of r)
reset_whole r h =
    by_test AreWhole (is_over r.control.state) _ _
    (λ e. tt)
    (λ e. (bare_whole r.control rst_flag (wire r.iss r.nxt) (omega arith) (wire_small r.iss r.nxt) h.0 h.1, tt))

pub resets_whole : (records : List Tcb) → AllByRecursion TcbFits records → AreWhole (resets_of records)
resets_whole [] h = tt
resets_whole (r ∷ records) h = all_append IsWhole (reset_of r) (resets_of records) (reset_whole r h.0) (resets_whole records h.1)
