-- the text that goes out is what the definition says
use Rattle.std.proofs.Common.{◌≡◌, ℕ, ◌+◌, ◌-◌, ◌<◌, ◌≤◌, List, [], ◌∷◌, ◌++◌, length, take, drop, min, max, Bool, true, if◌then◌else◌, ◌==◌, sym, ap, subst, append-nil, ◌∙◌, arith}
use Rattle.std.proofs.lemmas.Bool.{and_parts}
use Rattle.std.proofs.lemmas.Bool.Decides.{nat_tests}
use Rattle.std.proofs.lemmas.List.{length-drop, length-take, drop-drop, take_min}
use Rattle.sim_base.specs.declared.packet.Packet.{Packet}
use Rattle.sock_tcp.specs.declared.connection.conn.Conn.{Conn}
use Rattle.sock_tcp.specs.declared.connection.effects.Draft.{Draft}
use Rattle.sock_tcp.specs.segment.Number.{wire}
use Rattle.sock_tcp.specs.segment.State.{phase_of, is_sending}
use Rattle.sock_tcp.specs.connection.Tcb.{Tcb, Turn, data_end, own_window, changed}
use Rattle.sock_tcp.specs.connection.Segment.{with_ack, sends}
use Rattle.sock_tcp.specs.connection.Retransmission.{unacknowledged, probe_length, sends_again_text}
use Rattle.sock_tcp.specs.connection.Output.{pieces, text_segments, send_limit, to_send, sends_text, fin_is_next, moves_next, sends_fin}
use Rattle.sock_tcp.specs.connection.StandsFor.{StandsFor, Stands, FitsPhase}
use Rattle.sock_tcp.proofs.Connections.Phases.{unacknowledged_ends, FitsPhase_next, FitsPhase_fin}
use Rattle.sock_tcp.proofs.Connections.Pieces.{text_segments_wire, text_segments_none}

-- the window that the code tells
pub own_window_stands : (c : Conn) (r : Tcb) → StandsFor c r → 65535 - length c.receive.items ≡ own_window r
own_window_stands c r h = ap (λ n. 65535 - n) (ap length h.receive ∙ length-drop r.read r.received)

-- what the code changes in sending text
pub record SendsTo (c c' : Conn) (limit : ℕ) : Type 0 where
  pub control : c'.control ≡ c.control
  pub una : c'.una ≡ c.una
  pub sent : c'.sent ≡ limit
  pub highest : c'.highest ≡ c.highest
  pub duplicates : c'.duplicates ≡ c.duplicates
  pub recover : c'.recover ≡ c.recover
  pub rcv : c'.rcv ≡ c.rcv
  pub counts : c'.counts ≡ c.counts
  pub send : c'.send ≡ c.send
  pub receive : c'.receive ≡ c.receive

-- the segments that the code sends
code_segments : Conn → ℕ → List Packet
code_segments c limit =
    text_segments c.control c.una c.sent c.rcv (65535 - length c.receive.items) (pieces (take (limit - c.sent) (drop c.sent c.send.items)))

spec_segments : Tcb → List Packet
spec_segments r =
    text_segments r.control r.iss r.nxt (wire r.irs r.rcv) (own_window r) (pieces (to_send r))

same_text : (c : Conn) (r : Tcb) (limit : ℕ) → StandsFor c r → is_sending r.control.state ≡ true → r.una + limit ≡ send_limit r → take (limit - c.sent) (drop c.sent c.send.items) ≡ to_send r
same_text c r limit h s e =
    let ends = unacknowledged_ends c r h s in
    let one : 1 ≤ r.una = ends.1 in
    let place : r.una - 1 + c.sent ≡ r.nxt - 1 = omega (arith, h.next) in
    let count : limit - c.sent ≡ send_limit r - r.nxt = omega (arith, h.next) in
    ap (λ items. take (limit - c.sent) (drop c.sent items)) h.send
    ∙ (ap (take (limit - c.sent)) (drop-drop c.sent (r.una - 1) r.written)
    ∙ (ap (λ n. take (limit - c.sent) (drop n r.written)) place
    ∙ ap (λ n. take n (drop (r.nxt - 1) r.written)) count))

same_segments : (c : Conn) (r : Tcb) (limit : ℕ) → StandsFor c r → is_sending r.control.state ≡ true → r.una + limit ≡ send_limit r → code_segments c limit ≡ spec_segments r
unfolding code_segments spec_segments
same_segments c r limit h s e =
    let text = ap pieces (same_text c r limit h s e) in
    let window = own_window_stands c r h in
    ap (λ k. text_segments k c.una c.sent c.rcv (65535 - length c.receive.items) (pieces (take (limit - c.sent) (drop c.sent c.send.items)))) h.control
    ∙ (ap (λ k. text_segments r.control k c.sent c.rcv (65535 - length c.receive.items) (pieces (take (limit - c.sent) (drop c.sent c.send.items)))) h.una
    ∙ (ap (λ k. text_segments r.control (wire r.iss r.una) c.sent k (65535 - length c.receive.items) (pieces (take (limit - c.sent) (drop c.sent c.send.items)))) h.rcv
    ∙ (ap (λ k. text_segments r.control (wire r.iss r.una) c.sent (wire r.irs r.rcv) k (pieces (take (limit - c.sent) (drop c.sent c.send.items)))) window
    ∙ (ap (λ k. text_segments r.control (wire r.iss r.una) c.sent (wire r.irs r.rcv) (own_window r) k) text
    ∙ (text_segments_wire r.control r.iss r.una c.sent (wire r.irs r.rcv) (own_window r) (pieces (to_send r))
    ∙ ap (λ k. text_segments r.control r.iss k (wire r.irs r.rcv) (own_window r) (pieces (to_send r))) h.next)))))

pub stands_sends_text : (c c' : Conn) (d d' : Draft) (limit : ℕ) (t : Turn) → Stands c d t → SendsTo c c' limit → is_sending c.control.state ≡ true → c.sent < limit → t.tcb.una + limit ≡ send_limit t.tcb → d'.segments.items ≡ d.segments.items ++ text_segments c.control c.una c.sent c.rcv (65535 - length c.receive.items) (pieces (take (limit - c.sent) (drop c.sent c.send.items))) → d'.started ≡ d.started → Stands c' d' (sends_text t)
unfolding sends_text code_segments spec_segments
stands_sends_text c c' d d' limit t h e sending b at segments started =
    let r = t.tcb in
    let s : is_sending r.control.state ≡ true = sym (ap (λ k. is_sending k.state) h.conn.control) ∙ sending in
    let next : r.una + limit ≡ max r.nxt (send_limit r) = omega (arith, h.conn.next) in
    record {
      conn = record {
        control = e.control ∙ h.conn.control;
        una = e.una ∙ h.conn.una;
        next = ap (λ n. r.una + n) e.sent ∙ next;
        highest = ap (λ n. r.una + n) e.highest ∙ h.conn.highest;
        duplicates = e.duplicates ∙ h.conn.duplicates;
        recover = e.recover ∙ h.conn.recover;
        rcv = e.rcv ∙ h.conn.rcv;
        counts = e.counts ∙ h.conn.counts;
        send = ap (λ b. b.items) e.send ∙ h.conn.send;
        receive = ap (λ b. b.items) e.receive ∙ h.conn.receive;
        read = h.conn.read;
        phase = FitsPhase_next (phase_of r.control.state) _ _ _ _ _ (max r.nxt (send_limit r)) s (omega arith) h.conn.phase;
      };
      segments = segments ∙ (ap (λ xs. xs ++ code_segments c limit) h.segments ∙ ap (λ xs. t.sent ++ xs) (same_segments c r limit h.conn s at));
      started = started ∙ h.started;
    }

pub stands_sends_no_text : (c : Conn) (d : Draft) (limit : ℕ) (t : Turn) → Stands c d t → limit ≤ c.sent → t.tcb.una + limit ≡ send_limit t.tcb → Stands c d (sends_text t)
unfolding sends_text
stands_sends_no_text c d limit t h b at =
    let r = t.tcb in
    let next : r.nxt ≡ max r.nxt (send_limit r) = omega (arith, h.conn.next) in
    let none : send_limit r - r.nxt ≡ 0 = omega (arith, h.conn.next) in
    record {
      conn = record {
        control = h.conn.control;
        una = h.conn.una;
        next = h.conn.next ∙ next;
        highest = h.conn.highest;
        duplicates = h.conn.duplicates;
        recover = h.conn.recover;
        rcv = h.conn.rcv;
        counts = h.conn.counts;
        send = h.conn.send;
        receive = h.conn.receive;
        read = h.conn.read;
        phase = subst (λ n. FitsPhase (phase_of r.control.state) r.control.fin_wanted r.una n r.highest (data_end r)) next h.conn.phase;
      };
      segments = h.segments ∙ sym (ap (λ xs. t.sent ++ xs) (text_segments_none r.control r.iss r.nxt (wire r.irs r.rcv) (own_window r) (send_limit r - r.nxt) (drop (r.nxt - 1) r.written) none) ∙ append-nil t.sent);
      started = h.started;
    }

-- one segment of text again, from what isn't acknowledged on
pub stands_sends_again_text : (c c' : Conn) (d d' : Draft) (count : ℕ) (text : List ℕ) (p : Packet) (t : Turn) → Stands c d t → SendsTo c c' count → is_sending c.control.state ≡ true → count ≡ min (min 1460 (max c.control.window 1)) (length c.send.items) → text ≡ take count c.send.items → p ≡ with_ack t.tcb 16 (t.tcb.una + 0) text → d'.segments.items ≡ d.segments.items ++ p ∷ [] → d'.started ≡ d.started → Stands c' d' (sends_again_text t)
unfolding sends_again_text
stands_sends_again_text c c' d d' count text p t h e sending counted text_is p_is segments started =
    let r = t.tcb in
    let s : is_sending r.control.state ≡ true = sym (ap (λ k. is_sending k.state) h.conn.control) ∙ sending in
    let ends = unacknowledged_ends c r h.conn s in
    let probe : ℕ = min 1460 (max c.control.window 1) in
    let probe_is : probe ≡ probe_length r = ap (λ k. min 1460 (max k.window 1)) h.conn.control in
    let again : List ℕ = take (probe_length r) (unacknowledged r) in
    let same : text ≡ again = text_is ∙ (ap (λ n. take n c.send.items) counted ∙ (take_min probe c.send.items ∙ (ap (take probe) h.conn.send ∙ ap (λ n. take n (unacknowledged r)) probe_is))) in
    let length_is : length again ≡ count = sym (ap length same) ∙ (ap length text_is ∙ (length-take count c.send.items ∙ omega (arith, counted))) in
    let zero_is : r.una + 0 ≡ r.una = omega arith in
    let next : r.una + count ≡ r.una + length again = ap (λ n. r.una + n) (sym length_is) in
    let within : count ≤ length c.send.items = omega (arith, counted) in
    record {
      conn = record {
        control = e.control ∙ h.conn.control;
        una = e.una ∙ h.conn.una;
        next = ap (λ n. r.una + n) e.sent ∙ next;
        highest = ap (λ n. r.una + n) e.highest ∙ h.conn.highest;
        duplicates = e.duplicates ∙ h.conn.duplicates;
        recover = e.recover ∙ h.conn.recover;
        rcv = e.rcv ∙ h.conn.rcv;
        counts = e.counts ∙ h.conn.counts;
        send = ap (λ b. b.items) e.send ∙ h.conn.send;
        receive = ap (λ b. b.items) e.receive ∙ h.conn.receive;
        read = h.conn.read;
        phase = FitsPhase_next (phase_of r.control.state) _ _ _ _ _ (r.una + length again) s (omega (arith, ends.0, length_is, within)) h.conn.phase;
      };
      segments = segments ∙ (ap (λ xs. xs ++ p ∷ []) h.segments ∙ ap (λ q. t.sent ++ q ∷ []) (p_is ∙ (ap (λ n. with_ack r 16 n text) zero_is ∙ ap (λ xs. with_ack r 16 r.una xs) same)));
      started = started ∙ h.started;
    }

same_number : (a b : ℕ) → (a == b) ≡ true → a ≡ b
same_number a b e = grind (arith, nat_tests)

-- the FIN, once all text was sent
pub stands_sends_fin : (c c' : Conn) (d d' : Draft) (p : Packet) (t : Turn) → Stands c d t → SendsTo c c' (length c.send.items + 1) → is_sending c.control.state ≡ true → fin_is_next t.tcb ≡ true → p ≡ with_ack t.tcb 17 (t.tcb.una + c.sent) [] → d'.segments.items ≡ d.segments.items ++ p ∷ [] → d'.started ≡ d.started → Stands c' d' (sends_fin t)
unfolding sends_fin
stands_sends_fin c c' d d' p t h e sending due p_is segments started =
    let r = t.tcb in
    let s : is_sending r.control.state ≡ true = sym (ap (λ k. is_sending k.state) h.conn.control) ∙ sending in
    let ends = unacknowledged_ends c r h.conn s in
    let parts = and_parts (r.nxt == data_end r) r.control.fin_wanted due in
    let all : r.nxt ≡ data_end r = same_number r.nxt (data_end r) parts.0 in
    let next : r.una + (length c.send.items + 1) ≡ r.nxt + 1 = omega (arith, ends.0, all) in
    let sent : Turn = changed (moves_next (r.nxt + 1)) (sends (with_ack r 17 r.nxt []) t) in
    subst (λ (x : Turn). Stands c' d' x) (sym (ap (λ (b : Bool). if b then sent else t) due))
    (record {
      conn = record {
        control = e.control ∙ h.conn.control;
        una = e.una ∙ h.conn.una;
        next = ap (λ n. r.una + n) e.sent ∙ next;
        highest = ap (λ n. r.una + n) e.highest ∙ h.conn.highest;
        duplicates = e.duplicates ∙ h.conn.duplicates;
        recover = e.recover ∙ h.conn.recover;
        rcv = e.rcv ∙ h.conn.rcv;
        counts = e.counts ∙ h.conn.counts;
        send = ap (λ b. b.items) e.send ∙ h.conn.send;
        receive = ap (λ b. b.items) e.receive ∙ h.conn.receive;
        read = h.conn.read;
        phase = FitsPhase_fin (phase_of r.control.state) _ _ _ _ _ (r.nxt + 1) s parts.1 (omega (arith, all)) h.conn.phase;
      };
      segments = segments ∙ (ap (λ xs. xs ++ p ∷ []) h.segments ∙ ap (λ q. t.sent ++ q ∷ []) (p_is ∙ ap (λ n. with_ack r 17 n []) h.conn.next));
      started = started ∙ h.started;
    })
