-- what a record hears of another one
use Rattle.std.proofs.Common.{◌≡◌, ◌⊎◌, inr, ⊎_elim, ℕ, ◌-◌, ◌<◌, ◌≤◌, ◌==◌, ◌^◌, ◌&&◌, List, length, Bool, true, false, refl, sym, ap, subst, ◌∙◌, arith}
use Rattle.sim_base.specs.declared.packet.Packet.{Packet}
use Rattle.sim_base.specs.declared.packet.Load.{Load}
use Rattle.sim_base.specs.declared.packet.Load.TheVariants.{Udp, Tcp}
use Rattle.sim_base.specs.declared.errno.Errno.TheVariants.{Econnrefused, Econnreset}
use Rattle.sock_tcp.specs.declared.segment.header.Header.{Header}
use Rattle.sock_tcp.specs.declared.segment.verdict.Verdict.{Verdict}
use Rattle.sock_tcp.specs.declared.segment.verdict.Verdict.TheVariants.{Dropped, Acknowledged, SynAcknowledged, Refused, ConnectRefused, Reset, Gone, Connects, Establishes, Advances, Continues}
use Rattle.sock_tcp.specs.segment.Header.{header_of}
use Rattle.sock_tcp.specs.segment.Number.{wire}
use Rattle.sock_tcp.specs.segment.Refusal.{one_if}
use Rattle.sock_tcp.specs.segment.State.{is_syn_sent, takes_text}
use Rattle.sock_tcp.specs.connection.Tcb.{Tcb, Turn, own_window, changed}
use Rattle.sock_tcp.specs.connection.Begin.{begin}
use Rattle.sock_tcp.specs.connection.Segment.{sends_ack, sends_syn_ack, sends_reset, sends_refusal}
use Rattle.sock_tcp.specs.connection.Ending.{vanished, ends, vanishes}
use Rattle.sock_tcp.specs.connection.Timer.{judged}
use Rattle.sock_tcp.specs.connection.Output.{output}
use Rattle.sock_tcp.specs.connection.Congestion.{is_duplicate}
use Rattle.sock_tcp.specs.connection.Arrival.{verdict, peer_known, establishes, own_fin_acknowledged, state_advanced, advances, notices, fitting_text, keeps, discards, text_comes, receives_text, fin_is_due, fin_received, receives_fin, wants_ack, concludes, unless_over, receives, connects, acts_on, takes_segment, takes_load, takes_packet}
use Rattle.tcp_laws.specs.Acts.{acted}
use Rattle.tcp_laws.specs.Acts.Act.{arrival}
use Rattle.tcp_laws.specs.Received.{IsCounted}
use Rattle.tcp_laws.specs.Sending.{IsAt, stream, Carries, LoadCarries}
use Rattle.tcp_laws.proofs.Tests.{by_test}
use Rattle.tcp_laws.proofs.Places.{IsAt_take}
use Rattle.tcp_streams.specs.Heard.{IsFront, HearsFrom}
use Rattle.tcp_streams.proofs.Fronts.{empty_of, nothing_front}
use Rattle.tcp_streams.proofs.Verdicts.{Says, verdict_says}
use Rattle.tcp_streams.proofs.Ears.{Ear, ear, HearsAs, judged_ear, sends_ack_ear, sends_syn_ack_ear, sends_reset_ear, sends_refusal_ear, ends_ear, vanishes_ear, output_ear, establishes_ear, advances_ear, notices_ear, concluded_ear}
use Rattle.tcp_streams.proofs.Ends.{and_left, and_right, same_number}
use Rattle.tcp_streams.proofs.Stages.{IsOpen, open_stage, half_open, unopened, open_advanced, state_advances, state_notices}
use Rattle.tcp_streams.proofs.Texts.{Hearing, fresh_there, hearing_keeps, hearing_discards, hearing_fin}

-- or nothing yet
abbrev pub Knows : Tcb → Ear → Type 0
Knows w e = (e.rcv ≡ 0) ⊎ Hearing w e

abbrev pub Listens : Tcb → Turn → Type 0
Listens w t = Knows w (ear t.tcb)

as_ear : (w : Tcb) (e : Ear) (t : Turn) → HearsAs e t → Knows w e → Listens w t
as_ear w e t same h = subst (Knows w) (sym same) h

-- a call on its way
record Listening (w : Tcb) (t : Turn) : Type 0 where
  knows : Listens w t
  unclosed : IsOpen t
  kept : t.tcb.control.reading_ended ≡ false → t.tcb.discarded ≡ 0

record Listened (w : Tcb) (t : Turn) : Type 0 where
  knows : Listens w t
  unclosed : IsOpen t

heard_of : (w : Tcb) (e : Ear) → 1 ≤ e.rcv → Knows w e → Hearing w e
heard_of w e b k = ⊎_elim (λ z. absurd (omega (arith, z))) (λ h. h) k

over_open : (t : Turn) → IsOpen (vanishes (sends_reset t))
unfolding vanishes vanished
over_open t e = cc

listened_keeps : (w : Tcb) (bytes : List ℕ) (t : Turn) → takes_text t.tcb.control.state ≡ true → t.tcb.control.reading_ended ≡ false → Listening w t → IsAt t.tcb.rcv bytes (stream w.written) → Listened w (changed (keeps bytes) t)
unfolding keeps
listened_keeps w bytes t s unended l p =
    let o = l.unclosed s in
    record {
      knows = inr (hearing_keeps w (ear t.tcb) bytes o.0 (l.kept unended) p (heard_of w (ear t.tcb) o.1 l.knows));
      unclosed = λ e. (o.0, omega (arith, o.1));
    }

listened_discards : (w : Tcb) (bytes : List ℕ) (t : Turn) → takes_text t.tcb.control.state ≡ true → Listening w t → IsAt t.tcb.rcv bytes (stream w.written) → Listened w (changed (discards (length bytes)) t)
unfolding discards
listened_discards w bytes t s l p =
    let o = l.unclosed s in
    record {
      knows = inr (hearing_discards w (ear t.tcb) bytes o.0 p (heard_of w (ear t.tcb) o.1 l.knows));
      unclosed = λ e. (o.0, omega (arith, o.1));
    }

listened_as_is : (w : Tcb) (t : Turn) → Listening w t → Listened w t
listened_as_is w t l = record { knows = l.knows; unclosed = l.unclosed }

listened_takes : (w : Tcb) (bytes : List ℕ) (t : Turn) → takes_text t.tcb.control.state ≡ true → Listening w t → IsAt t.tcb.rcv bytes (stream w.written) → Listened w (text_comes bytes t)
unfolding text_comes
listened_takes w bytes t s l p =
    by_test (Listened w) (length bytes == 0) _ _
    (λ e. listened_as_is w t l)
    (λ e.
    by_test (Listened w) t.tcb.control.closed _ _
    (λ k. record {
      knows = as_ear w (ear t.tcb) (vanishes (sends_reset t)) (vanishes_ear (sends_reset t) ∙ sends_reset_ear t) l.knows;
      unclosed = over_open t;
    })
    (λ k.
    by_test (Listened w) t.tcb.control.reading_ended _ _
    (λ m. listened_discards w bytes t s l p)
    (λ m. listened_keeps w bytes t s m l p)))

-- what an honest segment carries
abbrev IsTold : Tcb → Header → List ℕ → Type 0
IsTold w h text = (length w.written < 2 ^ 30) × Carries w.iss w.written w.control.fin_wanted h text

listened_receives_text : (w : Tcb) (h : Header) (text : List ℕ) (t : Turn) → IsTold w h text → Listening w t → Listened w (receives_text h text t)
unfolding receives_text fitting_text
listened_receives_text w h text t told l =
    by_test (Listened w) (takes_text t.tcb.control.state) _ _
    (λ s.
    let o = l.unclosed s in
    let there = fresh_there w (ear t.tcb) h text told.0 (heard_of w (ear t.tcb) o.1 l.knows) told.1 in
    listened_takes w (fitting_text h text t.tcb) t s l (IsAt_take t.tcb.rcv (own_window t.tcb) _ (stream w.written) there))
    (λ s. listened_as_is w t l)

listens_fin : (w : Tcb) (h : Header) (text : List ℕ) (t : Turn) → IsTold w h text → Listened w t → Listens w (receives_fin h text t)
unfolding receives_fin fin_received
listens_fin w h text t told l =
    let at : Bool = wire h.seq (length text) == wire t.tcb.irs t.tcb.rcv in
    let due : Bool = takes_text t.tcb.control.state && at in
    by_test (Listens w) (fin_is_due h text t.tcb) _ _
    (λ e.
    let both = and_right h.fin due e in
    let o = l.unclosed (and_left (takes_text t.tcb.control.state) at both) in
    let there = same_number (wire h.seq (length text)) (wire t.tcb.irs t.tcb.rcv) (and_right (takes_text t.tcb.control.state) at both) in
    inr (hearing_fin w (ear t.tcb) h text told.0 o.0 (and_left h.fin due e) there told.1 (heard_of w (ear t.tcb) o.1 l.knows)))
    (λ e. l.knows)

listens_receives : (w : Tcb) (h : Header) (text : List ℕ) (t : Turn) → IsTold w h text → Listening w t → Listens w (receives h text t)
unfolding receives
listens_receives w h text t told l =
    let u = receives_fin h text (receives_text h text t) in
    let act = concludes (wants_ack h text t.tcb) h.fin in
    as_ear w (ear u.tcb) (unless_over act u) (concluded_ear (wants_ack h text t.tcb) h.fin u) (listens_fin w h text (receives_text h text t) told (listened_receives_text w h text t told l))

-- the SYN of the other record
listens_connects : (w : Tcb) (h : Header) (text : List ℕ) (r : Tcb) → IsTold w h text → h.syn ≡ true → is_syn_sent r.control.state ≡ true → IsCounted r → Listens w (connects h (begin r))
unfolding connects peer_known
listens_connects w h text r told syn s counted =
    let t = begin r in
    let u = establishes h.window (changed (peer_known h.seq) t) in
    let nothing = counted.nothing (unopened r.control.state r.control.fin_taken r.rcv s counted.stage) in
    let none : length r.received ≡ 0 = omega (arith, nothing.0) in
    let e = ear (peer_known h.seq r) in
    let first : h.seq ≡ wire w.iss 0 = told.1.seq ∙ ap (wire w.iss) (told.1.syn syn) in
    let zero : one_if r.control.fin_taken ≡ 0 = ap one_if nothing.1 in
    as_ear w e (output (sends_ack u)) (output_ear (sends_ack u) ∙ (sends_ack_ear u ∙ establishes_ear h.window (changed (peer_known h.seq) t)))
    (inr (record {
      first = first;
      expected = omega (arith, nothing.0, zero);
      within = omega (arith, nothing.0);
      front = subst (λ (xs : List ℕ). IsFront xs w.written) (sym (empty_of r.received none)) (nothing_front w.written);
      ended = λ t. let no : true ≡ false = sym t ∙ nothing.1 in absurd (cc);
    }))

-- a segment
opens_here : (e : Ear) (t : Turn) → HearsAs e t → (e.taken ≡ false) × (1 ≤ e.rcv) → IsOpen t
opens_here e t same h s =
    (ap (λ (x : Ear). x.taken) same ∙ h.0, subst (λ (n : ℕ). 1 ≤ n) (sym (ap (λ (x : Ear). x.rcv) same)) h.1)

listening_as : (w : Tcb) (r : Tcb) (t : Turn) → HearsAs (ear r) t → IsOpen t → (r.control.reading_ended ≡ false → r.discarded ≡ 0) → Knows w (ear r) → Listening w t
listening_as w r t same unclosed kept k = record {
  knows = as_ear w (ear r) t same k;
  unclosed = unclosed;
  kept = λ e. ap (λ (x : Ear). x.discarded) same ∙ kept (sym (ap (λ (x : Ear). x.ended) same) ∙ e);
}

-- a RST tells nothing, and nothing is told by one that isn't listened to
abbrev Told : Tcb → Header → List ℕ → Type 0
Told w h text =
    (h.rst ≡ true) ⊎ Carries w.iss w.written w.control.fin_wanted h text

told_of : (w : Tcb) (h : Header) (text : List ℕ) → length w.written < 2 ^ 30 → h.rst ≡ false → Told w h text → IsTold w h text
told_of w h text short k told =
    (short, ⊎_elim (λ e. let no : true ≡ false = sym e ∙ k in absurd (cc)) (λ c. c) told)

listens_acts_on : (w : Tcb) (v : Verdict) (h : Header) (text : List ℕ) (r : Tcb) → length w.written < 2 ^ 30 → IsCounted r → Says r.control.state h v → Told w h text → Knows w (ear r) → Listens w (acts_on v h text (begin r))
listens_acts_on w Dropped h text r short c says told k = k
listens_acts_on w Acknowledged h text r short c says told k =
    as_ear w (ear r) (sends_ack (begin r)) (sends_ack_ear (begin r)) k
listens_acts_on w SynAcknowledged h text r short c says told k =
    as_ear w (ear r) (sends_syn_ack (begin r)) (sends_syn_ack_ear (begin r)) k
listens_acts_on w Refused h text r short c says told k =
    as_ear w (ear r) (sends_refusal h.ack (begin r)) (sends_refusal_ear h.ack (begin r)) k
listens_acts_on w ConnectRefused h text r short c says told k =
    as_ear w (ear r) (ends Econnrefused (begin r)) (ends_ear Econnrefused (begin r)) k
listens_acts_on w Reset h text r short c says told k =
    as_ear w (ear r) (ends Econnreset (begin r)) (ends_ear Econnreset (begin r)) k
listens_acts_on w Gone h text r short c says told k =
    as_ear w (ear r) (vanishes (begin r)) (vanishes_ear (begin r)) k
listens_acts_on w Connects h text r short c says told k =
    listens_connects w h text r (told_of w h text short says.2 told) says.1 says.0 c
listens_acts_on w Establishes h text r short c says told k =
    let t = establishes h.window (begin r) in
    let same = establishes_ear h.window (begin r) in
    let o = half_open r.control.state r.control.fin_taken r.rcv says.0 c.stage in
    listens_receives w h text t (told_of w h text short says.1 told) (listening_as w r t same (opens_here (ear r) t same o) c.kept k)
listens_acts_on w (Advances by) h text r short c says told k =
    let u = advances by h.window (begin r) in
    let d = is_duplicate by h (length text) r in
    let t = notices d u in
    let same : HearsAs (ear r) t = notices_ear d u ∙ advances_ear by h.window (begin r) in
    let state : t.tcb.control.state ≡ state_advanced (own_fin_acknowledged by r) r.control.state =
    state_notices d u ∙ state_advances by h.window (begin r) in
    let unclosed : IsOpen t = λ s.
    let before = open_advanced (own_fin_acknowledged by r) r.control.state (sym (ap takes_text state) ∙ s) in
    opens_here (ear r) t same (open_stage r.control.state r.control.fin_taken r.rcv before c.stage) s in
    listens_receives w h text t (told_of w h text short says told) (listening_as w r t same unclosed c.kept k)
listens_acts_on w Continues h text r short c says told k =
    let unclosed : IsOpen (begin r) = λ s. open_stage r.control.state r.control.fin_taken r.rcv s c.stage in
    listens_receives w h text (begin r) (told_of w h text short says told) (listening_as w r (begin r) refl unclosed c.kept k)

listens_takes_load : (w : Tcb) (load : Load) (r : Tcb) → length w.written < 2 ^ 30 → IsCounted r → LoadCarries w.iss w.written w.control.fin_wanted load → Knows w (ear r) → Listens w (takes_load load (begin r))
unfolding takes_segment
listens_takes_load w (Udp text) r short c told k = k
listens_takes_load w (Tcp flags seq ack window text) r short c told k =
    let h = header_of flags seq ack window in
    let v = verdict r h in
    let u = acts_on v h text (begin r) in
    let says = verdict_says r.control.state (r.highest - r.una) (wire r.irs r.rcv) (wire r.iss r.una) h in
    as_ear w (ear u.tcb) (judged u) (judged_ear u) (listens_acts_on w v h text r short c says told k)

listens_takes_packet : (w : Tcb) (p : Packet) (r : Tcb) → length w.written < 2 ^ 30 → IsCounted r → LoadCarries w.iss w.written w.control.fin_wanted p.load → Knows w (ear r) → Listens w (takes_packet p (begin r))
unfolding takes_packet
listens_takes_packet w p r short c told k = listens_takes_load w p.load r short c told k

pub hears_segment : (w : Tcb) (p : Packet) (r : Tcb) → length w.written < 2 ^ 30 → IsCounted r → LoadCarries w.iss w.written w.control.fin_wanted p.load → (r.rcv ≡ 0) ⊎ HearsFrom w r → let after = (acted (arrival p) r).tcb in (after.rcv ≡ 0) ⊎ HearsFrom w after
hears_segment w p r short c told k = listens_takes_packet w p r short c told k
