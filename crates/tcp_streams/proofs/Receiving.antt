-- a record only grows: what it received
use Rattle.std.proofs.Common.{◌≡◌, ℕ, ◌==◌, ◌||◌, List, [], ◌++◌, length, Bool, true, false, refl, sym, ap, subst, ◌∙◌, append_assoc, append-nil, arith}
use Rattle.sim_base.specs.declared.packet.Packet.{Packet}
use Rattle.sim_base.specs.declared.packet.Load.{Load}
use Rattle.sim_base.specs.declared.packet.Load.TheVariants.{Udp, Tcp}
use Rattle.sim_base.specs.declared.errno.Errno.TheVariants.{Econnrefused, Econnreset}
use Rattle.sock_tcp.specs.declared.connection.effects.Shut.{Shut}
use Rattle.sock_tcp.specs.declared.connection.effects.Shut.TheVariants.{Reading, Writing, Both}
use Rattle.sock_tcp.specs.declared.segment.header.Header.{Header}
use Rattle.sock_tcp.specs.declared.segment.verdict.Verdict.{Verdict}
use Rattle.sock_tcp.specs.declared.segment.verdict.Verdict.TheVariants.{Dropped, Acknowledged, SynAcknowledged, Refused, ConnectRefused, Reset, Gone, Connects, Establishes, Advances, Continues}
use Rattle.sock_tcp.specs.segment.Header.{header_of}
use Rattle.sock_tcp.specs.segment.State.{takes_text}
use Rattle.sock_tcp.specs.connection.Tcb.{Tcb, Turn, changed}
use Rattle.sock_tcp.specs.connection.Begin.{begin}
use Rattle.sock_tcp.specs.connection.Segment.{sends_ack, sends_syn_ack, sends_reset, sends_refusal}
use Rattle.sock_tcp.specs.connection.Ending.{ends, vanishes}
use Rattle.sock_tcp.specs.connection.Timer.{judged}
use Rattle.sock_tcp.specs.connection.Output.{output}
use Rattle.sock_tcp.specs.connection.Congestion.{is_duplicate}
use Rattle.sock_tcp.specs.connection.Arrival.{verdict, peer_known, establishes, advances, notices, fitting_text, keeps, discards, text_comes, receives_text, fin_is_due, fin_received, receives_fin, wants_ack, concludes, unless_over, receives, connects, acts_on, takes_segment, takes_load, takes_packet}
use Rattle.sock_tcp.specs.connection.Process.{writes, reads, flows, ends_reading, ends_writing, shuts_end, shuts, closes, error_taken, expires}
use Rattle.tcp_laws.specs.Acts.{Act, acted}
use Rattle.tcp_laws.specs.Acts.Act.{arrival, write, read, flow, shut, close, expiry, error_read}
use Rattle.tcp_laws.proofs.Tests.{by_test}
use Rattle.tcp_streams.specs.Sound.{Receives, ReceivesOn}
use Rattle.tcp_streams.proofs.Ears.{Ear, ear, HearsAs, judged_ear, sends_ack_ear, sends_syn_ack_ear, sends_reset_ear, sends_refusal_ear, ends_ear, vanishes_ear, output_ear, establishes_ear, advances_ear, notices_ear, concluded_ear, writes_ear, flows_ear, ends_writing_ear, closes_ear, error_taken_ear, expires_ear}

abbrev pub HearsOn : Tcb → Ear → Type 0
HearsOn r e = Receives r e.received e.read e.discarded e.ended e.taken e.saw

abbrev Goes : Tcb → Turn → Type 0
Goes r t = HearsOn r (ear t.tcb)

as_ear : (r : Tcb) (e : Ear) (t : Turn) → HearsAs e t → HearsOn r e → Goes r t
as_ear r e t same h = subst (HearsOn r) (sym same) h

goes_begin : (r : Tcb) → Goes r (begin r)
goes_begin r = record {
  more = [];
  received = sym (append-nil r.received);
  read = omega arith;
  discarded = omega arith;
  shut = λ e. (e, refl);
  taken_stays = λ e. e;
  seen_stays = λ e. e;
}

-- text
not_ended : (a : Bool) (X : Type 0) → a ≡ true → a ≡ false → X
not_ended a X e k = let no : true ≡ false = sym e ∙ k in absurd (cc)

goes_keeps : (r : Tcb) (bytes : List ℕ) (t : Turn) → t.tcb.control.reading_ended ≡ false → Goes r t → Goes r (changed (keeps bytes) t)
unfolding keeps
goes_keeps r bytes t unended h = record {
  more = h.more ++ bytes;
  received = ap (λ xs. xs ++ bytes) h.received ∙ append_assoc r.received h.more bytes;
  read = h.read;
  discarded = h.discarded;
  shut = λ e. not_ended t.tcb.control.reading_ended _ ((h.shut e).0) unended;
  taken_stays = h.taken_stays;
  seen_stays = h.seen_stays;
}

goes_discards : (r : Tcb) (count : ℕ) (t : Turn) → Goes r t → Goes r (changed (discards count) t)
unfolding discards
goes_discards r count t h = record {
  more = h.more;
  received = h.received;
  read = h.read;
  discarded = omega (arith, h.discarded);
  shut = h.shut;
  taken_stays = h.taken_stays;
  seen_stays = h.seen_stays;
}

goes_takes : (r : Tcb) (bytes : List ℕ) (t : Turn) → Goes r t → Goes r (text_comes bytes t)
unfolding text_comes
goes_takes r bytes t h =
    by_test (Goes r) (length bytes == 0) _ _
    (λ e. h)
    (λ e.
    by_test (Goes r) t.tcb.control.closed _ _
    (λ k. as_ear r (ear t.tcb) (vanishes (sends_reset t)) (vanishes_ear (sends_reset t) ∙ sends_reset_ear t) h)
    (λ k.
    by_test (Goes r) t.tcb.control.reading_ended _ _
    (λ m. goes_discards r (length bytes) t h)
    (λ m. goes_keeps r bytes t m h)))

goes_receives_text : (r : Tcb) (h : Header) (text : List ℕ) (t : Turn) → Goes r t → Goes r (receives_text h text t)
unfolding receives_text
goes_receives_text r h text t k =
    by_test (Goes r) (takes_text t.tcb.control.state) _ _ (λ e. goes_takes r (fitting_text h text t.tcb) t k) (λ e. k)

-- the FIN
goes_receives_fin : (r : Tcb) (h : Header) (text : List ℕ) (t : Turn) → Goes r t → Goes r (receives_fin h text t)
unfolding receives_fin fin_received
goes_receives_fin r h text t k =
    by_test (Goes r) (fin_is_due h text t.tcb) _ _
    (λ e. record {
      more = k.more;
      received = k.received;
      read = k.read;
      discarded = k.discarded;
      shut = k.shut;
      taken_stays = λ m. refl;
      seen_stays = k.seen_stays;
    })
    (λ e. k)

goes_receives : (r : Tcb) (h : Header) (text : List ℕ) (t : Turn) → Goes r t → Goes r (receives h text t)
unfolding receives
goes_receives r h text t k =
    let u = receives_fin h text (receives_text h text t) in
    as_ear r (ear u.tcb) (unless_over (concludes (wants_ack h text t.tcb) h.fin) u) (concluded_ear (wants_ack h text t.tcb) h.fin u) (goes_receives_fin r h text (receives_text h text t) (goes_receives_text r h text t k))

-- a segment
goes_connects : (r : Tcb) (h : Header) (t : Turn) → Goes r t → Goes r (connects h t)
unfolding connects peer_known
goes_connects r h t k =
    let u = establishes h.window (changed (peer_known h.seq) t) in
    as_ear r (ear (peer_known h.seq t.tcb)) (output (sends_ack u)) (output_ear (sends_ack u) ∙ (sends_ack_ear u ∙ establishes_ear h.window (changed (peer_known h.seq) t))) k

goes_acts_on : (r : Tcb) (v : Verdict) (h : Header) (text : List ℕ) (t : Turn) → Goes r t → Goes r (acts_on v h text t)
goes_acts_on r Dropped h text t k = k
goes_acts_on r Acknowledged h text t k = as_ear r (ear t.tcb) (sends_ack t) (sends_ack_ear t) k
goes_acts_on r SynAcknowledged h text t k = as_ear r (ear t.tcb) (sends_syn_ack t) (sends_syn_ack_ear t) k
goes_acts_on r Refused h text t k = as_ear r (ear t.tcb) (sends_refusal h.ack t) (sends_refusal_ear h.ack t) k
goes_acts_on r ConnectRefused h text t k = as_ear r (ear t.tcb) (ends Econnrefused t) (ends_ear Econnrefused t) k
goes_acts_on r Reset h text t k = as_ear r (ear t.tcb) (ends Econnreset t) (ends_ear Econnreset t) k
goes_acts_on r Gone h text t k = as_ear r (ear t.tcb) (vanishes t) (vanishes_ear t) k
goes_acts_on r Connects h text t k = goes_connects r h t k
goes_acts_on r Establishes h text t k =
    goes_receives r h text (establishes h.window t) (as_ear r (ear t.tcb) (establishes h.window t) (establishes_ear h.window t) k)
goes_acts_on r (Advances by) h text t k =
    let u = advances by h.window t in
    let d = is_duplicate by h (length text) t.tcb in
    goes_receives r h text (notices d u) (as_ear r (ear t.tcb) (notices d u) (notices_ear d u ∙ advances_ear by h.window t) k)
goes_acts_on r Continues h text t k = goes_receives r h text t k

goes_takes_load : (r : Tcb) (load : Load) (t : Turn) → Goes r t → Goes r (takes_load load t)
unfolding takes_segment
goes_takes_load r (Udp text) t k = k
goes_takes_load r (Tcp flags seq ack window text) t k =
    let h = header_of flags seq ack window in
    let u = acts_on (verdict t.tcb h) h text t in
    as_ear r (ear u.tcb) (judged u) (judged_ear u) (goes_acts_on r (verdict t.tcb h) h text t k)

goes_takes_packet : (r : Tcb) (p : Packet) (t : Turn) → Goes r t → Goes r (takes_packet p t)
unfolding takes_packet
goes_takes_packet r p t k = goes_takes_load r p.load t k

-- calls of the process
or_true : (a b : Bool) → a ≡ true → (a || b) ≡ true
or_true true b e = refl
or_true false b e = cc

goes_reads : (r : Tcb) (count : ℕ) (t : Turn) → Goes r t → Goes r (changed (reads count) t)
unfolding reads
goes_reads r count t k = record {
  more = k.more;
  received = k.received;
  read = omega (arith, k.read);
  discarded = k.discarded;
  shut = k.shut;
  taken_stays = k.taken_stays;
  seen_stays = λ e. or_true t.tcb.control.saw_end _ (k.seen_stays e);
}

goes_ends_reading : (r : Tcb) (t : Turn) → Goes r t → Goes r (ends_reading t)
unfolding ends_reading
goes_ends_reading r t k = record {
  more = k.more;
  received = k.received;
  read = k.read;
  discarded = k.discarded;
  shut = λ e. (refl, (k.shut e).1);
  taken_stays = k.taken_stays;
  seen_stays = k.seen_stays;
}

goes_ends_writing : (r : Tcb) (t : Turn) → Goes r t → Goes r (ends_writing t)
goes_ends_writing r t k = as_ear r (ear t.tcb) (ends_writing t) (ends_writing_ear t) k

goes_shuts_end : (r : Tcb) (end : Shut) (t : Turn) → Goes r t → Goes r (shuts_end end t)
goes_shuts_end r Reading t k = goes_ends_reading r t k
goes_shuts_end r Writing t k = goes_ends_writing r t k
goes_shuts_end r Both t k = goes_ends_writing r (ends_reading t) (goes_ends_reading r t k)

goes_shuts : (r : Tcb) (end : Shut) (t : Turn) → Goes r t → Goes r (shuts end t)
unfolding shuts
goes_shuts r end t k =
    as_ear r (ear (shuts_end end t).tcb) (judged (shuts_end end t)) (judged_ear (shuts_end end t)) (goes_shuts_end r end t k)

pub receives_on : (act : Act) (r : Tcb) → ReceivesOn r (acted act r).tcb
receives_on (arrival p) r = goes_takes_packet r p (begin r) (goes_begin r)
receives_on (write bytes) r = as_ear r (ear r) (changed (writes bytes) (begin r)) (writes_ear bytes (begin r)) (goes_begin r)
receives_on (read count) r = goes_reads r count (begin r) (goes_begin r)
receives_on flow r = as_ear r (ear r) (flows (begin r)) (flows_ear (begin r)) (goes_begin r)
receives_on (shut end) r = goes_shuts r end (begin r) (goes_begin r)
receives_on close r = as_ear r (ear r) (closes (begin r)) (closes_ear (begin r)) (goes_begin r)
receives_on expiry r = as_ear r (ear r) (expires (begin r)) (expires_ear (begin r)) (goes_begin r)
receives_on error_read r = as_ear r (ear r) (changed error_taken (begin r)) (error_taken_ear (begin r)) (goes_begin r)
