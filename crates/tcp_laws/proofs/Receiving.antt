-- what a record keeps as it receives
use Rattle.std.proofs.Common.{◌≡◌, ◌⊎◌, inl, inr, ⊎_elim, ℕ, ◌+◌, ◌==◌, ◌≤◌, ◌&&◌, ◌||◌, nat_lt, List, ◌++◌, length, take, drop, min, Bool, true, false, not, refl, sym, ap, subst, ◌∙◌, length-append, arith}
use Rattle.std.proofs.lemmas.Bool.Decides.{nat_tests}
use Rattle.std.proofs.lemmas.List.{length-drop, take-append-le, take_min}
use Rattle.std.proofs.Math.Seq.{take-add}
use Rattle.sock_tcp.specs.declared.segment.control.Control.{Control}
use Rattle.sock_tcp.specs.declared.segment.header.Header.{Header}
use Rattle.sock_tcp.specs.declared.segment.state.TcpState.{TcpState}
use Rattle.sock_tcp.specs.declared.segment.state.TcpState.TheVariants.{SynSent, SynReceived, Established, FinWait1, FinWait2, CloseWait, Closing, LastAck, TimeWait, Ended, Vanished}
use Rattle.sock_tcp.specs.declared.segment.state.Phase.{Phase}
use Rattle.sock_tcp.specs.segment.Number.{wire}
use Rattle.sock_tcp.specs.segment.Refusal.{one_if}
use Rattle.sock_tcp.specs.segment.State.{after_peer_fin, takes_text, is_time_wait}
use Rattle.sock_tcp.specs.segment.Control.{finds_end}
use Rattle.sock_tcp.specs.connection.Tcb.{Tcb, Turn, data_end, unread, changed}
use Rattle.sock_tcp.specs.connection.Begin.{begin}
use Rattle.sock_tcp.specs.connection.Segment.{sends_reset}
use Rattle.sock_tcp.specs.connection.Congestion.{flight_of}
use Rattle.sock_tcp.specs.connection.StandsFor.{FitsPhase}
use Rattle.sock_tcp.specs.connection.Process.{bytes_read, reads}
use Rattle.sock_tcp.specs.connection.Arrival.{fitting_text, keeps, discards, text_comes, receives_text, fin_is_due, fin_received, receives_fin, wants_ack, answers, waits_again, concludes, receives}
use Rattle.tcp_laws.specs.Received.{Counted, FitsTaken}
use Rattle.sock_tcp.proofs.Segments.States.{phase_of_after_peer_fin}
use Rattle.tcp_laws.proofs.Tests.{by_test}
use Rattle.tcp_laws.proofs.Holds.{Kept, kept_of, Holds}
use Rattle.tcp_laws.proofs.Sending.{and_left, and_right, holds_sends_ack, holds_sends_reset, holds_restarts, holds_output}
use Rattle.tcp_laws.proofs.Ends.{holds_vanishes, holds_unless_over}

-- where text is taken, the FIN wasn't
open_of : (state : TcpState) (taken : Bool) (rcv : ℕ) → takes_text state ≡ true → FitsTaken state taken rcv → (taken ≡ false) × (1 ≤ rcv)
open_of SynSent taken rcv t h = cc
open_of SynReceived taken rcv t h = cc
open_of Established taken rcv t h = h
open_of FinWait1 taken rcv t h = h
open_of FinWait2 taken rcv t h = h
open_of CloseWait taken rcv t h = cc
open_of Closing taken rcv t h = cc
open_of LastAck taken rcv t h = cc
open_of TimeWait taken rcv t h = cc
open_of Ended taken rcv t h = cc
open_of Vanished taken rcv t h = cc

taken_more : (state : TcpState) (taken : Bool) (rcv more : ℕ) → takes_text state ≡ true → FitsTaken state taken rcv → FitsTaken state taken (rcv + more)
taken_more SynSent taken rcv more t h = cc
taken_more SynReceived taken rcv more t h = cc
taken_more Established taken rcv more t h = (h.0, omega arith)
taken_more FinWait1 taken rcv more t h = (h.0, omega arith)
taken_more FinWait2 taken rcv more t h = (h.0, omega arith)
taken_more CloseWait taken rcv more t h = cc
taken_more Closing taken rcv more t h = cc
taken_more LastAck taken rcv more t h = cc
taken_more TimeWait taken rcv more t h = cc
taken_more Ended taken rcv more t h = cc
taken_more Vanished taken rcv more t h = cc

not_seen : (saw taken : Bool) (X : Type 0) → (saw ≡ true → taken ≡ true) → taken ≡ false → saw ≡ true → X
not_seen saw taken X k untaken e = let taken_too = k e in absurd (cc)

counted_more : (r : Tcb) (kept thrown : ℕ) → takes_text r.control.state ≡ true → (r.control.reading_ended ≡ false → thrown ≡ 0) → Counted r.control.state r.control.fin_taken r.control.reading_ended r.control.saw_end r.rcv (length r.received) r.read r.discarded → Counted r.control.state r.control.fin_taken r.control.reading_ended r.control.saw_end (r.rcv + (kept + thrown)) (length r.received + kept) r.read (r.discarded + thrown)
counted_more r kept thrown t k h =
    let c = r.control in
    let o = open_of c.state c.fin_taken r.rcv t h.stage in
    record {
      nothing = λ e. absurd (omega (arith, o.1));
      expected = λ b. omega (arith, h.expected o.1);
      stage = taken_more c.state c.fin_taken r.rcv (kept + thrown) t h.stage;
      within = omega (arith, h.within);
      kept = λ e. omega (arith, h.kept e, k e);
      seen = λ e. not_seen c.saw_end c.fin_taken _ (λ s. (h.seen s).0) o.0 e;
    }

counted_as : (r : Tcb) (rcv rcv' count count' thrown thrown' : ℕ) → rcv ≡ rcv' → count ≡ count' → thrown ≡ thrown' → Counted r.control.state r.control.fin_taken r.control.reading_ended r.control.saw_end rcv count r.read thrown → Counted r.control.state r.control.fin_taken r.control.reading_ended r.control.saw_end rcv' count' r.read thrown'
counted_as r rcv rcv' count count' thrown thrown' a b c h =
    let s = r.control in
    subst (λ (n : ℕ). Counted s.state s.fin_taken s.reading_ended s.saw_end n count' r.read thrown') a
    (subst (λ (n : ℕ). Counted s.state s.fin_taken s.reading_ended s.saw_end rcv n r.read thrown') b
    (subst (λ (n : ℕ). Counted s.state s.fin_taken s.reading_ended s.saw_end rcv count r.read n) c h))

-- text
holds_keeps : (f : Kept) (r0 : Tcb) (bytes : List ℕ) (t : Turn) → takes_text t.tcb.control.state ≡ true → Holds f r0 t → Holds f r0 (changed (keeps bytes) t)
unfolding keeps
holds_keeps f r0 bytes t s h =
    let r = t.tcb in
    let n = length bytes in
    let same = take-append-le r.read r.received bytes h.heard.within in
    record {
      order = h.order;
      heard = counted_as r (r.rcv + (n + 0)) (r.rcv + n) (length r.received + n) (length (r.received ++ bytes)) (r.discarded + 0) r.discarded (omega arith) (sym (length-append r.received bytes)) (omega arith) (counted_more r n 0 s (λ e. refl) h.heard);
      grown = h.grown;
      sent = h.sent;
      flight = h.flight;
      given = same ∙ h.given;
      fits = h.fits;
      buffered = h.buffered;
    }

holds_discards : (f : Kept) (r0 : Tcb) (count : ℕ) (t : Turn) → takes_text t.tcb.control.state ≡ true → t.tcb.control.reading_ended ≡ true → Holds f r0 t → Holds f r0 (changed (discards count) t)
unfolding discards
holds_discards f r0 count t s e h =
    let r = t.tcb in
    record {
      order = h.order;
      heard = counted_as r (r.rcv + (0 + count)) (r.rcv + count) (length r.received + 0) (length r.received) (r.discarded + count) (r.discarded + count) (omega arith) (omega arith) refl (counted_more r 0 count s (λ k. let no : true ≡ false = sym e ∙ k in absurd (cc)) h.heard);
      grown = h.grown;
      sent = h.sent;
      flight = h.flight;
      given = h.given;
      fits = h.fits;
      buffered = h.buffered;
    }

holds_takes : (f : Kept) (r0 : Tcb) (bytes : List ℕ) (t : Turn) → takes_text t.tcb.control.state ≡ true → Holds f r0 t → Holds f r0 (text_comes bytes t)
unfolding text_comes
holds_takes f r0 bytes t s h =
    by_test (Holds f r0) (length bytes == 0) _ _
    (λ e. h)
    (λ e.
    by_test (Holds f r0) t.tcb.control.closed _ _
    (λ k. holds_vanishes f r0 (sends_reset t) (holds_sends_reset f r0 t h))
    (λ k.
    by_test (Holds f r0) t.tcb.control.reading_ended _ _
    (λ m. holds_discards f r0 (length bytes) t s m h)
    (λ m. holds_keeps f r0 bytes t s h)))

holds_receives_text : (f : Kept) (r0 : Tcb) (h : Header) (text : List ℕ) (t : Turn) → Holds f r0 t → Holds f r0 (receives_text h text t)
unfolding receives_text
holds_receives_text f r0 h text t k =
    by_test (Holds f r0) (takes_text t.tcb.control.state) _ _ (λ s. holds_takes f r0 (fitting_text h text t.tcb) t s k) (λ s. k)

-- the FIN
taken_after_peer_fin : (state : TcpState) (rcv : ℕ) → takes_text state ≡ true → FitsTaken (after_peer_fin state) true (rcv + 1)
taken_after_peer_fin SynSent rcv t = cc
taken_after_peer_fin SynReceived rcv t = cc
taken_after_peer_fin Established rcv t = (refl, omega arith)
taken_after_peer_fin FinWait1 rcv t = (refl, omega arith)
taken_after_peer_fin FinWait2 rcv t = (refl, omega arith)
taken_after_peer_fin CloseWait rcv t = cc
taken_after_peer_fin Closing rcv t = cc
taken_after_peer_fin LastAck rcv t = cc
taken_after_peer_fin TimeWait rcv t = cc
taken_after_peer_fin Ended rcv t = cc
taken_after_peer_fin Vanished rcv t = cc

holds_fin : (f : Kept) (r0 : Tcb) (t : Turn) → takes_text t.tcb.control.state ≡ true → Holds f r0 t → Holds f r0 (changed fin_received t)
unfolding fin_received
holds_fin f r0 t s h =
    let r = t.tcb in
    let c = r.control in
    let o = open_of c.state c.fin_taken r.rcv s h.heard.stage in
    let zero : one_if c.fin_taken ≡ 0 = ap one_if o.0 in
    record {
      order = record {
        unacknowledged = h.order.unacknowledged;
        next = h.order.next;
        last = h.order.last;
        phase = subst (λ (p : Phase). FitsPhase p c.fin_wanted r.una r.nxt r.highest (data_end r)) (sym (phase_of_after_peer_fin c.state)) h.order.phase;
      };
      heard = record {
        nothing = λ e. absurd (omega arith);
        expected = λ b. omega (arith, h.heard.expected o.1, zero);
        stage = taken_after_peer_fin c.state r.rcv s;
        within = h.heard.within;
        kept = h.heard.kept;
        seen = λ e. not_seen c.saw_end c.fin_taken _ (λ k. (h.heard.seen k).0) o.0 e;
      };
      grown = h.grown;
      sent = h.sent;
      flight = h.flight;
      given = h.given;
      fits = h.fits;
      buffered = h.buffered;
    }

holds_receives_fin : (f : Kept) (r0 : Tcb) (h : Header) (text : List ℕ) (t : Turn) → Holds f r0 t → Holds f r0 (receives_fin h text t)
unfolding receives_fin
holds_receives_fin f r0 h text t k =
    let at : Bool = wire h.seq (length text) == wire t.tcb.irs t.tcb.rcv in
    by_test (Holds f r0) (fin_is_due h text t.tcb) _ _
    (λ e. holds_fin f r0 t (and_left (takes_text t.tcb.control.state) at (and_right h.fin (takes_text t.tcb.control.state && at) e)) k)
    (λ e. k)

-- the answer
holds_answers : (f : Kept) (r0 : Tcb) (wanted : Bool) (t : Turn) → Holds f r0 t → Holds f r0 (answers wanted t)
unfolding answers
holds_answers f r0 wanted t h = by_test (Holds f r0) wanted _ _ (λ e. holds_sends_ack f r0 t h) (λ e. h)

holds_waits_again : (f : Kept) (r0 : Tcb) (fin : Bool) (t : Turn) → Holds f r0 t → Holds f r0 (waits_again fin t)
unfolding waits_again
holds_waits_again f r0 fin t h =
    by_test (Holds f r0) (fin && is_time_wait t.tcb.control.state) _ _ (λ e. holds_restarts f r0 t h) (λ e. h)

holds_concludes : (f : Kept) (r0 : Tcb) (wanted fin : Bool) (t : Turn) → Holds f r0 t → Holds f r0 (concludes wanted fin t)
unfolding concludes
holds_concludes f r0 wanted fin t h =
    holds_output f r0 (waits_again fin (answers wanted t)) (holds_waits_again f r0 fin (answers wanted t) (holds_answers f r0 wanted t h))

pub holds_receives : (f : Kept) (r0 : Tcb) (h : Header) (text : List ℕ) (t : Turn) → Holds f r0 t → Holds f r0 (receives h text t)
unfolding receives
holds_receives f r0 h text t k =
    let wanted = wants_ack h text t.tcb in
    let u = receives_fin h text (receives_text h text t) in
    holds_unless_over f r0 (concludes wanted h.fin) u (λ m. holds_concludes f r0 wanted h.fin u m) (holds_receives_fin f r0 h text (receives_text h text t) (holds_receives_text f r0 h text t k))

-- a read, where a call begins
or_cases : (a b : Bool) → (a || b) ≡ true → (a ≡ true) ⊎ (b ≡ true)
or_cases true b e = inl refl
or_cases false b e = inr e

not_true : (a : Bool) → not a ≡ true → a ≡ false
not_true true e = cc
not_true false e = refl

or_false : (a b : Bool) → (a || b) ≡ false → a ≡ false
or_false true b e = e
or_false false b e = refl

is_zero : (n : ℕ) → (n == 0) ≡ true → n ≡ 0
is_zero n e = grind (arith, nat_tests)

found_end : (count waiting : ℕ) (c : Control) → finds_end count waiting c ≡ true → (waiting ≡ 0) × (c.fin_taken ≡ true) × (c.reading_ended ≡ false)
found_end count waiting c e =
    let asked : Bool = nat_lt 0 count && (waiting == 0) in
    let unended : Bool = not (c.reading_ended || c.had_error) in
    let a = and_left asked (c.fin_taken && unended) e in
    let b = and_right asked (c.fin_taken && unended) e in (
      is_zero waiting (and_right (nat_lt 0 count) (waiting == 0) a),
      and_left c.fin_taken unended b,
      or_false c.reading_ended c.had_error (not_true (c.reading_ended || c.had_error) (and_right c.fin_taken unended b)),
    )

read_seen : (r : Tcb) (count : ℕ) → Counted r.control.state r.control.fin_taken r.control.reading_ended r.control.saw_end r.rcv (length r.received) r.read r.discarded → (r.control.saw_end || finds_end count (unread r) r.control) ≡ true → (r.control.fin_taken ≡ true) × (r.read + min count (unread r) ≡ length r.received) × (r.discarded ≡ 0)
read_seen r count h e =
    ⊎_elim
    (λ s. let k = h.seen s in (k.0, omega (arith, k.1), k.2))
    (λ s. let k = found_end count (unread r) r.control s in (k.1, omega (arith, k.0, h.within), h.kept k.2))
    (or_cases r.control.saw_end (finds_end count (unread r) r.control) e)

read_given : (r : Tcb) (count : ℕ) → take (r.read + min count (unread r)) r.received ≡ take r.read r.received ++ bytes_read count r
read_given r count =
    let rest = drop r.read r.received in
    let short : min count (unread r) ≡ min count (length rest) = ap (min count) (sym (length-drop r.read r.received)) in
    take-add r.read (min count (unread r)) r.received
    ∙ ap (λ xs. take r.read r.received ++ xs) (ap (λ n. take n rest) short ∙ take_min count rest)

abbrev pub kept_read : ℕ → Tcb → Kept
kept_read count r =
    record { flight = flight_of r; given = take r.read r.received ++ bytes_read count r; again = false }

pub holds_reads : (count : ℕ) (r : Tcb) → Holds (kept_of r) r (begin r) → Holds (kept_read count r) r (changed (reads count) (begin r))
unfolding reads
holds_reads count r h = record {
  order = h.order;
  heard = record {
    nothing = h.heard.nothing;
    expected = h.heard.expected;
    stage = h.heard.stage;
    within = omega (arith, h.heard.within);
    kept = h.heard.kept;
    seen = λ e. read_seen r count h.heard e;
  };
  grown = h.grown;
  sent = h.sent;
  flight = refl;
  given = read_given r count;
  fits = h.fits;
  buffered = h.buffered;
}
