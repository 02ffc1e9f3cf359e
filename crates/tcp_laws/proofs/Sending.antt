-- what acts that send keep
use Rattle.std.proofs.Common.{◌≡◌, ◌⊎◌, ⊎_elim, inl, inr, ℕ, ◌+◌, ◌-◌, ◌==◌, ◌≤◌, ◌&&◌, nat_lt, List, [], ◌∷◌, ◌++◌, length, take, drop, min, max, Bool, true, false, refl, sym, ap, subst, ◌∙◌, arith}
use Rattle.std.proofs.lemmas.Bool.Decides.{nat_tests}
use Rattle.std.proofs.lemmas.List.{length-take, length-drop}
use Rattle.std.proofs.lemmas.Bool.{cases_lt}
use Rattle.sim_base.specs.Packet.{fin_flag, syn_flag, rst_flag, ack_flag}
use Rattle.sim_base.specs.declared.packet.Packet.{Packet}
use Rattle.sock_tcp.specs.segment.Number.{wire}
use Rattle.sock_tcp.specs.segment.Refusal.{one_if}
use Rattle.sock_tcp.specs.segment.State.{phase_of, is_opening, is_sending, is_syn_sent}
use Rattle.sock_tcp.specs.segment.Control.{without_ack, send_window}
use Rattle.sock_tcp.specs.connection.Tcb.{Tcb, Turn, data_end, own_window, changed, with_control}
use Rattle.sock_tcp.specs.connection.Segment.{with_ack, sends, sends_ack, sends_syn_ack, sends_reset, sends_refusal}
use Rattle.sock_tcp.specs.connection.Timer.{needs_timer, timer_set, judged, restarted, restarts}
use Rattle.sock_tcp.specs.connection.Output.{pieces, text_segments, send_limit, to_send, sends_text, fin_is_next, moves_next, sends_fin, follows, output}
use Rattle.sock_tcp.specs.connection.Retransmission.{unacknowledged, probe_length, sends_again_text, sends_again, sends_syn, sends_syn_again, sends_one}
use Rattle.tcp_laws.specs.Sending.{IsAt, stream}
use Rattle.sock_tcp.proofs.Connections.Phases.{bounds, opening_of, FitsPhase_next, FitsPhase_fin, FitsPhase_highest}
use Rattle.tcp_laws.proofs.Tests.{by_test}
use Rattle.tcp_laws.proofs.Places.{IsAt_take, IsAt_written}
use Rattle.tcp_laws.proofs.Segments.{sent_push, sent_append, within_push, within_append, WithinOf, no_text, no_text_either, text_again, pieces_within, SentBy, ack_sent, syn_ack_sent, fin_sent, syn_sent, reset_sent, text_sent, pieces_sent}
use Rattle.tcp_laws.specs.Window.{LoadAgain, FitWindow}
use Rattle.tcp_laws.proofs.Holds.{Kept, kept_again, Holds, holds_again, Sending, sending_of}

-- one segment more
holds_sends : (f : Kept) (r0 : Tcb) (p : Packet) (t : Turn) → SentBy t.tcb p → WithinOf t.tcb p → Holds f r0 t → Holds f r0 (sends p t)
holds_sends f r0 p t s w h = record {
  order = h.order;
  heard = h.heard;
  grown = h.grown;
  sent = sent_push t.tcb t.sent p h.sent s;
  flight = h.flight;
  given = h.given;
  fits = within_push f.again t.tcb t.sent p h.fits w;
  buffered = h.buffered;
}

near : (nxt highest end : ℕ) (wanted : Bool) → nxt ≤ highest → highest ≤ end + one_if wanted → nxt ≤ end + 1
near nxt highest end true a b = omega arith
near nxt highest end false a b = omega arith

pub holds_sends_ack : (f : Kept) (r0 : Tcb) (t : Turn) → Holds f r0 t → Holds f r0 (sends_ack t)
unfolding sends_ack
holds_sends_ack f r0 t h =
    let b : t.tcb.nxt ≤ data_end t.tcb + 1 = near t.tcb.nxt t.tcb.highest (data_end t.tcb) t.tcb.control.fin_wanted h.order.next h.order.last in
    holds_sends f r0 (with_ack t.tcb ack_flag t.tcb.nxt []) t (ack_sent t.tcb t.tcb.nxt (omega (arith, b))) (no_text t.tcb ack_flag t.tcb.nxt) h

pub holds_sends_syn_ack : (f : Kept) (r0 : Tcb) (t : Turn) → t.tcb.una ≡ 0 → Holds f r0 t → Holds f r0 (sends_syn_ack t)
unfolding sends_syn_ack
holds_sends_syn_ack f r0 t z h =
    holds_sends f r0 (with_ack t.tcb (syn_flag + ack_flag) t.tcb.una []) t (syn_ack_sent t.tcb t.tcb.una z) (no_text t.tcb (syn_flag + ack_flag) t.tcb.una) h

pub holds_sends_reset : (f : Kept) (r0 : Tcb) (t : Turn) → Holds f r0 t → Holds f r0 (sends_reset t)
unfolding sends_reset
holds_sends_reset f r0 t h = holds_sends f r0 (without_ack t.tcb.control rst_flag (wire t.tcb.iss t.tcb.nxt)) t (reset_sent t.tcb (wire t.tcb.iss t.tcb.nxt)) (no_text_either t.tcb rst_flag (wire t.tcb.iss t.tcb.nxt)) h

pub holds_sends_refusal : (f : Kept) (r0 : Tcb) (ack : ℕ) (t : Turn) → Holds f r0 t → Holds f r0 (sends_refusal ack t)
unfolding sends_refusal
holds_sends_refusal f r0 ack t h = holds_sends f r0 (without_ack t.tcb.control rst_flag ack) t (reset_sent t.tcb ack) (no_text_either t.tcb rst_flag ack) h

-- the timer
pub holds_restarts : (f : Kept) (r0 : Tcb) (t : Turn) → Holds f r0 t → Holds f r0 (restarts t)
unfolding restarts restarted
holds_restarts f r0 t h = record { order = h.order; heard = h.heard; grown = h.grown; sent = h.sent; flight = h.flight; given = h.given; fits = h.fits; buffered = h.buffered }

holds_timer : (f : Kept) (r0 : Tcb) (on started : Bool) (t : Turn) → Holds f r0 t → Holds f r0 (record (changed (with_control (timer_set on)) t) { started = started })
holds_timer f r0 on started t h = record { order = h.order; heard = h.heard; grown = h.grown; sent = h.sent; flight = h.flight; given = h.given; fits = h.fits; buffered = h.buffered }

pub holds_judged : (f : Kept) (r0 : Tcb) (t : Turn) → Holds f r0 t → Holds f r0 (judged t)
unfolding judged
holds_judged f r0 t h =
    by_test (Holds f r0) (needs_timer t.tcb) _ _
    (λ e. by_test (Holds f r0) t.tcb.control.timer _ _ (λ k. h) (λ k. holds_timer f r0 true true t h))
    (λ e. holds_timer f r0 false t.started t h)

-- text
limit_within : (end una window : ℕ) → min end (una + window) ≤ end
limit_within end una window = omega arith

sending_bounds : (f : Kept) (r0 : Tcb) (t : Turn) → is_sending t.tcb.control.state ≡ true → Sending f r0 t → (1 ≤ t.tcb.una) × (t.tcb.una ≤ data_end t.tcb)
sending_bounds f r0 t s h = bounds (phase_of t.tcb.control.state) _ _ _ _ _ s h.order.unacknowledged h.order.phase

text_at : (n k : ℕ) (written : List ℕ) → 1 ≤ n → IsAt n (take k (drop (n - 1) written)) (stream written)
text_at n k written b = IsAt_take n k (drop (n - 1) written) (stream written) (IsAt_written n written b)

text_within : (n k : ℕ) (written : List ℕ) → n ≤ 2 + length written → 1 ≤ n → n + length (take k (drop (n - 1) written)) ≤ 2 + length written
text_within n k written b o =
    omega (arith, length-take k (drop (n - 1) written), length-drop (n - 1) written)

most : (wanted : Bool) (n end : ℕ) → n ≤ end + one_if wanted → n ≤ end + 1
most true n end h = omega arith
most false n end h = omega arith

short_by : (una nxt end window count have : ℕ) → count ≡ min (min end (una + window) - nxt) have → (count ≡ 0) ⊎ (nxt + count ≤ una + window)
short_by una nxt end window count have e =
    ⊎_elim (λ b. inr (omega (arith, e, b))) (λ b. inl (omega (arith, e, b))) (cases_lt nxt (min end (una + window)))

short : (r : Tcb) → (length (to_send r) ≡ 0) ⊎ (r.nxt + length (to_send r) ≤ r.una + send_window r.control)
short r =
    short_by r.una r.nxt (data_end r) (send_window r.control) (length (to_send r)) (length (drop (r.nxt - 1) r.written)) (length-take (send_limit r - r.nxt) (drop (r.nxt - 1) r.written))

pub sending_sends_text : (f : Kept) (r0 : Tcb) (t : Turn) → is_sending t.tcb.control.state ≡ true → Sending f r0 t → Sending f r0 (sends_text t)
unfolding sends_text
sending_sends_text f r0 t s h =
    let r = t.tcb in
    let from = sending_bounds f r0 t s h in
    let n : 1 ≤ r.nxt = omega (arith, from.0, h.order.unacknowledged) in
    let limit : send_limit r ≤ data_end r = omega arith in
    let segments : List Packet = text_segments r.control r.iss r.nxt (wire r.irs r.rcv) (own_window r) (pieces (to_send r)) in
    let top : r.nxt ≤ data_end r + 1 = most r.control.fin_wanted r.nxt (data_end r) h.order.next in
    record {
      order = record {
        unacknowledged = omega (arith, h.order.unacknowledged);
        next = omega (arith, h.order.next, limit);
        last = h.order.last;
        phase = FitsPhase_next (phase_of r.control.state) _ _ _ _ _ (max r.nxt (send_limit r)) s (omega (arith, limit)) h.order.phase;
      };
      heard = h.heard;
      grown = h.grown;
      sent = sent_append r t.sent segments h.sent
          (pieces_sent r.control r.iss r.written (wire r.irs r.rcv) (own_window r) r.nxt (to_send r) (text_within r.nxt (send_limit r - r.nxt) r.written (omega (arith, top)) n) (text_at r.nxt (send_limit r - r.nxt) r.written n));
      flight = h.flight;
      given = h.given;
      fits = within_append f.again r t.sent segments h.fits
          (pieces_within r.control r.iss r.una (send_window r.control) (wire r.irs r.rcv) (own_window r) r.nxt (to_send r) h.order.unacknowledged (short r));
      buffered = h.buffered;
    }

control_sends_text : (t : Turn) → (sends_text t).tcb.control ≡ t.tcb.control
unfolding sends_text
control_sends_text t = refl

-- the FIN
pub and_left : (a b : Bool) → (a && b) ≡ true → a ≡ true
and_left true b e = refl
and_left false b e = e

pub and_right : (a b : Bool) → (a && b) ≡ true → b ≡ true
and_right true b e = e
and_right false b e = cc

pub same_number : (n m : ℕ) → (n == m) ≡ true → n ≡ m
same_number n m e = grind (arith, nat_tests)

wanted_one : (wanted : Bool) → wanted ≡ true → one_if wanted ≡ 1
wanted_one wanted e = ap one_if e

sending_fin : (f : Kept) (r0 : Tcb) (t : Turn) → is_sending t.tcb.control.state ≡ true → t.tcb.nxt ≡ data_end t.tcb → t.tcb.control.fin_wanted ≡ true → Sending f r0 t → Sending f r0 (changed (moves_next (t.tcb.nxt + 1)) (sends (with_ack t.tcb (fin_flag + ack_flag) t.tcb.nxt []) t))
sending_fin f r0 t s at w h =
    let r = t.tcb in
    let one = wanted_one r.control.fin_wanted w in
    record {
      order = record {
        unacknowledged = omega (arith, h.order.unacknowledged);
        next = omega (arith, at, one);
        last = h.order.last;
        phase = FitsPhase_fin (phase_of r.control.state) _ _ _ _ _ (r.nxt + 1) s w (omega (arith, at)) h.order.phase;
      };
      heard = h.heard;
      grown = h.grown;
      sent = sent_push r t.sent (with_ack r (fin_flag + ack_flag) r.nxt []) h.sent (fin_sent r r.nxt at w);
      flight = h.flight;
      given = h.given;
      fits = within_push f.again r t.sent (with_ack r (fin_flag + ack_flag) r.nxt []) h.fits (no_text r (fin_flag + ack_flag) r.nxt);
      buffered = h.buffered;
    }

pub sending_sends_fin : (f : Kept) (r0 : Tcb) (t : Turn) → is_sending t.tcb.control.state ≡ true → Sending f r0 t → Sending f r0 (sends_fin t)
unfolding sends_fin
sending_sends_fin f r0 t s h =
    by_test (Sending f r0) (fin_is_next t.tcb) _ _
    (λ e. sending_fin f r0 t s (same_number t.tcb.nxt (data_end t.tcb) (and_left (t.tcb.nxt == data_end t.tcb) t.tcb.control.fin_wanted e)) (and_right (t.tcb.nxt == data_end t.tcb) t.tcb.control.fin_wanted e) h)
    (λ e. h)

control_sends_fin : (t : Turn) → (sends_fin t).tcb.control ≡ t.tcb.control
unfolding sends_fin
control_sends_fin t =
    by_test (λ (x : Turn). x.tcb.control ≡ t.tcb.control) (fin_is_next t.tcb) _ _ (λ e. refl) (λ e. refl)

-- the highest follows
pub holds_follows : (f : Kept) (r0 : Tcb) (t : Turn) → is_sending t.tcb.control.state ≡ true → Sending f r0 t → Holds f r0 (follows t)
unfolding follows
holds_follows f r0 t s h =
    let r = t.tcb in
    record {
      order = record {
        unacknowledged = h.order.unacknowledged;
        next = omega arith;
        last = omega (arith, h.order.next, h.order.last);
        phase = FitsPhase_highest (phase_of r.control.state) _ _ _ _ _ s h.order.phase;
      };
      heard = h.heard;
      grown = h.grown;
      sent = h.sent;
      flight = h.flight;
      given = h.given;
      fits = h.fits;
      buffered = h.buffered;
    }

still : (t u : Turn) → u.tcb.control ≡ t.tcb.control → is_sending t.tcb.control.state ≡ true → is_sending u.tcb.control.state ≡ true
still t u e s = ap (λ c. is_sending c.state) e ∙ s

pub holds_output : (f : Kept) (r0 : Tcb) (t : Turn) → Holds f r0 t → Holds f r0 (output t)
unfolding output
holds_output f r0 t h =
    by_test (Holds f r0) (is_sending t.tcb.control.state) _ _
    (λ s.
    let text = sends_text t in
    let s1 = still t text (control_sends_text t) s in
    let s2 = still text (sends_fin text) (control_sends_fin text) s1 in
    holds_follows f r0 (sends_fin text) s2 (sending_sends_fin f r0 text s1 (sending_sends_text f r0 t s (sending_of f r0 t h))))
    (λ s. h)

-- what goes out again
again_within : (una probe : ℕ) (written : List ℕ) → 1 ≤ una → una ≤ 1 + length written → una + length (take probe (drop (una - 1) written)) ≤ 1 + length written
again_within una probe written a b =
    omega (arith, length-take probe (drop (una - 1) written), length-drop (una - 1) written)

fits_one : (r : Tcb) (packets : List Packet) (p : Packet) → packets ≡ [] → LoadAgain r.iss r.una r.control.window p.load → FitWindow true r (packets ++ p ∷ [])
fits_one r packets p e h =
    subst (λ (xs : List Packet). FitWindow true r (xs ++ p ∷ [])) (sym e) (inr (refl, (h, tt)))

sending_sends_again_text : (f : Kept) (r0 : Tcb) (t : Turn) → is_sending t.tcb.control.state ≡ true → t.sent ≡ [] → Sending (kept_again f) r0 t → Sending (kept_again f) r0 (sends_again_text t)
unfolding sends_again_text
sending_sends_again_text f r0 t s none h =
    let r = t.tcb in
    let from = sending_bounds (kept_again f) r0 t s h in
    let text : List ℕ = take (probe_length r) (unacknowledged r) in
    let within = again_within r.una (probe_length r) r.written from.0 from.1 in
    record {
      order = record {
        unacknowledged = omega arith;
        next = omega (arith, within);
        last = h.order.last;
        phase = FitsPhase_next (phase_of r.control.state) _ _ _ _ _ (r.una + length text) s (omega (arith, within)) h.order.phase;
      };
      heard = h.heard;
      grown = h.grown;
      sent = sent_push r t.sent (with_ack r ack_flag r.una text) h.sent (text_sent r r.una text (omega (arith, from.1)) (text_at r.una (probe_length r) r.written from.0));
      flight = h.flight;
      given = h.given;
      fits = fits_one r t.sent (with_ack r ack_flag r.una text) none (text_again r (unacknowledged r));
      buffered = h.buffered;
    }

sending_goes_back : (f : Kept) (r0 : Tcb) (t : Turn) → is_sending t.tcb.control.state ≡ true → Sending f r0 t → Sending f r0 (changed (moves_next t.tcb.una) t)
sending_goes_back f r0 t s h =
    let r = t.tcb in
    let from = sending_bounds f r0 t s h in
    record {
      order = record {
        unacknowledged = omega arith;
        next = omega (arith, from.1);
        last = h.order.last;
        phase = FitsPhase_next (phase_of r.control.state) _ _ _ _ _ r.una s (omega (arith, from.1)) h.order.phase;
      };
      heard = h.heard;
      grown = h.grown;
      sent = h.sent;
      flight = h.flight;
      given = h.given;
      fits = h.fits;
      buffered = h.buffered;
    }

sending_sends_again : (f : Kept) (r0 : Tcb) (t : Turn) → is_sending t.tcb.control.state ≡ true → t.sent ≡ [] → Sending (kept_again f) r0 t → Sending (kept_again f) r0 (sends_again t)
unfolding sends_again
sending_sends_again f r0 t s none h =
    let g = kept_again f in
    by_test (Sending g r0) (nat_lt t.tcb.una (data_end t.tcb)) _ _
    (λ e. sending_sends_again_text f r0 t s none h)
    (λ e. sending_sends_fin g r0 (changed (moves_next t.tcb.una) t) s (sending_goes_back g r0 t s h))

control_sends_again_text : (t : Turn) → (sends_again_text t).tcb.control ≡ t.tcb.control
unfolding sends_again_text
control_sends_again_text t = refl

control_sends_again : (t : Turn) → (sends_again t).tcb.control ≡ t.tcb.control
unfolding sends_again
control_sends_again t =
    by_test (λ (x : Turn). x.tcb.control ≡ t.tcb.control) (nat_lt t.tcb.una (data_end t.tcb)) _ _
    (λ e. control_sends_again_text t)
    (λ e. control_sends_fin (changed (moves_next t.tcb.una) t))

pub opening_una : (f : Kept) (r0 : Tcb) (t : Turn) → is_opening t.tcb.control.state ≡ true → Holds f r0 t → t.tcb.una ≡ 0
opening_una f r0 t o h = (opening_of t.tcb.control.state _ _ _ _ _ o h.order.phase).1

holds_sends_syn : (f : Kept) (r0 : Tcb) (t : Turn) → t.tcb.una ≡ 0 → Holds f r0 t → Holds f r0 (sends_syn t)
unfolding sends_syn
holds_sends_syn f r0 t z h =
    holds_sends f r0 (without_ack t.tcb.control syn_flag (wire t.tcb.iss t.tcb.una)) t (syn_sent t.tcb t.tcb.una z) (no_text_either t.tcb syn_flag (wire t.tcb.iss t.tcb.una)) h

holds_sends_syn_again : (f : Kept) (r0 : Tcb) (t : Turn) → t.tcb.una ≡ 0 → Holds f r0 t → Holds f r0 (sends_syn_again t)
unfolding sends_syn_again
holds_sends_syn_again f r0 t z h =
    by_test (Holds f r0) (is_syn_sent t.tcb.control.state) _ _ (λ e. holds_sends_syn f r0 t z h) (λ e. holds_sends_syn_ack f r0 t z h)

pub holds_sends_one : (f : Kept) (r0 : Tcb) (t : Turn) → t.sent ≡ [] → Holds f r0 t → Holds (kept_again f) r0 (sends_one t)
unfolding sends_one
holds_sends_one f r0 t none h =
    let g = kept_again f in
    let k = holds_again f r0 t h in
    by_test (Holds g r0) (is_opening t.tcb.control.state) _ _
    (λ o. holds_sends_syn_again g r0 t (opening_una f r0 t o h) k)
    (λ o.
    by_test (Holds g r0) (is_sending t.tcb.control.state) _ _
    (λ s. holds_follows g r0 (sends_again t) (still t (sends_again t) (control_sends_again t) s) (sending_sends_again f r0 t s none (sending_of g r0 t k)))
    (λ s. k))
