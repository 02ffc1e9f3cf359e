-- what every history of acts keeps
use Rattle.std.proofs.Common.{◌≡◌, ℕ, ◌+◌, ◌^◌, ◌<◌, inl, List, [], ◌∷◌, ◌++◌, take, false, refl, sym, ap, subst, ◌∙◌, append_assoc, append-nil, arith}
use Rattle.std.proofs.lemmas.List.Sums.{fold-append}
use Rattle.sim_base.specs.Packet.{syn_flag, ack_flag}
use Rattle.sim_base.specs.declared.address.Addr.{Addr}
use Rattle.sock_tcp.specs.declared.segment.state.TcpState.TheVariants.{SynSent, SynReceived}
use Rattle.sock_tcp.specs.segment.Number.{wire}
use Rattle.sock_tcp.specs.segment.Control.{fresh_control, without_ack}
use Rattle.sock_tcp.specs.connection.Tcb.{Tcb, Turn}
use Rattle.sock_tcp.specs.connection.Congestion.{Flight, fresh_flight, flight_after, after_event, flight_of}
use Rattle.sock_tcp.specs.connection.Process.{fresh_tcb, opened, answered}
use Rattle.tcp_laws.specs.Acts.{Start, begun_by, IsStart, Act, acted, record_after, record_of}
use Rattle.tcp_laws.specs.Acts.Start.{active, passive}
use Rattle.tcp_laws.specs.Order.{IsInOrder}
use Rattle.tcp_laws.specs.Received.{IsCounted, all_given}
use Rattle.tcp_laws.specs.Window.{all_events, events_of, Bounded}
use Rattle.tcp_laws.proofs.Segments.{SentBy, syn_sent, syn_ack_sent, no_text, no_text_either}
use Rattle.tcp_laws.proofs.Holds.{IsBuffered, Holds, Grows-refl}
use Rattle.tcp_laws.proofs.Acting.{flight_by, kept_acting, acts_keep}
use Rattle.tcp_laws.proofs.Windows.{events_bounded, act_near}

-- the first number on the wire
wire_zero : (iss : ℕ) → iss < 2 ^ 32 → wire iss 0 ≡ iss
unfolding wire
wire_zero iss h = omega arith

-- a record that has just begun
abbrev IsBegun : Turn → Type 0
IsBegun t = Holds (record { flight = fresh_flight; given = []; again = false }) t.tcb t

opened_holds : (local peer : Addr) (iss : ℕ) → iss < 2 ^ 32 → IsBegun (opened local peer iss)
unfolding opened fresh_tcb fresh_control
opened_holds local peer iss b =
    let r : Tcb = fresh_tcb (fresh_control local peer SynSent) iss 0 0 in
    record {
      order = record {
        unacknowledged = omega arith;
        next = omega arith;
        last = omega arith;
        phase = (refl, refl, refl, refl);
      };
      heard = record {
        nothing = λ e. (refl, refl);
        expected = λ e. absurd (omega arith);
        stage = refl;
        within = omega arith;
        kept = λ e. refl;
        seen = λ e. absurd (cc);
      };
      grown = Grows-refl r;
      sent = (subst (λ (n : ℕ). SentBy r (without_ack r.control syn_flag n)) (wire_zero iss b) (syn_sent r 0 refl), tt);
      flight = refl;
      given = refl;
      fits = inl (no_text_either r syn_flag iss, tt);
      buffered = omega arith;
    }

answered_holds : (local peer : Addr) (iss seq : ℕ) → IsBegun (answered local peer iss seq)
unfolding answered fresh_tcb fresh_control
answered_holds local peer iss seq =
    let r : Tcb = fresh_tcb (fresh_control local peer SynReceived) iss seq 1 in
    record {
      order = record {
        unacknowledged = omega arith;
        next = omega arith;
        last = omega arith;
        phase = (refl, refl, refl, refl);
      };
      heard = record {
        nothing = λ e. absurd (omega arith);
        expected = λ e. refl;
        stage = (refl, omega arith);
        within = omega arith;
        kept = λ e. refl;
        seen = λ e. absurd (cc);
      };
      grown = Grows-refl r;
      sent = (syn_ack_sent r 0 refl, tt);
      flight = refl;
      given = refl;
      fits = inl (no_text r (syn_flag + ack_flag) 0, tt);
      buffered = omega arith;
    }

pub begun_holds : (start : Start) → IsStart start → IsBegun (begun_by start)
begun_holds (active local peer iss) b = opened_holds local peer iss b
begun_holds (passive local peer iss seq) b = answered_holds local peer iss seq

-- what a record keeps from one call to the next
pub record IsSound (r : Tcb) : Type 0 where
  pub order : IsInOrder r
  pub heard : IsCounted r
  pub buffered : IsBuffered r
  pub bounded : Bounded r.control.congestion

act_sound : (act : Act) (r : Tcb) → IsSound r → IsSound (acted act r).tcb
act_sound act r s =
    let h = acts_keep act r s.order s.heard s.buffered in
    let near = act_near act r s.order s.buffered in
    record {
      order = h.order;
      heard = h.heard;
      buffered = h.buffered;
      bounded = subst (λ (f : Flight). Bounded f.congestion) (sym h.flight) (events_bounded (events_of act r) (flight_of r) near s.bounded);
    }

after_sound : (acts : List Act) (r : Tcb) → IsSound r → IsSound (record_after acts r)
after_sound [] r s = s
after_sound (act ∷ acts) r s = after_sound acts (acted act r).tcb (act_sound act r s)

begun_sound : (start : Start) → IsStart start → IsSound (begun_by start).tcb
begun_sound start b =
    let h = begun_holds start b in
    record {
      order = h.order;
      heard = h.heard;
      buffered = h.buffered;
      bounded = subst (λ (f : Flight). Bounded f.congestion) (sym h.flight) (record { least = omega arith; most = omega arith; threshold = omega arith });
    }

pub sound_of : (start : Start) (acts : List Act) → IsStart start → IsSound (record_of start acts)
sound_of start acts b = after_sound acts (begun_by start).tcb (begun_sound start b)

pub act_of_history : (start : Start) (acts : List Act) (act : Act) → IsStart start → Holds (kept_acting act (record_of start acts)) (record_of start acts) (acted act (record_of start acts))
act_of_history start acts act b =
    let s = sound_of start acts b in acts_keep act (record_of start acts) s.order s.heard s.buffered

-- the window is the fold's
flights : (acts : List Act) (r : Tcb) → IsSound r → flight_of (record_after acts r) ≡ flight_by (all_events acts r) (flight_of r)
flights [] r s = refl
flights (act ∷ acts) r s =
    let h = acts_keep act r s.order s.heard s.buffered in
    let after = (acted act r).tcb in
    flights acts after (act_sound act r s)
    ∙ (ap (flight_by (all_events acts after)) h.flight ∙ sym (fold-append (λ g e. after_event e g) (flight_of r) (events_of act r) (all_events acts after)))

pub flight_of_history : (start : Start) (acts : List Act) → IsStart start → flight_of (record_of start acts) ≡ flight_after (all_events acts (begun_by start).tcb)
flight_of_history start acts b =
    let r = (begun_by start).tcb in
    flights acts r (begun_sound start b) ∙ ap (flight_by (all_events acts r)) (begun_holds start b).flight

-- what was given is what was received
givens : (acts : List Act) (r : Tcb) → IsSound r → take (record_after acts r).read (record_after acts r).received ≡ take r.read r.received ++ all_given acts r
givens [] r s = sym (append-nil (take r.read r.received))
givens (act ∷ acts) r s =
    let h = acts_keep act r s.order s.heard s.buffered in
    let after = (acted act r).tcb in
    givens acts after (act_sound act r s)
    ∙ (ap (λ xs. xs ++ all_given acts after) h.given ∙ append_assoc (take r.read r.received) _ (all_given acts after))

pub given_of_history : (start : Start) (acts : List Act) → IsStart start → all_given acts (begun_by start).tcb ≡ take (record_of start acts).read (record_of start acts).received
given_of_history start acts b =
    let r = (begun_by start).tcb in
    sym (givens acts r (begun_sound start b) ∙ ap (λ xs. xs ++ all_given acts r) (begun_holds start b).given)
