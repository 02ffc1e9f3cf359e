-- what an acknowledgement moves
use Rattle.std.proofs.Common.{◌≡◌, ℕ, ◌+◌, ◌-◌, ◌==◌, ◌≤◌, nat_lt, List, ⊎_elim, length, drop, min, max, Bool, true, false, if◌then◌else◌, refl, sym, ap, ◌∙◌, arith}
use Rattle.std.proofs.lemmas.Bool.Decides.{nat_tests}
use Rattle.std.proofs.lemmas.List.{drop-drop, length-drop}
use Rattle.std.proofs.lemmas.Bool.{cases_lt}
use Rattle.std.proofs.Math.Seq.{drop-length}
use Rattle.std.proofs.Math.ListN.{drop_of_length-le}
use Rattle.circular_buffer.specs.Buffer.{keep_last}
use Rattle.sock_tcp.specs.declared.connection.conn.Conn.{Conn}
use Rattle.sock_tcp.specs.declared.segment.control.Control.{Control}
use Rattle.sock_tcp.specs.declared.segment.state.TcpState.{TcpState}
use Rattle.sock_tcp.specs.declared.segment.state.TcpState.TheVariants.{SynSent, SynReceived, Established, FinWait1, FinWait2, CloseWait, Closing, LastAck, TimeWait, Ended, Vanished}
use Rattle.sock_tcp.specs.segment.Congestion.{acknowledged}
use Rattle.sock_tcp.specs.segment.Number.{wire}
use Rattle.sock_tcp.specs.segment.State.{phase_of, is_synchronized}
use Rattle.sock_tcp.specs.connection.Tcb.{Tcb, data_end}
use Rattle.sock_tcp.specs.connection.Congestion.{still_counted}
use Rattle.sock_tcp.specs.connection.Arrival.{own_fin_acknowledged, state_advanced, advanced}
use Rattle.sock_tcp.specs.connection.StandsFor.{StandsFor, FitsPhase}
use Rattle.sock_tcp.proofs.Segments.Numbers.{wire_wire}

cond-same : (b : Bool) (state : TcpState) → (if b then state else state) ≡ state
cond-same true state = refl
cond-same false state = refl

-- only where the own FIN isn't acknowledged yet does its acknowledgement matter
state_advanced_is : (state : TcpState) (a b : Bool) (wanted : Bool) (una nxt highest end : ℕ) → (una ≤ end → a ≡ b) → is_synchronized state ≡ true → FitsPhase (phase_of state) wanted una nxt highest end → state_advanced a state ≡ state_advanced b state
state_advanced_is SynSent a b wanted una nxt highest end e s h = cc
state_advanced_is SynReceived a b wanted una nxt highest end e s h = cc
state_advanced_is Established a b wanted una nxt highest end e s h = cond-same a Established ∙ sym (cond-same b Established)
state_advanced_is FinWait1 a b wanted una nxt highest end e s h = ap (λ x. state_advanced x FinWait1) (e h.2)
state_advanced_is FinWait2 a b wanted una nxt highest end e s h = cond-same a FinWait2 ∙ sym (cond-same b FinWait2)
state_advanced_is CloseWait a b wanted una nxt highest end e s h = cond-same a CloseWait ∙ sym (cond-same b CloseWait)
state_advanced_is Closing a b wanted una nxt highest end e s h = ap (λ x. state_advanced x Closing) (e h.2)
state_advanced_is LastAck a b wanted una nxt highest end e s h = ap (λ x. state_advanced x LastAck) (e h.2)
state_advanced_is TimeWait a b wanted una nxt highest end e s h = cond-same a TimeWait ∙ sym (cond-same b TimeWait)
state_advanced_is Ended a b wanted una nxt highest end e s h = cc
state_advanced_is Vanished a b wanted una nxt highest end e s h = cc

from_one : (state : TcpState) (wanted : Bool) (una nxt highest end : ℕ) → is_synchronized state ≡ true → FitsPhase (phase_of state) wanted una nxt highest end → 1 ≤ una
from_one SynSent wanted una nxt highest end s h = cc
from_one SynReceived wanted una nxt highest end s h = cc
from_one Established wanted una nxt highest end s h = h.1
from_one FinWait1 wanted una nxt highest end s h = h.1
from_one FinWait2 wanted una nxt highest end s h = h.1
from_one CloseWait wanted una nxt highest end s h = h.1
from_one Closing wanted una nxt highest end s h = h.1
from_one LastAck wanted una nxt highest end s h = h.1
from_one TimeWait wanted una nxt highest end s h = h.1
from_one Ended wanted una nxt highest end s h = cc
from_one Vanished wanted una nxt highest end s h = cc

same_test : (by length una end : ℕ) → length + una ≡ end → (by == length + 1) ≡ (una + by == end + 1)
same_test by length una end e = grind (arith, nat_tests)

-- the code compares with what its send buffer holds
pub same_state : (c : Conn) (r : Tcb) (by : ℕ) → StandsFor c r → is_synchronized c.control.state ≡ true → state_advanced (by == length c.send.items + 1) c.control.state ≡ state_advanced (own_fin_acknowledged by r) r.control.state
same_state c r by h s =
    let t : is_synchronized r.control.state ≡ true = sym (ap (λ k. is_synchronized k.state) h.control) ∙ s in
    let one : 1 ≤ r.una = from_one r.control.state _ _ _ _ _ t h.phase in
    let count : length c.send.items ≡ length r.written - (r.una - 1) = ap length h.send ∙ length-drop (r.una - 1) r.written in
    ap (λ k. state_advanced (by == length c.send.items + 1) k.state) h.control
    ∙ state_advanced_is r.control.state _ _ _ _ _ _ _ (λ b. same_test by (length c.send.items) r.una (data_end r) (omega arith)) t h.phase

-- the offsets still fit the phase
pub phase_advanced : (state : TcpState) (fin wanted : Bool) (una nxt highest end by : ℕ) → (fin ≡ false → una + by ≤ highest → highest ≤ end + 1 → una + by ≤ end) → una ≤ nxt → una + by ≤ highest → is_synchronized state ≡ true → FitsPhase (phase_of state) wanted una nxt highest end → FitsPhase (phase_of (state_advanced fin state)) wanted (una + by) (max nxt (una + by)) highest end
phase_advanced SynSent fin wanted una nxt highest end by f n m s h = cc
phase_advanced SynReceived fin wanted una nxt highest end by f n m s h = cc
phase_advanced Established true wanted una nxt highest end by f n m s h = (h.0, omega arith, omega arith, h.3)
phase_advanced Established false wanted una nxt highest end by f n m s h = (h.0, omega arith, omega arith, h.3)
phase_advanced FinWait1 true wanted una nxt highest end by f n m s h = (h.0, omega arith)
phase_advanced FinWait1 false wanted una nxt highest end by f n m s h = (h.0, omega arith, f refl m h.4, omega arith, h.4)
phase_advanced FinWait2 true wanted una nxt highest end by f n m s h = (h.0, omega arith)
phase_advanced FinWait2 false wanted una nxt highest end by f n m s h = (h.0, omega arith)
phase_advanced CloseWait true wanted una nxt highest end by f n m s h = (h.0, omega arith, omega arith, h.3)
phase_advanced CloseWait false wanted una nxt highest end by f n m s h = (h.0, omega arith, omega arith, h.3)
phase_advanced Closing true wanted una nxt highest end by f n m s h = (h.0, omega arith)
phase_advanced Closing false wanted una nxt highest end by f n m s h = (h.0, omega arith, f refl m h.4, omega arith, h.4)
phase_advanced LastAck true wanted una nxt highest end by f n m s h = tt
phase_advanced LastAck false wanted una nxt highest end by f n m s h = (h.0, omega arith, f refl m h.4, omega arith, h.4)
phase_advanced TimeWait true wanted una nxt highest end by f n m s h = (h.0, omega arith)
phase_advanced TimeWait false wanted una nxt highest end by f n m s h = (h.0, omega arith)
phase_advanced Ended fin wanted una nxt highest end by f n m s h = cc
phase_advanced Vanished fin wanted una nxt highest end by f n m s h = cc

pub not_all : (una by end highest : ℕ) → (una + by == end + 1) ≡ false → una + by ≤ highest → highest ≤ end + 1 → una + by ≤ end
not_all una by end highest e a b = grind (arith, nat_tests)

-- what the code changes
pub record AdvancesTo (c c' : Conn) (state : TcpState) (by window : ℕ) : Type 0 where
  pub control : c'.control ≡ record c.control {
    state = state;
    window = window;
    congestion = acknowledged by c.control.congestion;
  }
  pub una : c'.una ≡ wire c.una by
  pub sent : c'.sent ≡ c.sent - by
  pub highest : c'.highest + by ≡ c.highest
  pub duplicates : c'.duplicates ≡ still_counted by c.duplicates
  pub recover : c'.recover ≡ c.recover - by
  pub rcv : c'.rcv ≡ c.rcv
  pub counts : c'.counts ≡ c.counts
  pub send : c'.send.items ≡ keep_last (length c.send.items - by) c.send.items
  pub receive : c'.receive ≡ c.receive

kept_items : (items : List ℕ) (by : ℕ) → keep_last (length items - by) items ≡ drop by items
kept_items items by =
    ⊎_elim
    (λ h. let e : length items - (length items - by) ≡ by = omega arith in ap (λ n. drop n items) e)
    (λ h. let e : length items - (length items - by) ≡ length items = omega arith in ap (λ n. drop n items) e ∙ (drop-length items ∙ sym (drop_of_length-le items h)))
    (cases_lt by (length items))

-- the count of duplicates begins anew or stays
counted_in_both : (anew : Bool) (count duplicates : ℕ) → count ≡ min 255 duplicates → (if anew then 0 else count) ≡ min 255 (if anew then 0 else duplicates)
counted_in_both true count duplicates e = refl
counted_in_both false count duplicates e = e

pub stands_advanced : (c c' : Conn) (r : Tcb) (state : TcpState) (by window : ℕ) → StandsFor c r → is_synchronized c.control.state ≡ true → by ≤ c.highest → state ≡ state_advanced (own_fin_acknowledged by r) r.control.state → AdvancesTo c c' state by window → StandsFor c' (advanced by window r)
unfolding advanced
stands_advanced c c' r state by window h s b st e =
    let t : is_synchronized r.control.state ≡ true = sym (ap (λ k. is_synchronized k.state) h.control) ∙ s in
    let one : 1 ≤ r.una = from_one r.control.state _ _ _ _ _ t h.phase in
    let place : r.una - 1 + by ≡ r.una + by - 1 = omega arith in
    record {
      control = e.control
          ∙ (ap (λ (k : Control). record k { state = state; window = window; congestion = acknowledged by k.congestion }) h.control
          ∙ ap (λ (x : TcpState). record r.control { state = x; window = window; congestion = acknowledged by r.control.congestion }) st);
      una = e.una ∙ (ap (λ n. wire n by) h.una ∙ wire_wire r.iss r.una by);
      next = omega (arith, h.next, e.sent);
      highest = omega (arith, h.highest, e.highest);
      duplicates = e.duplicates ∙ counted_in_both (nat_lt 0 by) c.duplicates r.duplicates h.duplicates;
      recover = omega (arith, h.recover, e.recover);
      rcv = e.rcv ∙ h.rcv;
      counts = e.counts ∙ h.counts;
      send = e.send ∙ (kept_items c.send.items by ∙ (ap (drop by) h.send ∙ (drop-drop by (r.una - 1) r.written ∙ ap (λ n. drop n r.written) place)));
      receive = ap (λ x. x.items) e.receive ∙ h.receive;
      read = h.read;
      phase = phase_advanced r.control.state (own_fin_acknowledged by r) r.control.fin_wanted r.una r.nxt r.highest (data_end r) by (λ f a d. not_all r.una by (data_end r) r.highest f a d) (omega (arith, h.next)) (omega (arith, h.highest)) t h.phase;
    }
