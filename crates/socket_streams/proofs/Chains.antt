-- steps one behind another, and what each of them leaves inside
use Rattle.std.proofs.Common.{◌≡◌, ℕ, ◌⊎◌, inl, inr, ⊎_elim, Bool, true, false, not, ◌&&◌, List, [], ◌∷◌, ◌++◌, Contains, refl, sym, ap, subst, ◌∙◌}
use Rattle.std.specs.List.Sorted.{IsPermutation}
use Rattle.std.proofs.lemmas.List.Sorted.{Contains-permutation}
use Rattle.sim_base.specs.Addresses.{loopback, is_same_ip}
use Rattle.sim_base.specs.declared.address.Ip.{Ip}
use Rattle.sim_base.specs.declared.address.Addr.{Addr}
use Rattle.sim_base.specs.declared.packet.Load.{Load}
use Rattle.sim_base.specs.declared.packet.Load.TheVariants.{Udp, Tcp}
use Rattle.sim_base.specs.declared.packet.Packet.{Packet}
use Rattle.sock_tcp.specs.segment.Header.{header_of}
use Rattle.sock_tcp.specs.segment.Control.{fresh_control}
use Rattle.sock_tcp.specs.connection.Tcb.{Tcb}
use Rattle.sock_tcp.specs.connection.Process.{fresh_tcb, opened, answered}
use Rattle.tcp_laws.specs.Acts.{Start, begun_by, IsStart, Act, acted}
use Rattle.tcp_laws.specs.Acts.Start.{active, passive}
use Rattle.tcp_laws.specs.Sending.{AreOf}
use Rattle.tcp_streams.specs.Exchange.{Exchange, IsVoid, MayAct, AsksFrom, Follows, Step, AreSteps, last_exchange}
use Rattle.tcp_streams.specs.Exchange.Step.{acts, begins, goes_on}
use Rattle.tcp_streams.specs.Sound.{IsSound}
use Rattle.tcp_streams.proofs.Members.{IsIn_from_Contains, Contains_here, Contains_there, Contains_cases}
use Rattle.tcp_streams.proofs.Ends.{and_right}
use Rattle.tcp_streams.proofs.Soundness.{acted_sound, acted_honest, acted_grows, begun_sound, begun_honest}
use Rattle.tcp_streams.proofs.Steps.{moved, one_of}
use Rattle.tcp_streams.proofs.Frames.{joined}
use Rattle.socket_streams.specs.Inside.{IsInside, StaysInside}
use Rattle.socket_streams.specs.Leads.{Leads}

pub one : (scope : Addr → Addr → Bool) (own : Ip) (m n : Exchange) → Step scope m n → (StaysInside own m → StaysInside own n) → Leads scope own m n
one scope own m n step inside =
    record { exchanges = n ∷ []; steps = (step, tt); last = refl; inside = inside }

pub both : (scope : Addr → Addr → Bool) (own : Ip) (m n o : Exchange) → Leads scope own m n → Leads scope own n o → Leads scope own m o
both scope own m n o a b =
    let next = subst (λ (x : Exchange). AreSteps scope x b.exchanges) (sym a.last) b.steps in
    let all = joined scope m a.exchanges b.exchanges a.steps next in
    record {
      exchanges = a.exchanges ++ b.exchanges;
      steps = all.0;
      last = all.1 ∙ (ap (λ (x : Exchange). last_exchange x b.exchanges) a.last ∙ b.last);
      inside = λ h. b.inside (a.inside h);
    }

-- packets alone come and go, and records are told in another order
pub goes : (scope : Addr → Addr → Bool) (own : Ip) (m n : Exchange) → IsPermutation n.records m.records → ((p : Packet) → Contains n.flying p → Contains m.flying p ⊎ IsVoid p.load) → Leads scope own m n
goes scope own m n same flown =
    one scope own m n
    (goes_on same (λ p c. ⊎_elim (λ k. inl k) (λ v. inr (inr (inl v))) (flown p c)))
    (λ h. record {
      outside = h.outside;
      sound = λ r c. h.sound r (Contains-permutation n.records m.records r same c);
      ends = λ r c. h.ends r (Contains-permutation n.records m.records r same c);
      packets = λ p c. ⊎_elim (λ k. h.packets p k) (λ v. inl v) (flown p c);
    })

-- two ends
inside_as : (own : Ip) (a b c d : Addr) → c ≡ a → d ≡ b → IsInside own a b → IsInside own c d
inside_as own a b c d e k h =
    subst (λ (x : Addr). IsInside own x d) (sym e) (subst (λ (y : Addr). IsInside own a y) (sym k) h)

sent_inside : (own : Ip) (r : Tcb) (packets : List Packet) (p : Packet) → IsInside own r.control.local r.control.peer → AreOf r packets → Contains packets p → IsInside own p.from p.to
sent_inside own r packets p h of c =
    let sent = one_of r packets p of (IsIn_from_Contains p packets c) in
    inside_as own r.control.local r.control.peer p.from p.to sent.from sent.to h

-- what a record that joins others leaves inside
joins : (own : Ip) (m n : Exchange) (r : Tcb) (rest : List Tcb) (sent : List Packet) → StaysInside own m → IsPermutation n.records (r ∷ rest) → ((x : Tcb) → Contains rest x → Contains m.records x) → IsSound r → IsInside own r.control.local r.control.peer → AreOf r sent → ((p : Packet) → Contains n.flying p → Contains m.flying p ⊎ Contains sent p) → StaysInside own n
joins own m n r rest sent h same from sound ends of flown = record {
  outside = h.outside;
  sound = λ x c.
      ⊎_elim
      (λ e. subst IsSound (sym e) sound)
      (λ k. h.sound x (from x k))
      (Contains_cases r x rest (Contains-permutation n.records (r ∷ rest) x same c));
  ends = λ x c.
      ⊎_elim
      (λ e. subst (λ (y : Tcb). IsInside own y.control.local y.control.peer) (sym e) ends)
      (λ k. h.ends x (from x k))
      (Contains_cases r x rest (Contains-permutation n.records (r ∷ rest) x same c));
  packets = λ p c. ⊎_elim (λ k. h.packets p k) (λ k. inr (sent_inside own r sent p ends of k)) (flown p c);
}

-- a record acts
pub acts_among : (scope : Addr → Addr → Bool) (own : Ip) (m n : Exchange) (r : Tcb) (rest : List Tcb) (act : Act) → IsPermutation m.records (r ∷ rest) → MayAct m.flying r act → IsPermutation n.records ((acted act r).tcb ∷ rest) → ((p : Packet) → Contains n.flying p → Contains m.flying p ⊎ Contains (acted act r).sent p) → Leads scope own m n
acts_among scope own m n r rest act was may is flown =
    one scope own m n
    (acts r rest act was may is (λ p c. ⊎_elim (λ k. inl k) (λ k. inr (inl k)) (flown p c)))
    (λ h.
    let here = moved m.records (r ∷ rest) r was (Contains_here r rest) in
    let sound = h.sound r here in
    let grows = acted_grows act r sound in
    let t = acted act r in
    joins own m n t.tcb rest t.sent h is
    (λ x k. moved m.records (r ∷ rest) x was (Contains_there r x rest k))
    (acted_sound act r sound)
    (inside_as own r.control.local r.control.peer t.tcb.control.local t.tcb.control.peer grows.local grows.peer (h.ends r here))
    (acted_honest act r sound)
    flown)

-- a record begins: one that the host opens has ends that are inside, and one that answers a SYN has the SYN's
abbrev pub StartsInside : Ip → Start → Type 0
StartsInside own (active local peer iss) = IsInside own local peer
StartsInside own (passive local peer iss seq) = Unit {0}

asked_resets_not : (first : ℕ) (load : Load) → AsksFrom first load → IsVoid load → ⊥
asked_resets_not first (Udp text) a v = a
asked_resets_not first (Tcp flags seq ack window text) a v =
    let h = header_of flags seq ack window in
    let alone = and_right (not h.has_ack) (not h.rst) (and_right h.syn (not h.has_ack && not h.rst) a.0) in
    let no : not true ≡ true = ap not (sym v) ∙ alone in cc

begins_inside : (own : Ip) (m : Exchange) (start : Start) → StaysInside own m → Follows m.flying start → StartsInside own start → IsInside own (begun_by start).tcb.control.local (begun_by start).tcb.control.peer
unfolding opened answered fresh_tcb fresh_control
begins_inside own m (active local peer iss) h follows inside = record { from = inside.from; to = inside.to }
begins_inside own m (passive local peer iss seq) h follows inside =
    let flown : IsInside own follows.packet.from follows.packet.to =
    ⊎_elim (λ v. absurd (asked_resets_not seq follows.packet.load follows.asks v)) (λ k. k) (h.packets follows.packet follows.flies) in
    inside_as own follows.packet.to follows.packet.from local peer (sym follows.to) (sym follows.from) (record { from = flown.to; to = flown.from })

pub begins_among : (scope : Addr → Addr → Bool) (own : Ip) (m n : Exchange) (start : Start) → IsStart start → Follows m.flying start → (is_same_ip own loopback ≡ false → StartsInside own start) → IsPermutation n.records ((begun_by start).tcb ∷ m.records) → ((p : Packet) → Contains n.flying p → Contains m.flying p ⊎ Contains (begun_by start).sent p) → Leads scope own m n
begins_among scope own m n start is_start follows inside is flown =
    one scope own m n
    (begins start is_start follows is (λ p c. ⊎_elim (λ k. inl k) (λ k. inr (inl k)) (flown p c)))
    (λ h.
    let t = begun_by start in
    joins own m n t.tcb m.records t.sent h is (λ x k. k) (begun_sound start is_start)
    (begins_inside own m start h follows (inside h.outside))
    (begun_honest start is_start)
    flown)
