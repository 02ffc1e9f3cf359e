-- what the phase of a record says of its offsets
use Rattle.std.proofs.Common.{◌≡◌, ℕ, ◌+◌, ◌-◌, ◌≤◌, ◌==◌, nat_lt, length, max, Bool, true, false, not, sym, ap, ◌∙◌, arith}
use Rattle.std.proofs.lemmas.Bool.Decides.{nat_tests}
use Rattle.std.proofs.lemmas.List.{length-drop}
use Rattle.sock_tcp.specs.declared.connection.conn.Conn.{Conn}
use Rattle.sock_tcp.specs.declared.segment.state.TcpState.{TcpState}
use Rattle.sock_tcp.specs.declared.segment.state.TcpState.TheVariants.{SynSent, SynReceived, Established, FinWait1, FinWait2, CloseWait, Closing, LastAck, TimeWait, Ended, Vanished}
use Rattle.sock_tcp.specs.declared.segment.state.Phase.{Phase}
use Rattle.sock_tcp.specs.declared.segment.state.Phase.TheVariants.{Opening, Open, Ending, Finished, Over}
use Rattle.sock_tcp.specs.segment.State.{phase_of, is_opening, is_sending, is_sending_phase}
use Rattle.sock_tcp.specs.connection.Tcb.{Tcb, data_end, unread}
use Rattle.sock_tcp.specs.connection.StandsFor.{StandsFor, FitsPhase}

pub bounds : (p : Phase) (wanted : Bool) (una nxt highest end : ℕ) → is_sending_phase p ≡ true → una ≤ nxt → FitsPhase p wanted una nxt highest end → (1 ≤ una) × (una ≤ end)
bounds Opening wanted una nxt highest end s b h = cc
bounds Open wanted una nxt highest end s b h = (h.1, omega arith)
bounds Ending wanted una nxt highest end s b h = (h.1, h.2)
bounds Finished wanted una nxt highest end s b h = cc
bounds Over wanted una nxt highest end s b h = cc

-- while text or the FIN may be sent, the send buffer ends where what was written does
pub unacknowledged_ends : (c : Conn) (r : Tcb) → StandsFor c r → is_sending r.control.state ≡ true → (length c.send.items + r.una ≡ data_end r) × (1 ≤ r.una)
unacknowledged_ends c r h s =
    let at_most : r.una ≤ r.nxt = omega (arith, h.next) in
    let b = bounds (phase_of r.control.state) _ _ _ _ _ s at_most h.phase in
    let e : length c.send.items ≡ length r.written - (r.una - 1) = ap length h.send ∙ length-drop (r.una - 1) r.written in
    (omega arith, b.0)

-- so it holds something where not all that was written is acknowledged
holds_between : (count una end : ℕ) → count + una ≡ end → not (count == 0) ≡ nat_lt una end
holds_between count una end e = grind (arith, nat_tests)

pub holds_text : (c : Conn) (r : Tcb) → StandsFor c r → is_sending c.control.state ≡ true → not (length c.send.items == 0) ≡ nat_lt r.una (data_end r)
holds_text c r h s =
    holds_between (length c.send.items) r.una (data_end r) (unacknowledged_ends c r h (sym (ap (λ k. is_sending k.state) h.control) ∙ s)).0

-- and the receive buffer where something wasn't read
holds_some : (count : ℕ) → not (count == 0) ≡ nat_lt 0 count
holds_some count = grind (arith, nat_tests)

pub holds_unread : (c : Conn) (r : Tcb) → StandsFor c r → not (length c.receive.items == 0) ≡ nat_lt 0 (unread r)
holds_unread c r h =
    holds_some (length c.receive.items) ∙ ap (nat_lt 0) (ap length h.receive ∙ length-drop r.read r.received)

-- what is next to send moves within the text
pub FitsPhase_next : (p : Phase) (wanted : Bool) (una nxt highest end next : ℕ) → is_sending_phase p ≡ true → next ≤ max nxt end → FitsPhase p wanted una nxt highest end → FitsPhase p wanted una next highest end
FitsPhase_next Opening wanted una nxt highest end next s b h = cc
FitsPhase_next Open wanted una nxt highest end next s b h = (h.0, h.1, omega arith, h.3)
FitsPhase_next Ending wanted una nxt highest end next s b h = (h.0, h.1, h.2, omega arith, h.4)
FitsPhase_next Finished wanted una nxt highest end next s b h = cc
FitsPhase_next Over wanted una nxt highest end next s b h = cc

-- or behind the FIN
pub FitsPhase_fin : (p : Phase) (wanted : Bool) (una nxt highest end next : ℕ) → is_sending_phase p ≡ true → wanted ≡ true → next ≤ end + 1 → FitsPhase p wanted una nxt highest end → FitsPhase p wanted una next highest end
FitsPhase_fin Opening wanted una nxt highest end next s w b h = cc
FitsPhase_fin Open wanted una nxt highest end next s w b h = cc
FitsPhase_fin Ending wanted una nxt highest end next s w b h = (h.0, h.1, h.2, b, h.4)
FitsPhase_fin Finished wanted una nxt highest end next s w b h = cc
FitsPhase_fin Over wanted una nxt highest end next s w b h = cc

-- the highest follows what is next
pub FitsPhase_highest : (p : Phase) (wanted : Bool) (una nxt highest end : ℕ) → is_sending_phase p ≡ true → FitsPhase p wanted una nxt highest end → FitsPhase p wanted una nxt (max highest nxt) end
FitsPhase_highest Opening wanted una nxt highest end s h = cc
FitsPhase_highest Open wanted una nxt highest end s h = (h.0, h.1, h.2, omega arith)
FitsPhase_highest Ending wanted una nxt highest end s h = (h.0, h.1, h.2, h.3, omega arith)
FitsPhase_highest Finished wanted una nxt highest end s h = cc
FitsPhase_highest Over wanted una nxt highest end s h = cc

pub opening_of : (state : TcpState) (wanted : Bool) (una nxt highest end : ℕ) → is_opening state ≡ true → FitsPhase (phase_of state) wanted una nxt highest end → (wanted ≡ false) × (una ≡ 0) × (nxt ≡ 1) × (highest ≡ 1)
opening_of SynSent wanted una nxt highest end e h = h
opening_of SynReceived wanted una nxt highest end e h = h
opening_of Established wanted una nxt highest end e h = cc
opening_of FinWait1 wanted una nxt highest end e h = cc
opening_of FinWait2 wanted una nxt highest end e h = cc
opening_of CloseWait wanted una nxt highest end e h = cc
opening_of Closing wanted una nxt highest end e h = cc
opening_of LastAck wanted una nxt highest end e h = cc
opening_of TimeWait wanted una nxt highest end e h = cc
opening_of Ended wanted una nxt highest end e h = cc
opening_of Vanished wanted una nxt highest end e h = cc

-- before ESTABLISHED only the SYN was sent
pub opening_offsets : (c : Conn) (r : Tcb) → StandsFor c r → is_opening r.control.state ≡ true → (r.control.fin_wanted ≡ false) × (r.una ≡ 0) × (r.nxt ≡ 1) × (r.highest ≡ 1)
opening_offsets c r h e = opening_of r.control.state _ _ _ _ _ e h.phase
