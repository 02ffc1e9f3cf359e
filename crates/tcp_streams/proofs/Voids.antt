-- what tells nothing of a stream: the answers to segments of no connection, and the resets of a listener that is closed
use Rattle.std.proofs.Common.{◌≡◌, ⊎_elim, List, [], ◌∷◌, Contains, Option, Some, unwrap_or, refl, sym, ap, subst}
use Rattle.std.proofs.lemmas.List.Elements.{Contains-append_cases}
use Rattle.sim_base.specs.declared.packet.Load.{Load}
use Rattle.sim_base.specs.declared.packet.Load.TheVariants.{Udp, Tcp}
use Rattle.sim_base.specs.declared.packet.Packet.{Packet}
use Rattle.sock_tcp.specs.segment.Header.{header_of}
use Rattle.sock_tcp.specs.segment.State.{is_over}
use Rattle.sock_tcp.specs.segment.Control.{without_ack}
use Rattle.sock_tcp.specs.segment.Refusal.{header_refusal, load_refusal, refusal_of}
use Rattle.sock_tcp.specs.connection.Tcb.{Tcb}
use Rattle.sock_tcp.specs.connection.Resets.{reset_of, resets_of}
use Rattle.tcp_laws.proofs.Tests.{by_test}
use Rattle.tcp_streams.specs.Exchange.{IsVoid}
use Rattle.tcp_streams.proofs.Members.{IsIn, IsIn_from_Contains}

-- RSTs tell nothing
reset_void : (r : Tcb) (p : Packet) → IsIn p (reset_of r) → IsVoid p.load
unfolding without_ack
reset_void r p c =
    by_test (λ (packets : List Packet). IsIn p packets → IsVoid p.load) (is_over r.control.state) _ _
    (λ e k. absurd k)
    (λ e k. ⊎_elim (λ same. subst (λ (q : Packet). IsVoid q.load) (sym same) refl) (λ none. absurd none) k)
    c

pub resets_void : (records : List Tcb) (p : Packet) → Contains (resets_of records) p → IsVoid p.load
resets_void [] p c = absurd (IsIn_from_Contains p [] c)
resets_void (r ∷ records) p c =
    ⊎_elim
    (λ k. reset_void r p (IsIn_from_Contains p (reset_of r) k))
    (λ k. resets_void records p k)
    (Contains-append_cases (reset_of r) (resets_of records) p c)

of_same : (p q : Packet) → p ≡ q → IsVoid p.load → IsVoid q.load
of_same p q e v = subst (λ (x : Packet). IsVoid x.load) e v

refused_void : (p q : Packet) (load : Load) → load_refusal p load ≡ Some q → IsVoid q.load
unfolding header_refusal
refused_void p q (Udp text) e = cc
refused_void p q (Tcp flags seq ack window text) e =
    let h = header_of flags seq ack window in
    let P : Option Packet → Type 0 = λ o. o ≡ Some q → IsVoid q.load in
    by_test P h.rst _ _
    (λ k m. cc)
    (λ k. by_test P h.has_ack _ _ (λ n m. of_same _ q (ap (λ (o : Option Packet). unwrap_or o q) m) refl) (λ n m. of_same _ q (ap (λ (o : Option Packet). unwrap_or o q) m) refl))
    e

pub refusal_void : (p q : Packet) → refusal_of p ≡ Some q → IsVoid q.load
refusal_void p q e = refused_void p q p.load e
