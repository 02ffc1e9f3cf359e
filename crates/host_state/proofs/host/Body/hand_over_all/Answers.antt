use Rattle.std.proofs.Common.{◌≡◌, List, [], ◌∷◌, ap, subst, arith, rules}
use Rattle.std.proofs.lemmas.Grind.{common_steps}
use Rattle.std.specs.Vec.Iter.{into_iter_items}
use Rattle.sim_base.specs.declared.packet.Packet.{Packet}
use Rattle.host_state.specs.Arriving.{are_handed_over}
use Rattle.host_state.specs.StandsFor.{LeadsTo}
use Rattle.host_state.proofs.Acts.{more_handed, none_handed}
use Rattle.host_state.proofs.host.Body.hand_over_all.Goals as goal

pub loop-packet-init : goal.loop-packet-init
loop-packet-init c = λ h s.
    let e : into_iter_items c.into_iter-packet-iterator.result ≡ c.args.packets.items = search rules in
    record { here = h; body = s; same = ap (λ (ps : List Packet). are_handed_over c.args.net.now ps h) e }

pub loop-packet-preserved : goal.loop-packet-preserved
loop-packet-preserved c = λ h s.
    let e : into_iter_items c.loop-packet.packet-iterator ≡ c.in-Some.packet ∷ into_iter_items c.next.new.self = search rules in
    more_handed c.args.net.now c.in-Some.packet (into_iter_items c.next.new.self) c.loop-packet.self c.hand_over.new.self _
    (subst (λ (ps : List Packet). LeadsTo (are_handed_over c.args.net.now ps) c.loop-packet.self (are_handed_over c.args.net.now c.args.packets.items h)) e (c.loop-packet.invariant h s))
    c.in_ok-hand_over.ensures

pub returns : goal.returns
returns c = λ h s.
    let e : into_iter_items c.loop-packet.packet-iterator ≡ [] = grind (arith, common_steps) in
    none_handed c.args.net.now c.loop-packet.self _
    (subst (λ (ps : List Packet). LeadsTo (are_handed_over c.args.net.now ps) c.loop-packet.self (are_handed_over c.args.net.now c.args.packets.items h)) e (c.loop-packet.invariant h s))
