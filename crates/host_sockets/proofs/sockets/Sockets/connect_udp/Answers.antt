use Rattle.std.proofs.Common.{◌<◌, length, ap, arith}
use Rattle.sock_udp.specs.Socket.{UdpState, connect, connected}
use Rattle.host_wants.specs.Refusals.{by_errno}
use Rattle.udp_slots.specs.Slots.{only_state}
use Rattle.host_sockets.specs.Udp.{udp_around, connects_udp}
use Rattle.host_sockets.proofs.Endings.{udp_act_ends}
use Rattle.host_sockets.proofs.UdpTold.{told_then}
use Rattle.host_sockets.proofs.UdpSlots.{becomes_udp, refused_udp, slot_same}
use Rattle.host_sockets.proofs.UdpCalls.{surrounded, connects_alike}
use Rattle.host_sockets.proofs.sockets.Sockets.connect_udp.Goals as goal

pub invariant_of-self : goal.invariant_of-self
invariant_of-self c = (
  (told_then c.args.self.now.udp.slots.items c.args.self.now.udp.table c.set.new.self c.args.k c.connect-answer.new.slot c.ends.result c.args.self.now.udp.told c.ends.ensures c.set.ensures, tt),
  (c.args.self.now.indexed, tt),
)

pub returns-then-k-len : goal.returns-then-k-len
unfolding connects_udp
returns-then-k-len c = λ t h. refused_udp (λ (u : UdpState). only_state (by_errno (connect (udp_around c.args.hosts.now t) c.args.to u))) c.args.self.now t c.args.k h (omega (arith, c.args.self.now.udp.slots.ok.0))

pub returns : goal.returns
unfolding connects_udp
returns c = λ t h.
    let within : c.args.k < length c.args.self.now.udp.slots.items = omega (arith, c.args.self.now.udp.slots.ok.0) in
    let same = connects_alike c.args.self.now t c.args.k c.args.hosts.now c.args.to c.index_mut-slot.result.now c.udp_end_to_use-own.result h within c.index_mut-slot.ensures.value c.udp_end_to_use-own.ensures in
    let does = slot_same (λ (u : UdpState). only_state (by_errno (connected (surrounded c.args.self.now.own c.args.hosts.now) c.args.to u c.udp_end_to_use-own.result))) (λ (u : UdpState). only_state (by_errno (connect (udp_around c.args.hosts.now t) c.args.to u))) c.index_mut-slot.result.now c.connect-answer.new.slot c.connect-answer.result same c.connect-answer.ensures in
    becomes_udp (λ (u : UdpState). only_state (by_errno (connect (udp_around c.args.hosts.now t) c.args.to u))) c.args.self.now _ t c.args.k c.slot_glance-before.result c.index_mut-slot.result.now c.connect-answer.new.slot c.connect-answer.result h within c.index_mut-slot.ensures.value c.slot_glance-before.ensures does
    (udp_act_ends c.args.self.now _ c.args.k c.slot_glance-before.result c.connect-answer.new.slot within c.end_udp_act.ensures.own (ap (λ v. v.slots.items) c.end_udp_act.ensures.udp) c.end_udp_act.ensures.tcp c.end_udp_act.ensures.tcp_risen c.end_udp_act.ensures.gone c.end_udp_act.ensures.udp_risen)
