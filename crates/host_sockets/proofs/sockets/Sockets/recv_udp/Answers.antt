use Rattle.std.proofs.Common.{ap, arith}
use Rattle.sock_udp.specs.Socket.{UdpState}
use Rattle.udp_slots.specs.Slots.{oldest_datagram}
use Rattle.host_sockets.specs.Udp.{receives_udp}
use Rattle.host_sockets.proofs.Endings.{udp_act_ends}
use Rattle.host_sockets.proofs.UdpTold.{told_then}
use Rattle.host_sockets.proofs.UdpSlots.{becomes_udp, refused_udp}
use Rattle.host_sockets.proofs.sockets.Sockets.recv_udp.Goals as goal

pub invariant_of-self : goal.invariant_of-self
invariant_of-self c = (
  (told_then c.args.self.now.udp.slots.items c.args.self.now.udp.table c.set.new.self c.args.k c.recv-answer.new.slot c.ends.result c.args.self.now.udp.told c.ends.ensures c.set.ensures, tt),
  (c.args.self.now.indexed, tt),
)

pub returns-then-k-len-clause-row : goal.returns-then-k-len-clause-row
unfolding receives_udp
returns-then-k-len-clause-row c = λ t h. refused_udp (λ (u : UdpState). oldest_datagram u u.waiting c.args.count) c.args.self.now t c.args.k h (omega (arith, c.args.self.now.udp.slots.ok.0))

pub returns-clause-row : goal.returns-clause-row
unfolding receives_udp
returns-clause-row c = λ t h.
    becomes_udp (λ (u : UdpState). oldest_datagram u u.waiting c.args.count) c.args.self.now _ t c.args.k c.slot_glance-before.result c.index_mut-slot.result.now c.recv-answer.new.slot c.recv-answer.result h (omega (arith, c.args.self.now.udp.slots.ok.0)) c.index_mut-slot.ensures.value c.slot_glance-before.ensures c.recv-answer.ensures.does
    (udp_act_ends c.args.self.now _ c.args.k c.slot_glance-before.result c.recv-answer.new.slot (omega (arith, c.args.self.now.udp.slots.ok.0)) c.end_udp_act.ensures.own (ap (λ v. v.slots.items) c.end_udp_act.ensures.udp) c.end_udp_act.ensures.tcp c.end_udp_act.ensures.tcp_risen c.end_udp_act.ensures.gone c.end_udp_act.ensures.udp_risen)
