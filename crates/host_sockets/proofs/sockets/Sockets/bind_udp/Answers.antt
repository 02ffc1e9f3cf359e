use Rattle.std.proofs.Common.{◌≡◌, Some, ap, arith}
use Rattle.sock_udp.specs.Socket.{UdpState, bind, bound_at}
use Rattle.host_wants.specs.Refusals.{by_errno}
use Rattle.udp_slots.specs.Slots.{only_state}
use Rattle.host_sockets.specs.Udp.{udp_around, binds_udp}
use Rattle.host_sockets.proofs.Endings.{udp_act_ends}
use Rattle.host_sockets.proofs.UdpTold.{told_then}
use Rattle.host_sockets.proofs.UdpSlots.{slot_same, becomes_udp, refused_udp}
use Rattle.host_sockets.proofs.UdpCalls.{surrounded, binds_alike}
use Rattle.host_sockets.proofs.sockets.Sockets.bind_udp.Goals as goal

pub invariant_of-self : goal.invariant_of-self
invariant_of-self c = (
  (told_then c.args.self.now.udp.slots.items c.args.self.now.udp.table c.set.new.self c.args.k c.bind-answer.new.slot c.ends.result c.args.self.now.udp.told c.ends.ensures c.set.ensures, tt),
  (c.args.self.now.indexed, tt),
)

pub returns-then-k-len : goal.returns-then-k-len
unfolding binds_udp
returns-then-k-len c = λ t h. refused_udp (λ (u : UdpState). only_state (by_errno (bind (udp_around c.args.hosts.now t) c.args.at u))) c.args.self.now t c.args.k h (omega (arith, c.args.self.now.udp.slots.ok.0))

pub returns : goal.returns
unfolding binds_udp
returns c = λ t h.
    let same = λ (u : UdpState) (is : c.index_mut-slot.result.now ≡ Some u). binds_alike c.args.self.now t c.args.hosts.now c.args.at c.udp_end_left-left.result h (c.udp_end_left-left.ensures t h) u in
    let does = slot_same (λ (u : UdpState). only_state (by_errno (bound_at (surrounded c.args.self.now.own c.args.hosts.now) c.args.at.ip c.udp_end_left-left.result u))) (λ (u : UdpState). only_state (by_errno (bind (udp_around c.args.hosts.now t) c.args.at u))) c.index_mut-slot.result.now c.bind-answer.new.slot c.bind-answer.result same c.bind-answer.ensures in
    becomes_udp (λ (u : UdpState). only_state (by_errno (bind (udp_around c.args.hosts.now t) c.args.at u))) c.args.self.now _ t c.args.k c.slot_glance-before.result c.index_mut-slot.result.now c.bind-answer.new.slot c.bind-answer.result h (omega (arith, c.args.self.now.udp.slots.ok.0)) c.index_mut-slot.ensures.value c.slot_glance-before.ensures does
    (udp_act_ends c.args.self.now _ c.args.k c.slot_glance-before.result c.bind-answer.new.slot (omega (arith, c.args.self.now.udp.slots.ok.0)) c.end_udp_act.ensures.own (ap (λ v. v.slots.items) c.end_udp_act.ensures.udp) c.end_udp_act.ensures.tcp c.end_udp_act.ensures.tcp_risen c.end_udp_act.ensures.gone c.end_udp_act.ensures.udp_risen)
