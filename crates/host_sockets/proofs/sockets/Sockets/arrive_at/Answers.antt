use Rattle.std.proofs.Common.{◌≡◌, subst, ap, arith}
use Rattle.std.proofs.lemmas.Result.{IfOk-weaker}
use Rattle.udp_slots.specs.Slots.{slot_arrives}
use Rattle.host_sockets.specs.Arriving.{datagram_in}
use Rattle.host_sockets.specs.StandsFor.{Stand}
use Rattle.host_sockets.proofs.Endings.{udp_act_ends}
use Rattle.host_sockets.proofs.UdpTold.{told_then}
use Rattle.host_sockets.proofs.UdpSlots.{told_no_udp, arrived_udp}
use Rattle.host_sockets.proofs.sockets.Sockets.arrive_at.Goals as goal

pub invariant_of-self : goal.invariant_of-self
invariant_of-self c = (
  (told_then c.args.self.now.udp.slots.items c.args.self.now.udp.table c.set.new.self c.args.k c.arrive-answer.new.slot c.ends.result c.args.self.now.udp.told c.ends.ensures c.set.ensures, tt),
  (c.args.self.now.indexed, tt),
)

pub returns-then-k-len-clause-act : goal.returns-then-k-len-clause-act
returns-then-k-len-clause-act c = λ t h. told_no_udp c.args.self.now t c.args.k (λ o. (datagram_in c.args.from c.args.bytes.now c.args.k o t).0) h (omega (arith, c.args.self.now.udp.slots.ok.0))

pub returns-then-k-len-clause-stands : goal.returns-then-k-len-clause-stands
returns-then-k-len-clause-stands c = λ t h.
    subst (λ o. Stand c.args.self.now (datagram_in c.args.from c.args.bytes.now c.args.k o t).1) (told_no_udp c.args.self.now t c.args.k (λ o. o) h (omega (arith, c.args.self.now.udp.slots.ok.0))) h

pub returns-clause-act : goal.returns-clause-act
returns-clause-act c =
    IfOk-weaker c.arrive-answer.result (λ act. (act, c.arrive-answer.new.slot) ≡ slot_arrives c.args.from c.args.bytes.now c.index_mut-slot.result.now) _ (λ act is t h.
    (arrived_udp c.args.self.now c.end_udp_act.new.self t c.args.k c.slot_glance-before.result c.args.from c.args.bytes.now c.index_mut-slot.result.now c.arrive-answer.new.slot act h (omega (arith, c.args.self.now.udp.slots.ok.0)) c.index_mut-slot.ensures.value c.slot_glance-before.ensures is
    (udp_act_ends c.args.self.now c.end_udp_act.new.self c.args.k c.slot_glance-before.result c.arrive-answer.new.slot (omega (arith, c.args.self.now.udp.slots.ok.0)) c.end_udp_act.ensures.own (ap (λ v. v.slots.items) c.end_udp_act.ensures.udp) c.end_udp_act.ensures.tcp c.end_udp_act.ensures.tcp_risen c.end_udp_act.ensures.gone c.end_udp_act.ensures.udp_risen)).0) c.arrive-answer.ensures

pub returns-clause-stands : goal.returns-clause-stands
returns-clause-stands c =
    IfOk-weaker c.arrive-answer.result (λ act. (act, c.arrive-answer.new.slot) ≡ slot_arrives c.args.from c.args.bytes.now c.index_mut-slot.result.now) _ (λ act is t h.
    (arrived_udp c.args.self.now c.end_udp_act.new.self t c.args.k c.slot_glance-before.result c.args.from c.args.bytes.now c.index_mut-slot.result.now c.arrive-answer.new.slot act h (omega (arith, c.args.self.now.udp.slots.ok.0)) c.index_mut-slot.ensures.value c.slot_glance-before.ensures is
    (udp_act_ends c.args.self.now c.end_udp_act.new.self c.args.k c.slot_glance-before.result c.arrive-answer.new.slot (omega (arith, c.args.self.now.udp.slots.ok.0)) c.end_udp_act.ensures.own (ap (λ v. v.slots.items) c.end_udp_act.ensures.udp) c.end_udp_act.ensures.tcp c.end_udp_act.ensures.tcp_risen c.end_udp_act.ensures.gone c.end_udp_act.ensures.udp_risen)).1) c.arrive-answer.ensures
