use Rattle.std.proofs.Common.{◌≡◌, ◌≤◌, true, false, ap, sym, ◌∙◌, arith}
use Rattle.std.proofs.lemmas.Result.{on_ok_weaker}
use Rattle.sim_base.specs.declared.size.TheConstants.{MAX_PACKET}
use Rattle.sim_base.specs.Packet.{packet_size}
use Rattle.host_link.specs.Sending.{is_bootstrapping}
use Rattle.host_state.proofs.Acts.{not_come, come}
use Rattle.host_state.proofs.host.Body.come_in.Goals as goal

pub returns-then-size : goal.returns-then-size
returns-then-size c = not_come c.args.net.now c.args.packet c.args.self.now (omega arith)

pub returns-then-at_once : goal.returns-then-at_once
returns-then-at_once c =
    let e : true ≡ is_bootstrapping c.args.net.now c.args.self.now.link.time =
    sym c.if-at_once.true ∙ (c.is_bootstrapping-at_once.ensures ∙ ap (is_bootstrapping c.args.net.now) c.now.ensures.time) in
    let small : packet_size c.args.packet ≤ MAX_PACKET = omega arith in
    on_ok_weaker c.hand_over.result (come c.args.net.now c.args.packet c.args.self.now c.hand_over.new.self true small e) c.hand_over.ensures

pub returns : goal.returns
returns c =
    let e : false ≡ is_bootstrapping c.args.net.now c.args.self.now.link.time =
    sym c.if-at_once.false ∙ (c.is_bootstrapping-at_once.ensures ∙ ap (is_bootstrapping c.args.net.now) c.now.ensures.time) in
    let small : packet_size c.args.packet ≤ MAX_PACKET = omega arith in
    on_ok_weaker c.come_to_router.result (come c.args.net.now c.args.packet c.args.self.now c.come_to_router.new.self false small e) c.come_to_router.ensures
