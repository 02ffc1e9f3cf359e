use Rattle.std.proofs.Common.{◌≡◌, sym, subst}
use Rattle.std.proofs.lemmas.Result.{on_ok_weaker}
use Rattle.sim_base.specs.declared.act.Act.TheVariants.{FullDown}
use Rattle.sim_base.specs.declared.event.What.TheVariants as what
use Rattle.net_iface.specs.declared.lane.Pushed.{Pushed}
use Rattle.host_link.specs.Link.{logs}
use Rattle.host_link.specs.Sending.{makes_if}
use Rattle.host_state.specs.declared.host.Body.{Body}
use Rattle.host_state.specs.Arriving.{is_handed_over, goes_in}
use Rattle.host_state.specs.StandsFor.{Does}
use Rattle.host_state.proofs.Acts.{routed, linked}
use Rattle.host_state.proofs.host.Body.come_to_router.Goals as goal

pub returns-in-Leaves : goal.returns-in-Leaves
returns-in-Leaves c =
    let m : Body = record c.args.self.now { link = c.push_down.new.self } in
    on_ok_weaker c.hand_over.result
    (λ (d : Does (is_handed_over c.args.net.now c.in-Leaves.packet) m c.hand_over.new.self).
    routed c.args.net.now c.args.packet c.args.self.now c.hand_over.new.self _ c.push_down.new.self c.in_ok-packet.ensures
    (subst (λ (x : Pushed). Does (goes_in c.args.net.now x) m c.hand_over.new.self) (sym c.in-Leaves.is) d))
    c.hand_over.ensures

pub returns-in-Waits : goal.returns-in-Waits
returns-in-Waits c =
    let m : Body = record c.args.self.now { link = c.push_down.new.self } in
    on_ok_weaker c.make_if.result
    (λ (e : c.make_if.new.self ≡ makes_if c.in-Waits.due what.Down c.push_down.new.self).
    routed c.args.net.now c.args.packet c.args.self.now _ _ c.push_down.new.self c.in_ok-packet.ensures
    (subst (λ (x : Pushed). Does (goes_in c.args.net.now x) m (record m { link = c.make_if.new.self })) (sym c.in-Waits.is)
    (linked (makes_if c.in-Waits.due what.Down) m c.make_if.new.self e)))
    c.make_if.ensures

pub returns-in-Dropped : goal.returns-in-Dropped
returns-in-Dropped c =
    let m : Body = record c.args.self.now { link = c.push_down.new.self } in
    on_ok_weaker c.log.result
    (λ (e : c.log.new.self ≡ logs FullDown c.in-Dropped.packet c.push_down.new.self).
    routed c.args.net.now c.args.packet c.args.self.now _ _ c.push_down.new.self c.in_ok-packet.ensures
    (subst (λ (x : Pushed). Does (goes_in c.args.net.now x) m (record m { link = c.log.new.self })) (sym c.in-Dropped.is)
    (linked (logs FullDown c.in-Dropped.packet) m c.log.new.self e)))
    c.log.ensures
