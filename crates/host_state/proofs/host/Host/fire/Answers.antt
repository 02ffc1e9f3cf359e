use Rattle.std.proofs.lemmas.Result.{on_ok_weaker}
use Rattle.host_link.specs.Handing.{HandsAllOn}
use Rattle.host_state.proofs.Hosts.{fired}
use Rattle.host_state.proofs.host.Host.fire.Goals as goal

pub returns : goal.returns
returns c =
    on_ok_weaker c.hand_made_on.result
    (λ (on : HandsAllOn c.args.net.now c.number-number.result c.args.event.key c.in_ok-made.made c.args.self.now.queue c.hand_made_on.new.queue c.args.out.now c.hand_made_on.new.out).
    fired c.args.net.now c.args.event c.args.self.now _ c.in_ok-made.made c.args.out.now c.hand_made_on.new.out
    c.number-number.result c.number-number.ensures c.in_ok-made.ensures on)
    c.hand_made_on.ensures
