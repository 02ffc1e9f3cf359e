use Rattle.std.proofs.lemmas.Result.{on_ok_weaker}
use Rattle.host_state.proofs.Acts.{wired}
use Rattle.host_link.specs.Sending.{up_comes}
use Rattle.host_state.proofs.host.Body.come_up.Goals as goal

pub returns : goal.returns
returns c =
    on_ok_weaker c.come_up.result (wired (up_comes c.args.net.now) c.args.self.now c.come_up.new.self c.come_up.new.outlet) c.come_up.ensures
