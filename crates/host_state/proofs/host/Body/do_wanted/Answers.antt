use Rattle.std.proofs.lemmas.Result.{on_ok_weaker}
use Rattle.host_state.proofs.Acts.{did_wanted}
use Rattle.host_state.proofs.host.Body.do_wanted.Goals as goal

pub returns : goal.returns
returns c =
    on_ok_weaker c.do_wants.result (did_wanted c.args.net.now c.args.self.now c.do_wants.new.self c.do_wants.new.outlet) c.do_wants.ensures
