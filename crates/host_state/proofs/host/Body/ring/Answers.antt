use Rattle.std.proofs.lemmas.Result.{on_ok_weaker}
use Rattle.host_state.proofs.Acts.{rang}
use Rattle.host_state.proofs.host.Body.ring.Goals as goal

pub returns : goal.returns
returns c =
    on_ok_weaker c.do_wanted.result
    (rang c.args.net.now c.args.target c.args.serial c.args.self.now c.do_wanted.new.self c.now-now.result c.alarm.new.parts c.now-now.ensures.time c.in_ok-alarm.ensures)
    c.do_wanted.ensures
