use Rattle.std.proofs.lemmas.Result.{on_ok_weaker}
use Rattle.host_state.proofs.Acts.{handed}
use Rattle.host_state.proofs.host.Body.hand_over.Goals as goal

pub returns : goal.returns
returns c =
    on_ok_weaker c.do_wanted.result
    (handed c.args.net.now c.args.packet c.args.self.now c.do_wanted.new.self c.now-now.result c.deliver.new.parts c.log.new.self c.in_ok-act.act
    c.now-now.ensures.time c.in_ok-act.ensures c.in_ok-log.ensures)
    c.do_wanted.ensures
