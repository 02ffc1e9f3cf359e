use Rattle.std.proofs.lemmas.Result.{on_ok_weaker}
use Rattle.host_state.specs.Step.{step_with}
use Rattle.host_state.proofs.Slices.{again}
use Rattle.host_state.proofs.host.Body.call_again.Goals as goal

pub returns : goal.returns
returns c =
    on_ok_weaker c.follow.result
    (again c.args.net.now c.args.process c.args.why.number c.args.why.args c.args.cpu (step_with c.in_ok-next.next c.call.new.cpu) c.args.self.now c.call.new.self c.follow.new.self c.in_ok-next.ensures)
    c.follow.ensures
