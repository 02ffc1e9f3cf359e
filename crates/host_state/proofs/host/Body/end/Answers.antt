use Rattle.host_state.proofs.Slices.{ended_so}
use Rattle.host_state.proofs.host.Body.end.Goals as goal

pub returns : goal.returns
returns c = ended_so c.args.process c.args.state c.args.self.now c.let_go.new.self c.set_process.new.self c.let_go.ensures c.set_process.ensures
