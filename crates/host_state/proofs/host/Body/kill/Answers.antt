use Rattle.host_state.proofs.Slices.{killed}
use Rattle.host_state.proofs.host.Body.kill.Goals as goal

pub returns : goal.returns
returns c = λ cpu. killed c.args.net.now c.args.process c.args.signal c.args.self.now c.close.new.self c.in_ok-close.ensures
