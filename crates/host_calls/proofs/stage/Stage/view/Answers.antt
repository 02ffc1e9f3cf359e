use Rattle.std.proofs.Common.{refl}
use Rattle.host_calls.proofs.stage.Stage.view.Goals as goal

pub returns : goal.returns
returns c = refl
