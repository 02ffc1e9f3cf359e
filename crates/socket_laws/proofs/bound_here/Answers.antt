use Rattle.socket_laws.proofs.HereActs.{history_here}
use Rattle.socket_laws.proofs.bound_here.Goals as goal

pub returns : goal.returns
returns c = history_here
