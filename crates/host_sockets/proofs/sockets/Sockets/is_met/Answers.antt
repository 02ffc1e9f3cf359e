use Rattle.host_sockets.proofs.PortsMet.{none_met}
use Rattle.host_sockets.proofs.sockets.Sockets.is_met.Goals as goal

pub returns-then-at-eq0 : goal.returns-then-at-eq0
returns-then-at-eq0 c = λ t h e. none_met t c.args.at c.args.end c.if-at-eq0.true e
