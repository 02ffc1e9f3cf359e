use Rattle.std.proofs.Common.{refl}
use Rattle.host_sockets.proofs.SocketActs.{stand_same}
use Rattle.host_sockets.proofs.sockets.Sockets.turn_to.Goals as goal

pub returns-clause-stands : goal.returns-clause-stands
returns-clause-stands c = λ t h. stand_same c.args.self.now _ t refl refl refl refl refl refl h
