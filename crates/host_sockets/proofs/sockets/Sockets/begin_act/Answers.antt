use Rattle.host_sockets.proofs.SocketActs.{stands_there}
use Rattle.host_sockets.proofs.sockets.Sockets.begin_act.Goals as goal

pub returns-clause-seen : goal.returns-clause-seen
returns-clause-seen c = λ t s h e. c.glance.ensures s (stands_there c.turn_to.new.self t c.args.k c.index.result.now s (c.turn_to.ensures.stands t h) c.index.ensures e)
