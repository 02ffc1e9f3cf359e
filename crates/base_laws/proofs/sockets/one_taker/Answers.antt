use Rattle.sock_udp.specs.SocketLaws.{takes_meets}
use Rattle.base_laws.proofs.sockets.one_taker.Goals as goal

pub returns : goal.returns
returns c = takes_meets
