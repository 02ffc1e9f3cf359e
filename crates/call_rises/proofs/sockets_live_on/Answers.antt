use Rattle.call_rises.proofs.SocketLives.{udp_lives_on, tcp_lives_on}
use Rattle.call_rises.proofs.sockets_live_on.Goals as goal

pub returns-clause-udp : goal.returns-clause-udp
returns-clause-udp c = udp_lives_on

pub returns-clause-tcp : goal.returns-clause-tcp
returns-clause-tcp c = tcp_lives_on
