use Rattle.sock_udp.specs.SocketLaws.{send_bound, connect_bound, bind_bound}
use Rattle.base_laws.proofs.sockets.others_are_no_matter.Goals as goal

pub returns-clause-sent : goal.returns-clause-sent
returns-clause-sent c = send_bound

pub returns-clause-connected : goal.returns-clause-connected
returns-clause-connected c = connect_bound

pub returns-clause-bound : goal.returns-clause-bound
returns-clause-bound c = bind_bound
