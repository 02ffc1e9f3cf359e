use Rattle.sock_tcp.specs.connection.Begin.{begin}
use Rattle.sock_tcp.specs.connection.Arrival.{takes_packet}
use Rattle.host_sockets.proofs.Acting.{acts_then}
use Rattle.host_sockets.proofs.tcp_sock.TcpSock.arrive.Goals as goal

pub returns-in-Some : goal.returns-in-Some
returns-in-Some c =
    acts_then c.args.now c.args.place (λ r. takes_packet c.args.packet.now (begin r)) c.args.self.now c.bring_about.new.self c.in-Some.conn c.arrive.new.self c.args.outlet.now c.bring_about.new.outlet c.in_ok-effects.effects c.args.gone.now.items c.bring_about.new.gone.items c.bring_about.result
    c.in-Some.is c.in_ok-effects.ensures c.bring_about.ensures
