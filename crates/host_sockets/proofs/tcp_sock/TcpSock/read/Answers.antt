use Rattle.std.proofs.Common.{subst}
use Rattle.sock_tcp.specs.connection.Begin.{begin}
use Rattle.sock_tcp.specs.connection.Process.{flows, reads}
use Rattle.sock_tcp.specs.connection.Tcb.{changed}
use Rattle.host_sockets.specs.StandsFor.{ConnStands}
use Rattle.host_sockets.proofs.Acting.{acts_there}
use Rattle.host_sockets.proofs.tcp_sock.TcpSock.read.Goals as goal

pub returns-in-Some-clause-brings : goal.returns-in-Some-clause-brings
returns-in-Some-clause-brings c = λ s h.
    acts_there c.args.now c.args.place (λ r. flows (changed (reads c.args.count) (begin r))) c.args.self.now c.bring_about.new.self s s.tcb c.in-Some.conn c.flow.new.self c.args.outlet.now c.bring_about.new.outlet c.in_ok-effects.effects c.args.gone.now.items c.bring_about.new.gone.items h
    (subst (λ o. ConnStands o s.tcb) c.in-Some.is h.conn) (λ r stands. c.in_ok-effects.ensures (reads c.args.count r) (c.in_ok-bytes.ensures.stands r stands)) c.in_ok-bring_about.ensures
