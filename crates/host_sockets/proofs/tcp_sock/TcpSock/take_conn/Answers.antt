use Rattle.std.proofs.Common.{subst}
use Rattle.host_sockets.specs.StandsFor.{ListenerStands}
use Rattle.host_sockets.proofs.Taking.{takes_conn}
use Rattle.host_sockets.proofs.tcp_sock.TcpSock.take_conn.Goals as goal

pub returns-in-Some-accept : goal.returns-in-Some-accept
returns-in-Some-accept c = λ s h.
    takes_conn c.args.self.now c.keep_timer.new.self s s.listen c.in-Some.listener c.accept.new.self c.in-Some-accept.conn c.control-control.result h
    (subst (λ o. ListenerStands o s.listen) c.in-Some.is h.listener) c.in-Some-accept.ensures c.control-control.ensures c.keep_timer.ensures
