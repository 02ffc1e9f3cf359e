use Rattle.std.proofs.Common.{refl, subst}
use Rattle.host_sockets.specs.Connecting.{refuse_connected}
use Rattle.host_sockets.specs.StandsFor.{ConnStands}
use Rattle.host_sockets.proofs.Acting.{told_there, told_none}
use Rattle.host_sockets.proofs.tcp_sock.TcpSock.refuse_connected.Goals as goal

pub returns-in-Some : goal.returns-in-Some
returns-in-Some c = λ s h.
    told_there s.tcb c.in-Some.conn refuse_connected c.refuse_connected.result (subst (λ o. ConnStands o s.tcb) c.in-Some.is h.conn) (λ r stands. c.refuse_connected.ensures r (c.control.ensures r stands))

pub returns-in-None : goal.returns-in-None
returns-in-None c = λ s h.
    told_none s.tcb refuse_connected _ (subst (λ o. ConnStands o s.tcb) c.in-None.is h.conn) refl
