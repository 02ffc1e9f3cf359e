use Rattle.std.proofs.Common.{refl, subst}
use Rattle.host_sockets.specs.Connecting.{connect_ends}
use Rattle.host_sockets.specs.StandsFor.{ConnStands}
use Rattle.host_sockets.proofs.Acting.{told_there, told_none}
use Rattle.host_sockets.proofs.tcp_sock.TcpSock.connect_ends.Goals as goal

pub returns-in-Some : goal.returns-in-Some
returns-in-Some c = λ s h.
    told_there s.tcb c.in-Some.conn connect_ends c.connect_ends.result (subst (λ o. ConnStands o s.tcb) c.in-Some.is h.conn) (λ r stands. c.connect_ends.ensures r (c.control.ensures r stands))

pub returns-in-None : goal.returns-in-None
returns-in-None c = λ s h.
    told_none s.tcb connect_ends _ (subst (λ o. ConnStands o s.tcb) c.in-None.is h.conn) refl
