use Rattle.std.proofs.Common.{List, sym, subst}
use Rattle.host_sockets.specs.declared.tcp_sock.TcpSock.{TcpSock}
use Rattle.host_sockets.specs.SocketsStand.{AllStand}
use Rattle.host_sockets.proofs.sockets.Sockets.tcp_place.Goals as goal

pub returns : goal.returns
returns c = λ t h. c.free_place.ensures t.tcp (subst (λ (xs : List TcpSock). AllStand xs t.tcp) (sym c.as_slice.ensures.value) h.tcp)
