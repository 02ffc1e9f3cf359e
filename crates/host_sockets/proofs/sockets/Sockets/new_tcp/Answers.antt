use Rattle.std.proofs.Common.{true}
use Rattle.std.proofs.lemmas.Result.{on_ok_weaker}
use Rattle.host_sockets.specs.Sockets.{SocketsRecord, put_tcp}
use Rattle.host_sockets.specs.StandsFor.{SocketStands, Stand}
use Rattle.host_sockets.specs.TcpSocket.{TcpSocket, fresh}
use Rattle.host_sockets.proofs.sockets.Sockets.new_tcp.Goals as goal

pub returns-clause-stands : goal.returns-clause-stands
returns-clause-stands c =
    on_ok_weaker c.put_tcp.result (λ (stands : (t : SocketsRecord) (s : TcpSocket) → Stand c.args.self.now t → SocketStands c.fresh-sock.result s → Stand c.put_tcp.new.self (put_tcp s t)) (t : SocketsRecord) (h : Stand c.args.self.now t). stands t (fresh true) h c.fresh-sock.ensures) c.put_tcp.ensures.stands
