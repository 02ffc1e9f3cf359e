use Rattle.std.proofs.Common.{◌≡◌, ◌++◌, drop, map}
use Rattle.std.specs.List.{flat_map}
use Rattle.sock_tcp.specs.connection.Carried.{carried_of}
use Rattle.host_sockets.specs.Records.{records_at}
use Rattle.host_sockets.specs.Sockets.{SocketsRecord}
use Rattle.host_sockets.specs.TcpSocket.{TcpSocket}
use Rattle.host_sockets.specs.StandsFor.{Stand}
use Rattle.host_sockets.proofs.sockets.Sockets.carried_there.Given as goal

-- what was gathered, and then what those behind have, is all
abbrev pub invariant-loop-sock : goal.invariant-loop-sock
invariant-loop-sock l = (t : SocketsRecord) → Stand l.self t → l.all.items ++ flat_map (λ (s : TcpSocket). map carried_of (records_at s)) (drop l.sock-index t.tcp) ≡ flat_map (λ (s : TcpSocket). map carried_of (records_at s)) t.tcp
