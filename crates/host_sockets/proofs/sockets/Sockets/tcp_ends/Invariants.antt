use Rattle.std.proofs.Common.{◌≡◌, ◌++◌, drop}
use Rattle.std.specs.List.{flat_map}
use Rattle.host_sockets.specs.TcpSocket.{ends_of}
use Rattle.host_sockets.specs.Sockets.{SocketsRecord, tcp_ends}
use Rattle.host_sockets.specs.StandsFor.{Stand}
use Rattle.host_sockets.proofs.sockets.Sockets.tcp_ends.Given as goal

-- what was gathered, and then what those behind have, is all
abbrev pub invariant-loop-sock : goal.invariant-loop-sock
invariant-loop-sock l = (t : SocketsRecord) → Stand l.self t → l.ends.items ++ flat_map (ends_of) (drop l.sock-index t.tcp) ≡ tcp_ends t
