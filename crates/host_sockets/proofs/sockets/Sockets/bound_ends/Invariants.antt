use Rattle.std.proofs.Common.{◌≡◌, ◌++◌, drop}
use Rattle.std.specs.List.{flat_map}
use Rattle.host_sockets.specs.TcpSocket.{TcpSocket, bound_end}
use Rattle.host_sockets.specs.Sockets.{SocketsRecord, bound_ends}
use Rattle.host_sockets.specs.StandsFor.{Stand}
use Rattle.host_sockets.proofs.sockets.Sockets.bound_ends.Given as goal

-- what was gathered, and then what those behind have, is all
abbrev pub invariant-loop-sock : goal.invariant-loop-sock
invariant-loop-sock l = (t : SocketsRecord) → Stand l.self t → l.ends.items ++ flat_map (λ (s : TcpSocket). bound_end s.bound) (drop l.sock-index t.tcp) ≡ bound_ends t
