use Rattle.std.proofs.Common.{List}
use Rattle.host_sockets.specs.TcpSocket.{TcpSocket}
use Rattle.host_sockets.specs.inside.Lookup.{is_sought}
use Rattle.host_sockets.specs.StandsFor.{AllStand}
use Rattle.host_sockets.proofs.Places.{PassedBy}
use Rattle.host_sockets.proofs.slots.place_in.Given as goal

-- none of those that were looked at is sought
abbrev pub invariant-loop-place : goal.invariant-loop-place
invariant-loop-place l = (sockets : List TcpSocket) → AllStand l.socks sockets → PassedBy (is_sought l.sought) sockets l.place
