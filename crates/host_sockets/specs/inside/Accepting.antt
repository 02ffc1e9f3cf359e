-- A connection that a listener gives away.
use Rattle.std.specs.Prelude.{ℕ, Option, Some, None}
use Rattle.sock_tcp.specs.declared.connection.conn.Conn.{Conn}
use Rattle.sock_tcp.specs.connection.StandsFor.{StandsFor}
use Rattle.sock_tcp.specs.connection.Tcb.{Tcb}
use Rattle.sock_tcp.specs.listener.Listen.{Listen}
use Rattle.host_sockets.specs.declared.sockets.Sockets.{Sockets}
use Rattle.host_sockets.specs.declared.tcp_sock.TcpSock.{TcpSock}
use Rattle.host_sockets.specs.TcpSocket.{TcpSocket}
use Rattle.host_sockets.specs.Sockets.{SocketsRecord, changes_at}
use Rattle.host_sockets.specs.StandsFor.{SocketStands, Stand}
use Rattle.host_sockets.specs.Accepting.{given_up}

-- what the code's socket gives: that connection, if there is one
abbrev pub TakesConn : Option (Tcb × Listen) → TcpSocket → Option Conn → TcpSock → Type 0
TakesConn None s None c = SocketStands c s
TakesConn None s (Some conn) c = ⊥
TakesConn (Some (r, rest)) s None c = ⊥
TakesConn (Some (r, rest)) s (Some conn) c = StandsFor conn r × SocketStands c (given_up r rest s)

-- and of the socket with a number
abbrev pub TakesAt : Option (Tcb × Listen) → ℕ → SocketsRecord → Option Conn → Sockets → Type 0
TakesAt None k t None c = Stand c t
TakesAt None k t (Some conn) c = ⊥
TakesAt (Some (r, rest)) k t None c = ⊥
TakesAt (Some (r, rest)) k t (Some conn) c = StandsFor conn r × Stand c (changes_at k (given_up r rest) t)
