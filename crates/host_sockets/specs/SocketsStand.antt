-- what sockets of the code stand for, one and each of many
use Rattle.std.specs.Prelude.{◌≡◌, List, [], ◌∷◌, Option, Some, None}
use Rattle.sock_tcp.specs.declared.connection.conn.Conn.{Conn}
use Rattle.sock_tcp.specs.declared.listener.Listener.{Listener}
use Rattle.sock_tcp.specs.connection.StandsFor.{StandsFor}
use Rattle.sock_tcp.specs.connection.Tcb.{Tcb}
use Rattle.sock_tcp.specs.listener.Listen.{Listen}
use Rattle.sock_tcp.specs.listener.ListensFor.{ListensFor}
use Rattle.host_sockets.specs.declared.tcp_sock.TcpSock.{TcpSock}
use Rattle.host_sockets.specs.TcpSocket.{TcpSocket}

abbrev pub ConnStands : Option Conn → Option Tcb → Type 0
ConnStands None None = Unit {0}
ConnStands None (Some r) = ⊥
ConnStands (Some c) None = ⊥
ConnStands (Some c) (Some r) = StandsFor c r

abbrev pub ListenerStands : Option Listener → Option Listen → Type 0
ListenerStands None None = Unit {0}
ListenerStands None (Some l) = ⊥
ListenerStands (Some c) None = ⊥
ListenerStands (Some c) (Some l) = ListensFor c l

pub record SocketStands (c : TcpSock) (s : TcpSocket) : Type 0 where
  pub held : c.held ≡ s.held
  pub bound : c.bound ≡ s.bound
  pub conn : ConnStands c.conn s.tcb
  pub listener : ListenerStands c.listener s.listen
  pub serial : c.serial ≡ s.serial
  pub timers : c.timers.items ≡ s.timers

-- each socket stands for the one with its number
abbrev pub AllStand : List TcpSock → List TcpSocket → Type 0
AllStand [] [] = Unit {0}
AllStand [] (s ∷ sockets) = ⊥
AllStand (c ∷ socks) [] = ⊥
AllStand (c ∷ socks) (s ∷ sockets) = SocketStands c s × AllStand socks sockets
