-- what may happen at a host's sockets, and what they are then
use Rattle.std.specs.Prelude.{◌≡◌, ◌⊎◌, ℕ, true, List, [], ◌∷◌, ◌++◌, Contains, slice_get, Option, Some, None, Ok}
use Rattle.sim_base.specs.Addresses.{is_local}
use Rattle.sim_base.specs.declared.address.Ip.{Ip}
use Rattle.sim_base.specs.declared.address.Addr.{Addr}
use Rattle.sim_base.specs.declared.packet.Packet.{Packet}
use Rattle.sim_base.specs.declared.time.Time.{Time}
use Rattle.sock_tcp.specs.connection.Tcb.{Tcb}
use Rattle.sock_tcp.specs.listener.Listen.{Listen}
use Rattle.host_wants.specs.Wanted.{Wanted}
use Rattle.host_sockets.specs.TcpSocket.{TcpSocket}
use Rattle.host_sockets.specs.Sockets.{SocketsRecord}
use Rattle.host_sockets.specs.Udp.{sends_udp}
use Rattle.tcp_streams.specs.Exchange.{IsVoid}
use Rattle.socket_laws.specs.Histories.{SocketsAct, sockets_acted, sockets_after}
use Rattle.socket_laws.specs.Histories.SocketsAct.{make_udp, bind_udp, connect_udp, send_udp, recv_udp, close_udp, make_tcp, bind_tcp, listen_tcp, accept_tcp, connect_tcp, connect_again, send_tcp, recv_tcp, shut_tcp, take_error, close_tcp, arrival, alarm, elsewhere}
use Rattle.socket_streams.specs.Records.{packets_of}

-- a packet is on its way, or tells nothing of a stream
abbrev pub MayFly : List Packet → Packet → Type 0
MayFly flying p = Contains flying p ⊎ IsVoid p.load

-- what arrives is given; and what is wanted elsewhere is on its way already, or tells nothing of a stream
abbrev pub MayDo : List Packet → List Packet → SocketsAct → Type 0
MayDo given flying (arrival p) = Contains given p
MayDo given flying (elsewhere w) = (p : Packet) → Contains (packets_of w) p → MayFly flying p
MayDo given flying make_udp = Unit {0}
MayDo given flying (bind_udp k at) = Unit {0}
MayDo given flying (connect_udp k to) = Unit {0}
MayDo given flying (send_udp k bytes to) = Unit {0}
MayDo given flying (recv_udp k count) = Unit {0}
MayDo given flying (close_udp k) = Unit {0}
MayDo given flying make_tcp = Unit {0}
MayDo given flying (bind_tcp k at) = Unit {0}
MayDo given flying (listen_tcp k count) = Unit {0}
MayDo given flying (accept_tcp k) = Unit {0}
MayDo given flying (connect_tcp k to) = Unit {0}
MayDo given flying (connect_again k) = Unit {0}
MayDo given flying (send_tcp k bytes to quiet) = Unit {0}
MayDo given flying (recv_tcp k count) = Unit {0}
MayDo given flying (shut_tcp k how) = Unit {0}
MayDo given flying (take_error k) = Unit {0}
MayDo given flying (close_tcp k) = Unit {0}
MayDo given flying (alarm k serial) = Unit {0}

-- acts, of which what arrives is on its way by then
abbrev pub MayAllFreely : List Ip → List Packet → List (Time × SocketsAct) → SocketsRecord → Wanted → Type 0
MayAllFreely hosts flying [] t w = Unit {0}
MayAllFreely hosts flying ((now, act) ∷ acts) t w =
    MayDo (flying ++ packets_of w) (flying ++ packets_of w) act
    × MayAllFreely hosts flying acts (sockets_acted hosts now act t w).0 (sockets_acted hosts now act t w).1

-- and acts of which it was so before all of them
abbrev pub MayAll : List Ip → List Packet → List (Time × SocketsAct) → SocketsRecord → Wanted → Type 0
MayAll hosts flying [] t w = Unit {0}
MayAll hosts flying ((now, act) ∷ acts) t w =
    MayDo flying (flying ++ packets_of w) act
    × MayAll hosts flying acts (sockets_acted hosts now act t w).0 (sockets_acted hosts now act t w).1

-- a packet that a UDP socket of the host sent, and these are the sockets that the call left
pub record HasSent (hosts : List Ip) (t : SocketsRecord) (p : Packet) : Type 0 where
  pub number : ℕ
  pub bytes : List ℕ
  pub to : Option Addr
  pub before : SocketsRecord
  pub sent : sends_udp hosts number bytes to before ≡ Ok (p, t)

-- what is wanted elsewhere was wanted before, or is such a packet
abbrev pub IsTold : List Ip → SocketsRecord → Wanted → SocketsAct → Type 0
IsTold hosts t w (elsewhere after) = (p : Packet) → Contains (packets_of after) p → Contains (packets_of w) p ⊎ HasSent hosts t p
IsTold hosts t w _ = Unit {0}

abbrev pub AreTold : List Ip → List (Time × SocketsAct) → SocketsRecord → Wanted → Type 0
AreTold hosts [] t w = Unit {0}
AreTold hosts ((now, act) ∷ acts) t w =
    IsTold hosts t w act × AreTold hosts acts (sockets_acted hosts now act t w).0 (sockets_acted hosts now act t w).1

-- such acts lead from one state of a host's sockets to another
pub record MovesFreely (hosts : List Ip) (flying : List Packet) (x y : SocketsRecord × Wanted) : Type 0 where
  pub acts : List (Time × SocketsAct)
  pub may : MayAllFreely hosts flying acts x.0 x.1
  pub after : sockets_after hosts acts x ≡ y

pub record Moves (hosts : List Ip) (flying : List Packet) (x y : SocketsRecord × Wanted) : Type 0 where
  pub acts : List (Time × SocketsAct)
  pub may : MayAll hosts flying acts x.0 x.1
  pub told : AreTold hosts acts x.0 x.1
  pub after : sockets_after hosts acts x ≡ y

-- a socket that listens has no record of its own, and what a socket is bound to is an address of the host
pub record Plain (own : Ip) (tcb : Option Tcb) (listen : Option Listen) (bound : Option Addr) : Type 0 where
  pub listens : (l : Listen) → listen ≡ Some l → tcb ≡ None
  pub here : (at : Addr) → bound ≡ Some at → is_local own at.ip ≡ true

abbrev pub IsPlain : Ip → TcpSocket → Type 0
IsPlain own s = Plain own s.tcb s.listen s.bound

-- so are all sockets of a host with this address
pub record ArePlain (own : Ip) (t : SocketsRecord) : Type 0 where
  pub host : t.own ≡ own
  pub sockets : (k : ℕ) (s : TcpSocket) → slice_get t.tcp k ≡ Some s → IsPlain own s
