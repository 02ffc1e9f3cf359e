-- sockets whose ends fit their types, and whose texts are bytes
use Rattle.std.specs.Prelude.{◌<◌, ◌^◌, Option, IfSome}
use Rattle.std.specs.List.{AllByRecursion}
use Rattle.sim_base.specs.declared.address.Addr.{Addr}
use Rattle.sim_base.specs.declared.address.Ip.{Ip}
use Rattle.pcap_text.specs.Packets.{FitsAddr}
use Rattle.sock_udp.specs.declared.datagram.Datagram.{Datagram}
use Rattle.sock_udp.specs.Socket.{UdpState}
use Rattle.sock_tcp.specs.connection.Tcb.{Tcb}
use Rattle.sock_tcp.specs.listener.Listen.{Listen}
use Rattle.host_sockets.specs.TcpSocket.{TcpSocket}
use Rattle.host_sockets.specs.Sockets.{SocketsRecord}
use Rattle.run_fits.specs.Bytes.{AreBytes}

abbrev pub FitsIp : Ip → Type 0
FitsIp ip = ip.bits < 2 ^ 32

abbrev pub MayFit : Option Addr → Type 0
MayFit at = IfSome at FitsAddr

-- a record of a connection: its two ends, and all that was written and received
abbrev pub TcbFits : Tcb → Type 0
TcbFits r = FitsAddr r.control.local × FitsAddr r.control.peer × AreBytes r.written × AreBytes r.received

-- a listener: its end, and the records that it keeps
abbrev pub ListenFits : Listen → Type 0
ListenFits l = FitsAddr l.local × AllByRecursion TcbFits l.records

-- a TCP socket: what it is bound to, its record and its listener
abbrev pub TcpFits : TcpSocket → Type 0
TcpFits s = MayFit s.bound × IfSome s.tcb TcbFits × IfSome s.listen ListenFits

-- a UDP socket: its two ends, and the datagrams that wait
abbrev pub DatagramFits : Datagram → Type 0
DatagramFits datagram = AreBytes datagram.bytes

abbrev pub UdpFits : UdpState → Type 0
UdpFits u = MayFit u.local × MayFit u.peer × AllByRecursion DatagramFits u.waiting

abbrev pub SlotFits : Option UdpState → Type 0
SlotFits slot = IfSome slot UdpFits

-- the sockets of a host, and its address
abbrev pub SocketsFit : SocketsRecord → Type 0
SocketsFit t = FitsIp t.own × AllByRecursion SlotFits t.udp × AllByRecursion TcpFits t.tcp
