-- the arrival of a packet at a host's sockets (RFC 768; RFC 9293, section 3.10.7)
use Rattle.std.specs.Prelude.{ℕ, Bool, false, List, [], ◌∷◌, position, Option, Some, None, if◌then◌else◌}
use Rattle.sim_base.specs.declared.act.Act.{Act}
use Rattle.sim_base.specs.declared.act.Act.TheVariants.{Recv, NoPort}
use Rattle.sim_base.specs.declared.address.Addr.{Addr}
use Rattle.sim_base.specs.declared.packet.Load.{Load}
use Rattle.sim_base.specs.declared.packet.Load.TheVariants.{Udp, Tcp}
use Rattle.sim_base.specs.declared.packet.Packet.{Packet}
use Rattle.sim_base.specs.declared.time.Time.{Time}
use Rattle.sock_udp.specs.Socket.{UdpState, takes, arrive}
use Rattle.sock_tcp.specs.segment.Refusal.{refusal_of}
use Rattle.sock_tcp.specs.connection.Begin.{begin}
use Rattle.sock_tcp.specs.connection.Arrival.{takes_packet}
use Rattle.sock_tcp.specs.listener.Listen.{Listen, hears, takes_word, asks_in, load_header}
use Rattle.host_wants.specs.Wanted.{Wanted, sends, draws_word}
use Rattle.udp_slots.specs.Slots.{taken_act}
use Rattle.host_sockets.specs.TcpSocket.{TcpSocket, has_record, keeps_record, listens_to}
use Rattle.host_sockets.specs.Sockets.{SocketsRecord}
use Rattle.host_sockets.specs.TcpActs.{Acted, unacted, record_acts, acts_at}
use Rattle.host_sockets.specs.ListenerActs.{dropped, heard}
use Rattle.host_sockets.specs.Udp.{udp_in, with_udp}

-- a datagram goes to the socket that takes it, if one does
abbrev pub takes_in : Addr → Addr → Option UdpState → Bool
takes_in from to None = false
takes_in from to (Some u) = takes from to u

abbrev pub datagram_in : Addr → List ℕ → ℕ → Option UdpState → SocketsRecord → Act × SocketsRecord
datagram_in from bytes k None t = (NoPort, t)
datagram_in from bytes k (Some u) t = (taken_act (arrive from bytes u).0, with_udp k u (arrive from bytes u).1 t)

abbrev pub datagram_at : Addr → List ℕ → Option ℕ → SocketsRecord → Act × SocketsRecord
datagram_at from bytes None t = (NoPort, t)
datagram_at from bytes (Some k) t = datagram_in from bytes k (udp_in k t) t

unfoldable pub datagram_arrives : Addr → Addr → List ℕ → SocketsRecord → Act × SocketsRecord
datagram_arrives from to bytes t = datagram_at from bytes (position (takes_in from to) t.udp) t

-- a segment goes to the live record of its two ends, of a socket or of those that listeners keep; one that asks for a
-- connection else to the listener of its end; and what reaches none is refused (RFC 9293, section 3.10.7.1)
abbrev pub record_takes : Time → Packet → ℕ → TcpSocket → Wanted → Acted
record_takes now p k s w = record_acts now k (λ r. takes_packet p (begin r)) s w

-- a listener draws the first number of a record that it makes
abbrev pub word_drawn : Packet → Listen → Wanted → Wanted
word_drawn p l w = if takes_word p l then (draws_word w).1 else w

abbrev pub hears_in : Time → Packet → ℕ → Option Listen → TcpSocket → Wanted → Acted
hears_in now p k None s w = unacted s w
hears_in now p k (Some l) s w =
    heard now k p.to p.from (hears p (draws_word w).0 l) (dropped (takes_packet p) p.to p.from l) s (word_drawn p l w)

abbrev pub listener_hears : Time → Packet → ℕ → TcpSocket → Wanted → Acted
listener_hears now p k s w = hears_in now p k s.listen s w

-- who takes a segment: the record of a socket, a listener, or nobody
abbrev pub asked_listener : Packet → SocketsRecord → Option ℕ
asked_listener p t = if asks_in (load_header p.load) then position (listens_to p.to) t.tcp else None

abbrev pub or_place : Option ℕ → Option ℕ → Option ℕ
or_place None other = other
or_place (Some k) other = Some k

abbrev pub hearer : Packet → SocketsRecord → Option ℕ
hearer p t = or_place (position (keeps_record p.to p.from) t.tcp) (asked_listener p t)

abbrev pub refusal_sent : Option Packet → Wanted → Wanted
refusal_sent None w = w
refusal_sent (Some p) w = sends (p ∷ []) w

abbrev pub heard_at : Time → Packet → Option ℕ → SocketsRecord → Wanted → Act × (SocketsRecord × Wanted)
heard_at now p None t w = (NoPort, (t, refusal_sent (refusal_of p) w))
heard_at now p (Some k) t w = (Recv, acts_at k (listener_hears now p k) t w)

abbrev pub segment_at : Time → Packet → Option ℕ → SocketsRecord → Wanted → Act × (SocketsRecord × Wanted)
segment_at now p None t w = heard_at now p (hearer p t) t w
segment_at now p (Some k) t w = (Recv, acts_at k (record_takes now p k) t w)

unfoldable pub segment_arrives : Time → Packet → SocketsRecord → Wanted → Act × (SocketsRecord × Wanted)
segment_arrives now p t w = segment_at now p (position (has_record p.to p.from) t.tcp) t w

abbrev pub with_wanted : Wanted → Act × SocketsRecord → Act × (SocketsRecord × Wanted)
with_wanted w (act, t) = (act, (t, w))

abbrev pub arrives_by : Load → Time → Packet → SocketsRecord → Wanted → Act × (SocketsRecord × Wanted)
arrives_by (Udp bytes) now p t w = with_wanted w (datagram_arrives p.from p.to bytes t)
arrives_by (Tcp flags seq ack window text) now p t w = segment_arrives now p t w

-- what the packet log tells of it, and what stands afterwards
abbrev pub arrives : Time → Packet → SocketsRecord → Wanted → Act × (SocketsRecord × Wanted)
arrives now p t w = arrives_by p.load now p t w
