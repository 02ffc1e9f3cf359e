-- what a UDP socket sends is a datagram
use Rattle.std.proofs.Common.{◌≡◌, ℕ, List, Option, Some, None, Result, Ok, Err, ap, subst}
use Rattle.sim_base.specs.Addresses.{Surroundings}
use Rattle.sim_base.specs.Refusals.{◌>>=◌}
use Rattle.sim_base.specs.declared.address.Ip.{Ip}
use Rattle.sim_base.specs.declared.address.Addr.{Addr}
use Rattle.sim_base.specs.declared.errno.Errno.{Errno}
use Rattle.sim_base.specs.declared.packet.Packet.{Packet}
use Rattle.sock_udp.specs.Socket.{UdpState, address_and_destination, packet_between, send}
use Rattle.host_wants.specs.declared.error.Refusal.{Refusal}
use Rattle.host_wants.specs.Refusals.{by_errno}
use Rattle.host_sockets.specs.Sockets.{SocketsRecord}
use Rattle.host_sockets.specs.Udp.{udp_in, udp_around, acted_udp, with_udp, sends_udp}
use Rattle.tcp_streams.specs.Exchange.{IsVoid}

packet_of : Packet → Result (Packet × SocketsRecord) Refusal → Packet
packet_of p (Ok (q, t)) = q
packet_of p (Err why) = p

abbrev sent_row : Surroundings → List ℕ → ℕ → UdpState → SocketsRecord → Result (Addr × Addr) Errno → Result (Packet × SocketsRecord) Refusal
sent_row around bytes k u t ends = do
  (answer, after) ← by_errno (ends >>= λ (bound, destination). Ok (packet_between around bytes bound destination, record u { local = Some bound }))
  Ok (answer, with_udp k u after t)

void_row : (around : Surroundings) (bytes : List ℕ) (k : ℕ) (u : UdpState) (t : SocketsRecord) (ends : Result (Addr × Addr) Errno) (b : Packet × SocketsRecord) → sent_row around bytes k u t ends ≡ Ok b → IsVoid b.0.load
unfolding packet_of
void_row around bytes k u t (Err errno) b e = cc
void_row around bytes k u t (Ok (bound, destination)) b e =
    let packet : packet_between around bytes bound destination ≡ b.0 = ap (packet_of b.0) e in
    subst (λ (q : Packet). IsVoid q.load) packet tt

void_slot : (hosts : List Ip) (k : ℕ) (bytes : List ℕ) (to : Option Addr) (t : SocketsRecord) (o : Option UdpState) (b : Packet × SocketsRecord) → acted_udp (λ u. by_errno (send (udp_around hosts t) bytes to u)) k o t ≡ Ok b → IsVoid b.0.load
void_slot hosts k bytes to t None b e = cc
void_slot hosts k bytes to t (Some u) b e =
    void_row (udp_around hosts t) bytes k u t (address_and_destination (udp_around hosts t) _ to u) b e

pub datagram_void : (hosts : List Ip) (k : ℕ) (bytes : List ℕ) (to : Option Addr) (t : SocketsRecord) (b : Packet × SocketsRecord) → sends_udp hosts k bytes to t ≡ Ok b → IsVoid b.0.load
unfolding sends_udp
datagram_void hosts k bytes to t b e = void_slot hosts k bytes to t (udp_in k t) b e
