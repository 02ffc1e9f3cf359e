-- UDP sockets (RFC 768) and their calls: bind(2), connect(2), send(2), recv(2) and poll(2), in this project's own profile.
use Rattle.std.specs.Prelude.{◌≡◌, ℕ, ◌==◌, ◌+◌, Bool, true, false, not, ◌&&◌, ◌||◌, min, List, [], ◌∷◌, ◌++◌, length, take, drop, Option, Some, None, is_some, Result, Ok, Err, IsOk, if◌then◌else◌, nat_lt}
use Rattle.sim_base.specs.Addresses.{Surroundings, any, loopback, is_same_ip, is_same, is_local, is_reachable, is_taken, at_port, at_free_port, with_port, stays_inside, source_ip}
use Rattle.sim_base.specs.Packet.{max_datagram}
use Rattle.sim_base.specs.Poll.{pollin, pollout}
use Rattle.sim_base.specs.Refusals.{◌>>=◌, ◌>>◌, refuse_if, or_refuse}
use Rattle.sim_base.specs.declared.address.Addr.{Addr}
use Rattle.sim_base.specs.declared.address.Ip.{Ip}
use Rattle.sim_base.specs.declared.errno.Errno.{Errno}
use Rattle.sim_base.specs.declared.errno.Errno.TheVariants.{Eagain, Einval, Edestaddrreq, Emsgsize, Eaddrinuse, Eaddrnotavail, Enetunreach}
use Rattle.sim_base.specs.declared.packet.Load.TheVariants.{Udp}
use Rattle.sim_base.specs.declared.packet.Packet.{Packet}
use Rattle.sock_udp.specs.declared.datagram.Datagram.{Datagram}
use Rattle.sock_udp.specs.declared.datagram.Received.{Received}
use Rattle.sock_udp.specs.declared.error.UdpError.{UdpError}
use Rattle.sock_udp.specs.declared.error.UdpError.TheVariants as error

-- what a socket is bound to, what it is connected to, and the datagrams that wait in it, the oldest first
pub record UdpState : Type 0 where
  pub local : Option Addr
  pub peer : Option Addr
  pub waiting : List Datagram

abbrev pub new_socket : UdpState
new_socket = record { local = None; peer = None; waiting = [] }

-- how many datagrams may wait
abbrev pub limit : ℕ
limit = 64

-- the first of two addresses, if it is there, or else the other
abbrev pub or_else : Option Addr → Option Addr → Option Addr
or_else None other = other
or_else (Some at) other = Some at

-- bind(2): where a socket is bound that asks for an address
abbrev pub address_to_bind : Surroundings → Addr → UdpState → Result Addr Errno
address_to_bind around at socket = do
  refuse_if (is_some socket.local) Einval
  refuse_if (not (is_local around.own at.ip)) Eaddrnotavail
  bound ← or_refuse (with_port around.bound at) Eaddrnotavail
  refuse_if (is_taken around.bound bound) Eaddrinuse
  Ok bound

abbrev pub bind : Surroundings → Addr → UdpState → Result UdpState Errno
bind around at socket = do
  bound ← address_to_bind around at socket
  Ok (record socket { local = Some bound })

-- what the others' ends leave of an address that is asked for: its end, for port 0 at the least free port
abbrev pub end_left : List Addr → Addr → Result Addr Errno
end_left others at = do
  end ← or_refuse (with_port others at) Eaddrnotavail
  refuse_if (is_taken others end) Eaddrinuse
  Ok end

-- how a socket is bound at an address of which this is left
abbrev pub bound_at : Surroundings → Ip → Result Addr Errno → UdpState → Result UdpState Errno
bound_at around ip left socket = do
  bound ← do
    refuse_if (is_some socket.local) Einval
    refuse_if (not (is_local around.own ip)) Eaddrnotavail
    left
  Ok (record socket { local = Some bound })

-- where a socket may send to
abbrev pub reach : Surroundings → Addr → UdpState → Result (Unit {0}) Errno
reach around to socket = do
  refuse_if (not (is_reachable around.hosts to.ip)) Enetunreach
  refuse_if (stays_inside socket.local && not (is_same_ip to.ip loopback)) Einval

-- sending and connecting bind an unbound socket to 0.0.0.0 and the least free port
abbrev pub address_to_use : Surroundings → UdpState → Result Addr Errno
address_to_use around socket = or_refuse (or_else socket.local (at_free_port around.bound any)) Eaddrnotavail

abbrev pub address_to_connect : Surroundings → Addr → UdpState → Result Addr Errno
address_to_connect around to socket = do
  reach around to socket
  refuse_if (to.port == 0) Eaddrnotavail
  address_to_use around socket

-- connect(2)
abbrev pub connect : Surroundings → Addr → UdpState → Result UdpState Errno
connect around to socket = do
  bound ← address_to_connect around to socket
  Ok (record socket { local = Some bound; peer = Some to })

-- how a socket is connected that is or would be bound here
abbrev pub connected : Surroundings → Addr → UdpState → Option Addr → Result UdpState Errno
connected around to socket local = do
  bound ← do
    reach around to socket
    refuse_if (to.port == 0) Eaddrnotavail
    or_refuse local Eaddrnotavail
  Ok (record socket { local = Some bound; peer = Some to })

-- the two ends of a datagram that is sent
abbrev pub address_and_destination : Surroundings → ℕ → Option Addr → UdpState → Result (Addr × Addr) Errno
address_and_destination around size to socket = do
  refuse_if (nat_lt max_datagram size) Emsgsize
  destination ← or_refuse (or_else to socket.peer) Edestaddrreq
  reach around destination socket
  bound ← address_to_use around socket
  Ok (bound, destination)

abbrev pub packet_between : Surroundings → List ℕ → Addr → Addr → Packet
packet_between around bytes bound to = record { from = at_port (source_ip around.own bound.ip to.ip) bound.port; to = to; load = Udp bytes }

-- send(2), and sendto(2) where an address is given
abbrev pub send : Surroundings → List ℕ → Option Addr → UdpState → Result (Packet × UdpState) Errno
send around bytes to socket = do
  (bound, destination) ← address_and_destination around (length bytes) to socket
  Ok (packet_between around bytes bound destination, record socket { local = Some bound })

-- the same of a socket that is or would be bound here
abbrev pub ends_between : Surroundings → ℕ → Option Addr → UdpState → Option Addr → Result (Addr × Addr) Errno
ends_between around size to socket local = do
  refuse_if (nat_lt max_datagram size) Emsgsize
  destination ← or_refuse (or_else to socket.peer) Edestaddrreq
  reach around destination socket
  bound ← or_refuse local Eaddrnotavail
  Ok (bound, destination)

-- and what it sends
abbrev pub sent : Surroundings → List ℕ → Option Addr → UdpState → Option Addr → Result (Packet × UdpState) Errno
sent around bytes to socket local = do
  (bound, destination) ← ends_between around (length bytes) to socket local
  Ok (packet_between around bytes bound destination, record socket { local = Some bound })

-- what is wrong with a call that sends nothing: a refusal, or want of memory where nothing is refused
abbrev pub Fails : {A : Type 0} → Result A Errno → UdpError → Type 0
Fails defined (error.Errno errno) = defined ≡ Err errno
Fails defined error.NoMemory = IsOk defined

-- a datagram goes to the socket that has its port, whose address is 0.0.0.0 or the destination, and whose peer, if there
-- is one, is the sender
abbrev pub is_bound_for : Option Addr → Addr → Bool
is_bound_for None to = false
is_bound_for (Some at) to = (at.port == to.port) && (is_same_ip at.ip any || is_same_ip at.ip to.ip)

abbrev pub is_open_to : Option Addr → Addr → Bool
is_open_to None from = true
is_open_to (Some peer) from = is_same peer from

abbrev pub takes : Addr → Addr → UdpState → Bool
takes from to socket = is_bound_for socket.local to && is_open_to socket.peer from

-- a datagram arrives: it waits behind the others, or is dropped where as many wait as may
abbrev pub arrive : Addr → List ℕ → UdpState → Bool × UdpState
arrive from bytes socket =
    if nat_lt (length socket.waiting) limit
    then (true, record socket { waiting = socket.waiting ++ record { from = from; bytes = bytes } ∷ [] })
    else (false, socket)

-- recv(2): the oldest datagram goes into a buffer, cut at its end; what does not fit is lost
abbrev pub received_from : List ℕ → UdpState → List Datagram → Result (Received × List ℕ × UdpState) Errno
received_from into socket [] = Err Eagain
received_from into socket (datagram ∷ behind) =
    let count = min (length into) (length datagram.bytes) in
    Ok (record { bytes = count; from = datagram.from }, take count datagram.bytes ++ drop count into, record socket { waiting = behind })

abbrev pub recv : List ℕ → UdpState → Result (Received × List ℕ × UdpState) Errno
recv into socket = received_from into socket socket.waiting

-- poll(2): POLLIN where a datagram waits, and always POLLOUT
abbrev pub ready : UdpState → ℕ
ready socket = if nat_lt 0 (length socket.waiting) then pollin + pollout else pollout
