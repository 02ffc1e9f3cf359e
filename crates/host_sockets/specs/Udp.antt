-- the calls on UDP sockets, beside those of a socket alone: which sockets it has around it
use Rattle.std.specs.Prelude.{ℕ, Bool, List, slice_get, slice_set, Option, Some, None, is_some, is_none, Result, Ok}
use Rattle.std.specs.List.{flat_map, position_or_len}
use Rattle.sim_base.specs.declared.address.Ip.{Ip}
use Rattle.sim_base.specs.declared.address.Addr.{Addr}
use Rattle.sim_base.specs.declared.errno.Errno.TheVariants.{Ebadf}
use Rattle.sim_base.specs.declared.packet.Packet.{Packet}
use Rattle.sim_base.specs.Addresses.{Surroundings}
use Rattle.sim_base.specs.Refusals.{or_refuse, ◌>>=◌}
use Rattle.host_fds.specs.Rises.{no_rises}
use Rattle.sock_udp.specs.declared.datagram.Datagram.{Datagram}
use Rattle.sock_udp.specs.Socket.{UdpState, new_socket, bind, connect, send}
use Rattle.host_wants.specs.declared.error.Refusal.{Refusal}
use Rattle.host_wants.specs.declared.error.Refusal.TheVariants as refusal
use Rattle.host_wants.specs.Refusals.{by_errno}
use Rattle.udp_slots.specs.Slots.{fits_in, local_in, oldest_datagram, only_state, recv_asked_in}
use Rattle.host_sockets.specs.TcpSocket.{bound_end}
use Rattle.host_sockets.specs.Rises.{udp_glance, moved_at}
use Rattle.host_sockets.specs.Sockets.{SocketsRecord, put_at}

-- the place that a UDP socket of a number has, while it isn't closed
abbrev pub socket_in : Option (Option UdpState) → Option UdpState
socket_in None = None
socket_in (Some place) = place

abbrev pub udp_in : ℕ → SocketsRecord → Option UdpState
udp_in k t = socket_in (slice_get t.udp k)

-- EVERY act on a socket ends so: it is put back, and its rises move on
abbrev pub with_udp : ℕ → UdpState → UdpState → SocketsRecord → SocketsRecord
with_udp k old new t = record t {
  udp = slice_set t.udp k (Some new);
  udp_risen = moved_at k (udp_glance old) (udp_glance new) t.udp_risen;
}

-- socket(2): the least free number is the new socket's
abbrev pub udp_place : SocketsRecord → ℕ
udp_place t = position_or_len is_none t.udp

-- that it is made is no rise
abbrev pub put_udp_at : ℕ → UdpState → SocketsRecord → SocketsRecord
put_udp_at k u t = record t { udp = put_at k (Some u) t.udp; udp_risen = put_at k no_rises t.udp_risen }

unfoldable pub new_udp : SocketsRecord → ℕ × SocketsRecord
new_udp t = (udp_place t, put_udp_at (udp_place t) new_socket t)

-- close(2): what waits in it is dropped
unfoldable pub closes_udp : ℕ → SocketsRecord → SocketsRecord
closes_udp k t = record t { udp = slice_set t.udp k None }

abbrev pub udp_end : Option UdpState → List Addr
udp_end socket = bound_end (local_in socket)

abbrev pub udp_ends : SocketsRecord → List Addr
udp_ends t = flat_map udp_end t.udp

abbrev pub udp_around : List Ip → SocketsRecord → Surroundings
udp_around hosts t = record { own = t.own; hosts = hosts; bound = udp_ends t }

-- EVERY act of a process on a UDP socket is this: a part of sock_udp, in the socket's place
abbrev pub acted_udp : {A : Type 0} → (UdpState → Result (A × UdpState) Refusal) → ℕ → Option UdpState → SocketsRecord → Result (A × SocketsRecord) Refusal
acted_udp act k socket t = do
  u ← or_refuse socket (refusal.Errno Ebadf)
  (answer, after) ← act u
  Ok (answer, with_udp k u after t)

abbrev pub udp_acts : {A : Type 0} → (UdpState → Result (A × UdpState) Refusal) → ℕ → SocketsRecord → Result (A × SocketsRecord) Refusal
udp_acts act k t = acted_udp act k (udp_in k t) t

-- bind(2)
unfoldable pub binds_udp : List Ip → ℕ → Addr → SocketsRecord → Result (Unit {0} × SocketsRecord) Refusal
binds_udp hosts k at t = udp_acts (λ u. only_state (by_errno (bind (udp_around hosts t) at u))) k t

-- connect(2)
unfoldable pub connects_udp : List Ip → ℕ → Addr → SocketsRecord → Result (Unit {0} × SocketsRecord) Refusal
connects_udp hosts k to t = udp_acts (λ u. only_state (by_errno (connect (udp_around hosts t) to u))) k t

-- send(2), and sendto(2) where an address is given
unfoldable pub sends_udp : List Ip → ℕ → List ℕ → Option Addr → SocketsRecord → Result (Packet × SocketsRecord) Refusal
sends_udp hosts k bytes to t = udp_acts (λ u. by_errno (send (udp_around hosts t) bytes to u)) k t

abbrev pub udp_fits : ℕ → ℕ → Bool → SocketsRecord → Result (Unit {0}) Refusal
udp_fits k count given t = fits_in count given (udp_in k t)

abbrev pub recv_udp_asked : ℕ → SocketsRecord → Result (Unit {0}) Refusal
recv_udp_asked k t = recv_asked_in (udp_in k t)

unfoldable pub receives_udp : ℕ → ℕ → SocketsRecord → Result (Datagram × SocketsRecord) Refusal
receives_udp k count t = udp_acts (λ u. oldest_datagram u u.waiting count) k t

-- whether the socket with a number is bound
abbrev pub udp_bound : ℕ → SocketsRecord → Bool
udp_bound k t = is_some (local_in (udp_in k t))
