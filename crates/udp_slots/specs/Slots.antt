-- the UDP socket in a place, while it isn't closed: what calls answer of it, and a datagram that arrives there
use Rattle.std.specs.Prelude.{ℕ, Bool, not, ◌||◌, nat_lt, List, [], ◌∷◌, length, take, Option, Some, None, is_some, if◌then◌else◌, Result, Ok, Err}
use Rattle.sim_base.specs.declared.act.Act.{Act}
use Rattle.sim_base.specs.declared.act.Act.TheVariants.{Recv, SockFull, NoPort}
use Rattle.sim_base.specs.declared.address.Addr.{Addr}
use Rattle.sim_base.specs.declared.errno.Errno.TheVariants.{Ebadf, Emsgsize, Edestaddrreq, Enotconn}
use Rattle.sim_base.specs.Addresses.{any, at_port}
use Rattle.sim_base.specs.Packet.{max_datagram}
use Rattle.sim_base.specs.Refusals.{refuse_if, or_refuse, ◌>>=◌, ◌>>◌}
use Rattle.sock_udp.specs.declared.datagram.Datagram.{Datagram}
use Rattle.sock_udp.specs.Socket.{UdpState, arrive, ready}
use Rattle.host_wants.specs.declared.error.Refusal.{Refusal}
use Rattle.host_wants.specs.declared.error.Refusal.TheVariants as refusal
use Rattle.host_wants.specs.Refusals.{waits_if}

-- what it is bound to
abbrev pub local_in : Option UdpState → Option Addr
local_in None = None
local_in (Some u) = u.local

-- an unbound socket is at 0.0.0.0:0
abbrev pub end_or_none : Option Addr → Addr
end_or_none None = at_port any 0
end_or_none (Some at) = at

-- getsockname(2)
abbrev pub udp_name_in : Option UdpState → Result Addr Refusal
udp_name_in socket = do
  u ← or_refuse socket (refusal.Errno Ebadf)
  Ok (end_or_none u.local)

-- getpeername(2)
abbrev pub udp_peer_in : Option UdpState → Result Addr Refusal
udp_peer_in socket = do
  u ← or_refuse socket (refusal.Errno Ebadf)
  or_refuse u.peer (refusal.Errno Enotconn)

-- an act that answers nothing: the socket after it, or what refuses it
abbrev pub only_state : Result UdpState Refusal → Result (Unit {0} × UdpState) Refusal
only_state (Ok u) = Ok (tt, u)
only_state (Err r) = Err r

-- what refuses a send of so many bytes before they and an address, if one is given, are read
abbrev pub fits_in : ℕ → Bool → Option UdpState → Result (Unit {0}) Refusal
fits_in count given socket = do
  u ← or_refuse socket (refusal.Errno Ebadf)
  refuse_if (nat_lt max_datagram count) (refusal.Errno Emsgsize)
  refuse_if (not (given || is_some u.peer)) (refusal.Errno Edestaddrreq)

-- a read waits until a datagram does
abbrev pub recv_asked_in : Option UdpState → Result (Unit {0}) Refusal
recv_asked_in socket = do
  u ← or_refuse socket (refusal.Errno Ebadf)
  waits_if (not (nat_lt 0 (length u.waiting)))

-- recv(2) of so many bytes: the oldest datagram, cut there; where none waits the call does
abbrev pub oldest_datagram : UdpState → List Datagram → ℕ → Result (Datagram × UdpState) Refusal
oldest_datagram u [] count = Err (refusal.Wait None)
oldest_datagram u (datagram ∷ behind) count =
    Ok (record { from = datagram.from; bytes = take count datagram.bytes }, record u { waiting = behind })

-- what it is ready for, by the bits of poll(2)
abbrev pub udp_ready_in : Option UdpState → ℕ
udp_ready_in None = 0
udp_ready_in (Some u) = ready u

-- a datagram is taken where there is room for it, else the socket is full
abbrev pub taken_act : Bool → Act
taken_act taken = if taken then Recv else SockFull

abbrev pub slot_arrives : Addr → List ℕ → Option UdpState → Act × Option UdpState
slot_arrives from bytes None = (NoPort, None)
slot_arrives from bytes (Some u) = (taken_act (arrive from bytes u).0, Some (arrive from bytes u).1)
