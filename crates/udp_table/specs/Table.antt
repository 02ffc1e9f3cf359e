-- the UDP sockets of a host as datagrams and ports see them: what each is bound and connected to
use Rattle.std.specs.Prelude.{Bool, false, ◌&&◌, List, [], ◌∷◌, Option, Some, None}
use Rattle.std.specs.List.{flat_map}
use Rattle.sim_base.specs.declared.address.Addr.{Addr}
use Rattle.sock_udp.specs.Socket.{is_bound_for, is_open_to}
use Rattle.sock_udp.specs.declared.ends.UdpEnds.{UdpEnds}

-- what the socket at a place is bound to, if there is one
abbrev pub local_in : Option UdpEnds → Option Addr
local_in None = None
local_in (Some ends) = ends.local

abbrev pub end_in : Option Addr → List Addr
end_in None = []
end_in (Some at) = at ∷ []

-- the ends that sockets are bound to
abbrev pub bound_ends : List (Option UdpEnds) → List Addr
bound_ends places = flat_map (λ place. end_in (local_in place)) places

-- whether the socket at a place takes a datagram from one end to another
abbrev pub takes_in : Addr → Addr → Option UdpEnds → Bool
takes_in from to None = false
takes_in from to (Some ends) = is_bound_for ends.local to && is_open_to ends.peer from
