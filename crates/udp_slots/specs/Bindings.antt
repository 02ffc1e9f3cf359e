-- what the table of UDP sockets has of each
use Rattle.std.specs.Prelude.{List, Option, Some, None, map}
use Rattle.sock_udp.specs.Socket.{UdpState}
use Rattle.sock_udp.specs.declared.ends.UdpEnds.{UdpEnds}

abbrev pub ends_of_slot : Option UdpState → Option UdpEnds
ends_of_slot None = None
ends_of_slot (Some u) = Some (record { local = u.local; peer = u.peer })

abbrev pub ends_of_slots : List (Option UdpState) → List (Option UdpEnds)
ends_of_slots slots = map ends_of_slot slots
