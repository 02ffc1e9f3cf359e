-- the resets of records that a closed listener gives up (RFC 9293, section 3.10.4)
use Rattle.std.specs.Prelude.{List, [], ◌∷◌, ◌++◌, if◌then◌else◌}
use Rattle.sim_base.specs.declared.packet.Packet.{Packet}
use Rattle.sim_base.specs.Packet.{rst_flag}
use Rattle.sock_tcp.specs.segment.Number.{wire}
use Rattle.sock_tcp.specs.segment.State.{is_over}
use Rattle.sock_tcp.specs.segment.Control.{without_ack}
use Rattle.sock_tcp.specs.connection.Tcb.{Tcb}

-- a record is reset unless it is over
abbrev pub reset_of : Tcb → List Packet
reset_of r =
    if is_over r.control.state then [] else without_ack r.control rst_flag (wire r.iss r.nxt) ∷ []

abbrev pub resets_of : List Tcb → List Packet
resets_of [] = []
resets_of (r ∷ records) = reset_of r ++ resets_of records
