-- the record of two ends
use Rattle.std.specs.Prelude.{ℕ, Bool, true, false, List, not, ◌&&◌}
use Rattle.std.specs.List.{position_or_len}
use Rattle.sim_base.specs.Addresses.{is_same}
use Rattle.sim_base.specs.declared.address.Addr.{Addr}
use Rattle.sim_base.specs.declared.packet.Load.{Load}
use Rattle.sim_base.specs.declared.packet.Load.TheVariants.{Udp, Tcp}
use Rattle.sim_base.specs.declared.packet.Packet.{Packet}
use Rattle.sock_tcp.specs.declared.segment.control.Control.{Control}
use Rattle.sock_tcp.specs.segment.State.{is_over}
use Rattle.sock_tcp.specs.connection.Tcb.{Tcb}

-- a record is found by both ends, while it isn't over
abbrev pub is_pair : Addr → Addr → Control → Bool
is_pair own other c = not (is_over c.state) && (is_same c.local own && is_same c.peer other)

abbrev pub place_in : Addr → Addr → List Tcb → ℕ
place_in own other records = position_or_len (λ (r : Tcb). is_pair own other r.control) records

-- whether a packet is a segment of the record's two ends
abbrev pub is_segment : Load → Bool
is_segment (Udp text) = false
is_segment (Tcp flags seq ack window text) = true

abbrev pub takes : Packet → Control → Bool
takes p c = is_segment p.load && is_pair p.to p.from c
