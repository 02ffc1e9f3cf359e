-- the two ends by which a live record is found
use Rattle.std.specs.Prelude.{Bool, ◌&&◌, Option, Some, None, if◌then◌else◌}
use Rattle.sim_base.specs.Addresses.{is_same}
use Rattle.sock_tcp.specs.declared.segment.control.Control.{Control}
use Rattle.sock_tcp.specs.segment.State.{is_over}
use Rattle.sock_tcp.specs.connection.Tcb.{Tcb}
use Rattle.host_sockets.specs.declared.tables.Ends.{Ends}
use Rattle.host_sockets.specs.TcpSocket.{TcpSocket}

abbrev pub same_ends : Ends → Ends → Bool
same_ends a b = is_same a.own b.own && is_same a.other b.other

abbrev pub ends_in : Control → Option Ends
ends_in c = if is_over c.state then None else Some (record { own = c.local; other = c.peer })

abbrev pub live_in : Option Tcb → Option Ends
live_in None = None
live_in (Some r) = ends_in r.control

abbrev pub live_ends : TcpSocket → Option Ends
live_ends s = live_in s.tcb
