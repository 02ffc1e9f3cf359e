-- the given ports that sockets have
use Rattle.std.specs.Prelude.{ℕ, ◌+◌, Option, Some, None}
use Rattle.sim_base.specs.declared.address.Addr.{Addr}
use Rattle.sock_tcp.specs.connection.Tcb.{Tcb}
use Rattle.number_sets.specs.Ports.{given_end, once}
use Rattle.host_sockets.specs.declared.given.Had.{Had}
use Rattle.host_sockets.specs.TcpSocket.{TcpSocket}

-- the own end of a record
abbrev pub own_end : Option Tcb → Option Addr
own_end None = None
own_end (Some r) = Some r.control.local

-- the given ports of the ends of a socket
abbrev pub had_of : TcpSocket → Had
had_of s = record { bound = given_end s.bound; own = given_end (own_end s.tcb) }

abbrev pub no_ports : Had
no_ports = record { bound = None; own = None }

-- how many of them are a number
abbrev pub times : ℕ → Had → ℕ
times n h = once h.bound n + once h.own n
