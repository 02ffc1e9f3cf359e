-- all records of a host: those of its sockets, those that its listeners keep, and those that were let go
use Rattle.std.specs.Prelude.{List, [], ◌∷◌, ◌++◌, flat_map, Option, Some, None}
use Rattle.sock_tcp.specs.connection.Tcb.{Tcb}
use Rattle.sock_tcp.specs.listener.Listen.{Listen}
use Rattle.host_sockets.specs.TcpSocket.{TcpSocket}
use Rattle.host_sockets.specs.Sockets.{SocketsRecord}

-- a socket's own record, and those that its listener keeps
abbrev pub own_record : Option Tcb → List Tcb
own_record None = []
own_record (Some r) = r ∷ []

abbrev pub kept_records : Option Listen → List Tcb
kept_records None = []
kept_records (Some l) = l.records

abbrev pub records_at : TcpSocket → List Tcb
records_at s = own_record s.tcb ++ kept_records s.listen

-- of all sockets of a host, those let go among them
abbrev pub records_of : SocketsRecord → List Tcb
records_of t = flat_map records_at t.tcp ++ t.gone
