-- how many live records have a pair of ends (RFC 9293, section 3.3.1)
use Rattle.std.specs.Prelude.{ℕ, ◌+◌, sum_by, Option, Some, None}
use Rattle.sim_base.specs.declared.address.Addr.{Addr}
use Rattle.sock_tcp.specs.connection.Pairs.{is_pair}
use Rattle.sock_tcp.specs.connection.Tcb.{Tcb}
use Rattle.sock_tcp.specs.segment.Refusal.{one_if}
use Rattle.sock_tcp.specs.listener.Listen.{Listen}
use Rattle.host_sockets.specs.TcpSocket.{TcpSocket}
use Rattle.host_sockets.specs.Sockets.{SocketsRecord}

-- one, if the record isn't over and has them
abbrev pub live : Addr → Addr → Tcb → ℕ
live own other r = one_if (is_pair own other r.control)

abbrev pub live_in : Addr → Addr → Option Tcb → ℕ
live_in own other None = 0
live_in own other (Some r) = live own other r

-- those that a listener keeps
abbrev pub kept_in : Addr → Addr → Option Listen → ℕ
kept_in own other None = 0
kept_in own other (Some l) = sum_by (live own other) l.records

abbrev pub live_of : Addr → Addr → TcpSocket → ℕ
live_of own other s = live_in own other s.tcb + kept_in own other s.listen

-- of all sockets of a host, and their listeners
abbrev pub live_records : Addr → Addr → SocketsRecord → ℕ
live_records own other t = sum_by (live_of own other) t.tcp
