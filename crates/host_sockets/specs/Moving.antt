-- send(2), recv(2) and shutdown(2) on TCP sockets (RFC 9293, sections 3.10.2 to 3.10.4)
use Rattle.std.specs.Prelude.{ℕ, ◌==◌, Bool, not, ◌&&◌, ◌||◌, List, [], length, nat_lt, Option, Some, None, is_none, Result, Ok}
use Rattle.sim_base.specs.declared.address.Ip.{Ip}
use Rattle.sim_base.specs.declared.address.Addr.{Addr}
use Rattle.sim_base.specs.declared.errno.Errno.TheVariants.{Enotconn}
use Rattle.sim_base.specs.declared.time.Time.{Time}
use Rattle.sim_base.specs.Refusals.{◌>>=◌, ◌>>◌, refuse_if, or_refuse}
use Rattle.sock_tcp.specs.declared.connection.effects.Shut.{Shut}
use Rattle.sock_tcp.specs.segment.State.{is_over}
use Rattle.sock_tcp.specs.segment.Control.{takes_bytes}
use Rattle.sock_tcp.specs.connection.Begin.{begin}
use Rattle.sock_tcp.specs.connection.Tcb.{Tcb, unread, changed}
use Rattle.sock_tcp.specs.connection.Process.{room, bytes_taken, writes, bytes_read, reads, flows, shuts}
use Rattle.host_wants.specs.declared.error.Refusal.{Refusal}
use Rattle.host_wants.specs.declared.error.Refusal.TheVariants as refusal
use Rattle.host_sockets.specs.declared.reply.Reply.{Reply}
use Rattle.host_sockets.specs.declared.reply.Reply.TheVariants.{Done, Failed}
use Rattle.host_wants.specs.Refusals.{stop_kept, waits_if, broken_pipe}
use Rattle.host_wants.specs.Wanted.{Wanted}
use Rattle.host_sockets.specs.TcpSocket.{TcpSocket, connected, kept_error}
use Rattle.host_sockets.specs.Sockets.{SocketsRecord, tcp_at, tcb_at}
use Rattle.host_sockets.specs.TcpActs.{Acted, record_acts, acts_at}
use Rattle.host_sockets.specs.Connecting.{reach, taking}

-- an address that is given is tried, though the connection decides where bytes go
abbrev pub reach_given : List Ip → Option Addr → TcpSocket → Result (Unit {0}) Refusal
reach_given hosts None s = Ok tt
reach_given hosts (Some to) s = reach hosts to s

-- what refuses a send of so many bytes: the kept error, no connection, and the end of writing; where there is room for none of
-- them it waits
abbrev pub may_write : ℕ → Bool → Option Tcb → Result (Unit {0}) Refusal
may_write count quiet tcb = do
  stop_kept (kept_error tcb)
  r ← or_refuse (connected tcb) (refusal.Errno Enotconn)
  refuse_if (not (takes_bytes r.control)) (broken_pipe quiet)
  waits_if (nat_lt 0 count && (room r == 0))

abbrev pub may_send : List Ip → ℕ → Option Addr → Bool → TcpSocket → Result (Unit {0}) Refusal
may_send hosts count to quiet s = do
  reach_given hosts to s
  may_write count quiet s.tcb

abbrev pub send_asked : List Ip → ℕ → ℕ → Option Addr → Bool → SocketsRecord → Result (Unit {0}) Refusal
send_asked hosts k count to quiet t = do
  s ← tcp_at k t
  may_send hosts count to quiet s

-- how many bytes a record takes
abbrev pub count_taken : List ℕ → Option Tcb → ℕ
count_taken bytes None = 0
count_taken bytes (Some r) = length (bytes_taken bytes r)

abbrev pub takes_written : Time → ℕ → List ℕ → TcpSocket → Wanted → Acted
takes_written now k bytes s w = record_acts now k (λ r. flows (changed (writes bytes) (begin r))) s w

-- send(2), and sendto(2) where an address is given
abbrev pub sends_bytes : List Ip → Time → ℕ → List ℕ → Option Addr → Bool → SocketsRecord → Wanted → Result (ℕ × (SocketsRecord × Wanted)) Refusal
sends_bytes hosts now k bytes to quiet t w = do
  send_asked hosts k (length bytes) to quiet t
  Ok (count_taken bytes (tcb_at k t), acts_at k (takes_written now k bytes) t w)

unfoldable pub sends_taking : List Ip → Time → ℕ → List ℕ → Option Addr → Bool → SocketsRecord → Wanted → Result (Reply ℕ × (SocketsRecord × Wanted)) Refusal
sends_taking hosts now k bytes to quiet t w = taking now k (sends_bytes hosts now k bytes to quiet t w) t w

-- a read answers where bytes wait, where no more come, and where reading has ended
abbrev pub would_read : Tcb → Bool
would_read r = nat_lt 0 (unread r) || (r.control.fin_taken || (r.control.reading_ended || is_over r.control.state))

abbrev pub may_recv : Option Tcb → Result (Unit {0}) Refusal
may_recv tcb = do
  stop_kept (kept_error tcb)
  r ← or_refuse (connected tcb) (refusal.Errno Enotconn)
  waits_if (not (would_read r))

abbrev pub recv_asked : ℕ → SocketsRecord → Result (Unit {0}) Refusal
recv_asked k t = do
  s ← tcp_at k t
  may_recv s.tcb

abbrev pub bytes_given : ℕ → Option Tcb → List ℕ
bytes_given count None = []
bytes_given count (Some r) = bytes_read count r

abbrev pub gives_read : Time → ℕ → ℕ → TcpSocket → Wanted → Acted
gives_read now k count s w = record_acts now k (λ r. flows (changed (reads count) (begin r))) s w

-- recv(2) of so many bytes
abbrev pub receives_bytes : Time → ℕ → ℕ → SocketsRecord → Wanted → Result (List ℕ × (SocketsRecord × Wanted)) Refusal
receives_bytes now k count t w = do
  recv_asked k t
  Ok (bytes_given count (tcb_at k t), acts_at k (gives_read now k count) t w)

unfoldable pub receives_taking : Time → ℕ → ℕ → SocketsRecord → Wanted → Result (Reply (List ℕ) × (SocketsRecord × Wanted)) Refusal
receives_taking now k count t w = taking now k (receives_bytes now k count t w) t w

-- how many bytes a send took, and how many a receive gives
abbrev pub count_of : Reply ℕ → ℕ
count_of (Done count) = count
count_of (Failed errno) = 0

abbrev pub size_of : Reply (List ℕ) → ℕ
size_of (Done bytes) = length bytes
size_of (Failed errno) = 0

-- shutdown(2)
abbrev pub may_shut : ℕ → SocketsRecord → Result (Unit {0}) Refusal
may_shut k t = do
  s ← tcp_at k t
  refuse_if (is_none (connected s.tcb)) (refusal.Errno Enotconn)

unfoldable pub shuts_tcp : Time → ℕ → Shut → SocketsRecord → Wanted → Result (Unit {0} × (SocketsRecord × Wanted)) Refusal
shuts_tcp now k how t w = do
  may_shut k t
  Ok (tt, acts_at k (record_acts now k (λ r. shuts how (begin r))) t w)
