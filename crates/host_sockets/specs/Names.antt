-- getsockname(2), getpeername(2) and SO_ERROR of getsockopt(2)
use Rattle.std.specs.Prelude.{ℕ, Option, Some, None, Result, Ok, Err}
use Rattle.sim_base.specs.declared.address.Addr.{Addr}
use Rattle.sim_base.specs.declared.errno.Errno.{Errno}
use Rattle.sim_base.specs.declared.errno.Errno.TheVariants.{Enotconn}
use Rattle.sim_base.specs.declared.time.Time.{Time}
use Rattle.sim_base.specs.Refusals.{◌>>=◌}
use Rattle.sock_tcp.specs.connection.Tcb.{Tcb}
use Rattle.host_wants.specs.declared.error.Refusal.{Refusal}
use Rattle.host_wants.specs.declared.error.Refusal.TheVariants as refusal
use Rattle.host_wants.specs.Wanted.{Wanted}
use Rattle.udp_slots.specs.Slots.{end_or_none, udp_name_in, udp_peer_in}
use Rattle.host_sockets.specs.TcpSocket.{kept_error}
use Rattle.host_sockets.specs.Sockets.{SocketsRecord, tcp_at}
use Rattle.host_sockets.specs.TcpActs.{acts_at}
use Rattle.host_sockets.specs.Connecting.{error_takes}
use Rattle.host_sockets.specs.Udp.{udp_in}

-- the own end of a record is the socket's, else what it is bound to
abbrev pub name_in : Option Tcb → Option Addr → Addr
name_in None bound = end_or_none bound
name_in (Some r) bound = r.control.local

abbrev pub peer_in : Option Tcb → Result Addr Refusal
peer_in None = Err (refusal.Errno Enotconn)
peer_in (Some r) = Ok r.control.peer

-- getsockname(2)
abbrev pub tcp_name : ℕ → SocketsRecord → Result Addr Refusal
tcp_name k t = do
  s ← tcp_at k t
  Ok (name_in s.tcb s.bound)

abbrev pub udp_name : ℕ → SocketsRecord → Result Addr Refusal
udp_name k t = udp_name_in (udp_in k t)

-- getpeername(2), also while the socket connects
abbrev pub tcp_peer : ℕ → SocketsRecord → Result Addr Refusal
tcp_peer k t = do
  s ← tcp_at k t
  peer_in s.tcb

abbrev pub udp_peer : ℕ → SocketsRecord → Result Addr Refusal
udp_peer k t = udp_peer_in (udp_in k t)

abbrev pub error_asked : ℕ → SocketsRecord → Result (Option Errno) Refusal
error_asked k t = do
  s ← tcp_at k t
  Ok (kept_error s.tcb)

-- SO_ERROR: the kept error, which is taken
unfoldable pub takes_error : Time → ℕ → SocketsRecord → Wanted → Result (Option Errno × (SocketsRecord × Wanted)) Refusal
takes_error now k t w = do
  error ← error_asked k t
  Ok (error, acts_at k (error_takes now k) t w)
