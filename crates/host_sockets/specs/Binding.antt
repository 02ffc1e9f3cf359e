-- bind(2) and listen(2) on TCP sockets
use Rattle.std.specs.Prelude.{ℕ, ℤ, Bool, false, not, slice_get, Option, Some, None, is_some, Result, Ok}
use Rattle.sim_base.specs.declared.address.Ip.{Ip}
use Rattle.sim_base.specs.declared.address.Addr.{Addr}
use Rattle.sim_base.specs.declared.errno.Errno.TheVariants.{Einval, Eaddrinuse, Eaddrnotavail}
use Rattle.sim_base.specs.Addresses.{any, is_local, is_taken, with_port, at_free_port}
use Rattle.sim_base.specs.Refusals.{◌>>=◌, ◌>>◌, refuse_if, or_refuse}
use Rattle.sock_udp.specs.Socket.{or_else}
use Rattle.sock_tcp.specs.listener.Listen.{Listen, queue_limit, fresh_listen}
use Rattle.host_wants.specs.declared.error.Refusal.{Refusal}
use Rattle.host_wants.specs.declared.error.Refusal.TheVariants.{Errno}
use Rattle.host_sockets.specs.TcpSocket.{TcpSocket, with_bound}
use Rattle.host_sockets.specs.Sockets.{SocketsRecord, tcp_at, changes_at, bound_ends, tcp_ends}

-- whether the socket with a number is bound
abbrev pub is_bound_in : Option TcpSocket → Bool
is_bound_in None = false
is_bound_in (Some s) = is_some s.bound

abbrev pub tcp_bound : ℕ → SocketsRecord → Bool
tcp_bound k t = is_bound_in (slice_get t.tcp k)

-- what refuses before ports are looked at
abbrev pub bind_begins : Ip → Addr → TcpSocket → Result (Unit {0}) Refusal
bind_begins own at s = do
  refuse_if (is_some s.bound) (Errno Einval)
  refuse_if (not (is_local own at.ip)) (Errno Eaddrnotavail)

abbrev pub bind_begun : ℕ → Addr → SocketsRecord → Result (Unit {0}) Refusal
bind_begun k at t = do
  s ← tcp_at k t
  bind_begins t.own at s

-- where it is bound that asks for an end: for port 0 at the least port from 10000 up that no socket or record has. Sockets that
-- are bound alone stand in its way
abbrev pub bind_asked : ℕ → Addr → SocketsRecord → Result Addr Refusal
bind_asked k at t = do
  bind_begun k at t
  end ← or_refuse (with_port (tcp_ends t) at) (Errno Eaddrnotavail)
  refuse_if (is_taken (bound_ends t) end) (Errno Eaddrinuse)
  Ok end

-- bind(2)
unfoldable pub binds_tcp : ℕ → Addr → SocketsRecord → Result (Unit {0} × SocketsRecord) Refusal
binds_tcp k at t = do
  end ← bind_asked k at t
  Ok (tt, changes_at k (with_bound end) t)

-- an unbound socket that needs an end is bound to 0.0.0.0 and the least free port
abbrev pub end_to_use : SocketsRecord → TcpSocket → Result Addr Refusal
end_to_use t s = or_refuse (or_else s.bound (at_free_port (tcp_ends t) any)) (Errno Eaddrnotavail)

abbrev pub bound_to_use : ℕ → SocketsRecord → Result Addr Refusal
bound_to_use k t = do
  s ← tcp_at k t
  end_to_use t s

-- listening again changes how many records the queue holds
abbrev pub listen_to : Addr → ℤ → Option Listen → Listen
listen_to at backlog None = fresh_listen at backlog
listen_to at backlog (Some l) = record l { limit = queue_limit backlog }

abbrev pub listening : Addr → ℤ → TcpSocket → TcpSocket
listening at backlog s = record s { bound = Some at; listen = Some (listen_to at backlog s.listen) }

-- a socket that is connected or connecting has a record
abbrev pub listen_begun : ℕ → SocketsRecord → Result (Unit {0}) Refusal
listen_begun k t = do
  s ← tcp_at k t
  refuse_if (is_some s.tcb) (Errno Einval)

abbrev pub listen_asked : ℕ → SocketsRecord → Result Addr Refusal
listen_asked k t = do
  listen_begun k t
  bound_to_use k t

-- listen(2)
unfoldable pub listens_tcp : ℕ → ℤ → SocketsRecord → Result (Unit {0} × SocketsRecord) Refusal
listens_tcp k backlog t = do
  at ← listen_asked k t
  Ok (tt, changes_at k (listening at backlog) t)
