-- accept(2)
use Rattle.std.specs.Prelude.{ℕ, true, slice_get, Option, Some, None, is_none, Result, Ok}
use Rattle.sim_base.specs.declared.errno.Errno.TheVariants.{Einval}
use Rattle.sim_base.specs.Refusals.{refuse_if, or_refuse, ◌>>=◌, ◌>>◌}
use Rattle.sock_tcp.specs.connection.Tcb.{Tcb}
use Rattle.sock_tcp.specs.listener.Listen.{Listen, accepts}
use Rattle.host_wants.specs.declared.error.Refusal.{Refusal}
use Rattle.host_wants.specs.declared.error.Refusal.TheVariants as refusal
use Rattle.host_sockets.specs.declared.reply.Accepted.{Accepted}
use Rattle.host_wants.specs.Refusals.{waits_if}
use Rattle.host_sockets.specs.TcpSocket.{TcpSocket, fresh, with_tcb}
use Rattle.host_sockets.specs.ListenerActs.{with_listen, with_timers, timers_kept}
use Rattle.host_sockets.specs.Sockets.{SocketsRecord, tcp_at, changes_at, tcp_place, put_tcp}

-- what refuses at once: a socket that doesn't listen
abbrev pub accept_asked : ℕ → SocketsRecord → Result (Unit {0}) Refusal
accept_asked k t = do
  s ← tcp_at k t
  refuse_if (is_none s.listen) (refusal.Errno Einval)

-- the oldest connection that became ESTABLISHED, and what its listener is without it
abbrev pub accepts_in : Option Listen → Option (Tcb × Listen)
accepts_in None = None
accepts_in (Some l) = accepts l

abbrev pub accepts_of : Option TcpSocket → Option (Tcb × Listen)
accepts_of None = None
accepts_of (Some s) = accepts_in s.listen

abbrev pub accepts_at : ℕ → SocketsRecord → Option (Tcb × Listen)
accepts_at k t = accepts_of (slice_get t.tcp k)

-- where none waits the call does
abbrev pub accept_ready : ℕ → SocketsRecord → Result (Unit {0}) Refusal
accept_ready k t = do
  accept_asked k t
  waits_if (is_none (accepts_at k t))

-- the listener keeps it no more
abbrev pub given_up : Tcb → Listen → TcpSocket → TcpSocket
given_up r l s = with_timers (timers_kept r.control.local r.control.peer l s.timers) (with_listen l s)

-- a new socket has it, which is bound to nothing. Its timer doesn't run
abbrev pub accepted : Tcb → TcpSocket
accepted r = with_tcb r (fresh true)

-- the number of the new socket, and the peer's end
abbrev pub placed : Tcb → SocketsRecord → Accepted × SocketsRecord
placed r t = (record { socket = tcp_place t; peer = r.control.peer }, put_tcp (accepted r) t)

-- accept(2)
unfoldable pub accepts_tcp : ℕ → SocketsRecord → Result (Accepted × SocketsRecord) Refusal
accepts_tcp k t = do
  accept_asked k t
  (r, rest) ← or_refuse (accepts_at k t) (refusal.Wait None)
  Ok (placed r (changes_at k (given_up r rest) t))
