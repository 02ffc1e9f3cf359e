-- Calls on sockets that never wait.
use Rattle.std.proofs.Common.{ℕ, List, Option, Some, None, refl}
use Rattle.std.proofs.Common.{ℤ}
use Rattle.sim_base.specs.declared.address.Addr.{Addr}
use Rattle.sim_base.specs.declared.address.Ip.{Ip}
use Rattle.sim_base.specs.declared.time.Time.{Time}
use Rattle.guest_mem.specs.Memory.{Memory}
use Rattle.sock_tcp.specs.declared.connection.effects.Shut.{Shut}
use Rattle.host_wants.specs.Wanted.{Wanted}
use Rattle.host_sockets.specs.Sockets.{SocketsRecord}
use Rattle.host_sockets.specs.Binding.{binds_tcp, listens_tcp}
use Rattle.host_sockets.specs.Moving.{shuts_tcp}
use Rattle.sock_tcp.specs.connection.Tcb.{Tcb}
use Rattle.file_calls.specs.declared.task.Shared.{Shared}
use Rattle.host_sockets.specs.Names.{peer_in, takes_error, tcp_peer}
use Rattle.file_calls.specs.declared.task.Task.{Task}
use Rattle.call_parts.specs.declared.sockets.SocketNumber.{SocketNumber}
use Rattle.call_parts.specs.declared.sockets.SocketNumber.TheVariants as number
use Rattle.host_calls.specs.Parts.{Scene, local_of}
use Rattle.call_parts.specs.Sockets.{is_stream, socket_asked, tcp_number, is_error, option_place, getsockopt_asked, open_socket}
use Rattle.host_calls.specs.Sockets.{socket, binds, bind_asked, bind, listen, name_of, peer_of, getsockname, getpeername, told_error, getsockopt, shut_of, shuts, shutdown}
use Rattle.call_laws.proofs.Waits.{Never, nevers, never_bind, never_if, open_socket_never}
use Rattle.call_laws.proofs.SocketWaits.{binds_udp_never}

is_stream_never : (type : ℕ) → Never (is_stream type)
is_stream_never type = search nevers

socket_asked_never : (family type protocol : ℕ) (task : Task) → Never (socket_asked family type protocol task)
socket_asked_never family type protocol task = search (nevers, is_stream_never) depth 8

pub socket_never : (family type protocol : ℕ) (s : Scene) → Never (socket family type protocol s)
socket_never family type protocol s = never_bind (socket_asked family type protocol s.task) _ (socket_asked_never family type protocol s.task) (λ new. refl)

binds_tcp_never : (k : ℕ) (to : Addr) (t : SocketsRecord) → Never (binds_tcp k to t)
unfolding binds_tcp
binds_tcp_never k to t = search nevers depth 9

binds_never : (hosts : List Ip) (n : SocketNumber) (to : Addr) (t : SocketsRecord) → Never (binds hosts n to t)
binds_never hosts (number.Udp k) to t = binds_udp_never hosts k to t
binds_never hosts (number.Tcp k) to t = binds_tcp_never k to t

bind_asked_never : (n : SocketNumber) (at size : ℕ) (memory : Memory) (t : SocketsRecord) → Never (bind_asked n at size memory t)
bind_asked_never n at size memory t = search nevers depth 8

pub bind_never : (hosts : List Ip) (fd at size : ℕ) (s : Scene) → Never (bind hosts fd at size s)
bind_never hosts fd at size s =
    never_bind (open_socket fd (local_of s)) _ (open_socket_never fd s.task s.shared) (λ socket. never_bind (bind_asked socket.number at size s.task.memory s.sockets) _
    (bind_asked_never socket.number at size s.task.memory s.sockets) (λ to. never_bind (binds hosts socket.number to s.sockets) _ (binds_never hosts socket.number to s.sockets) (λ a. refl)))

tcp_number_never : (n : SocketNumber) → Never (tcp_number n)
tcp_number_never (number.Udp k) = refl
tcp_number_never (number.Tcp k) = refl

listens_tcp_never : (k : ℕ) (backlog : ℤ) (t : SocketsRecord) → Never (listens_tcp k backlog t)
unfolding listens_tcp
listens_tcp_never k backlog t = search nevers depth 9

pub listen_never : (fd backlog : ℕ) (s : Scene) → Never (listen fd backlog s)
listen_never fd backlog s = search (nevers, tcp_number_never, listens_tcp_never, open_socket_never fd s.task s.shared)

name_of_never : (n : SocketNumber) (t : SocketsRecord) → Never (name_of n t)
name_of_never (number.Udp k) t = search nevers
name_of_never (number.Tcp k) t = search nevers

peer_in_never : (o : Option Tcb) → Never (peer_in o)
peer_in_never None = refl
peer_in_never (Some r) = refl

tcp_peer_never : (k : ℕ) (t : SocketsRecord) → Never (tcp_peer k t)
tcp_peer_never k t = search (nevers, peer_in_never)

peer_of_never : (n : SocketNumber) (t : SocketsRecord) → Never (peer_of n t)
peer_of_never (number.Udp k) t = search nevers
peer_of_never (number.Tcp k) t = tcp_peer_never k t

pub getsockname_never : (fd at size_at : ℕ) (s : Scene) → Never (getsockname fd at size_at s)
getsockname_never fd at size_at s = search (nevers, name_of_never, open_socket_never fd s.task s.shared)

pub getpeername_never : (fd at size_at : ℕ) (s : Scene) → Never (getpeername fd at size_at s)
getpeername_never fd at size_at s = search (nevers, peer_of_never, open_socket_never fd s.task s.shared)

is_error_never : (level option : ℕ) → Never (is_error level option)
is_error_never level option = search nevers

option_place_never : (at size_at : ℕ) (memory : Memory) → Never (option_place at size_at memory)
option_place_never at size_at memory = search nevers depth 8

takes_error_never : (now : Time) (k : ℕ) (t : SocketsRecord) (w : Wanted) → Never (takes_error now k t w)
unfolding takes_error
takes_error_never now k t w = search nevers

told_error_never : (now : Time) (n : SocketNumber) (at size_at : ℕ) (s : Scene) → Never (told_error now n at size_at s)
told_error_never now (number.Udp k) at size_at s = refl
told_error_never now (number.Tcp k) at size_at s = search (nevers, takes_error_never)

getsockopt_asked_never : (fd level option at size_at : ℕ) (task : Task) (shared : Shared) → Never (getsockopt_asked fd level option at size_at (task, shared))
getsockopt_asked_never fd level option at size_at task shared = search (nevers, is_error_never, option_place_never)

pub getsockopt_never : (now : Time) (fd level option at size_at : ℕ) (s : Scene) → Never (getsockopt now fd level option at size_at s)
getsockopt_never now fd level option at size_at s =
    never_bind (getsockopt_asked fd level option at size_at (local_of s)) _ (getsockopt_asked_never fd level option at size_at s.task s.shared)
    (λ asked. never_if asked.error _ _ (told_error_never now asked.number at size_at s) refl)

shut_of_never : (how : ℕ) → Never (shut_of how)
shut_of_never how = search nevers

shuts_tcp_never : (now : Time) (k : ℕ) (how : Shut) (t : SocketsRecord) (w : Wanted) → Never (shuts_tcp now k how t w)
unfolding shuts_tcp
shuts_tcp_never now k how t w = search nevers

shuts_never : (now : Time) (how : Shut) (n : SocketNumber) (s : Scene) → Never (shuts now how n s)
shuts_never now how (number.Udp k) s = refl
shuts_never now how (number.Tcp k) s = search (nevers, shuts_tcp_never)

pub shutdown_never : (now : Time) (fd how : ℕ) (s : Scene) → Never (shutdown now fd how s)
shutdown_never now fd how s = search (nevers, shut_of_never, shuts_never, open_socket_never fd s.task s.shared)
