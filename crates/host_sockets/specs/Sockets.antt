-- the sockets of a host and their TCP records
use Rattle.std.specs.Prelude.{ℕ, Bool, true, ◌||◌, List, [], ◌∷◌, ◌++◌, length, slice_get, slice_set, Option, Some, None, nat_lt, if◌then◌else◌, Result}
use Rattle.std.specs.List.{list_any, flat_map, position_or_len}
use Rattle.sim_base.specs.declared.address.Ip.{Ip}
use Rattle.sim_base.specs.declared.address.Addr.{Addr}
use Rattle.sim_base.specs.declared.errno.Errno.TheVariants.{Ebadf}
use Rattle.sim_base.specs.Refusals.{or_refuse}
use Rattle.host_fds.specs.declared.rises.Rises.{Rises}
use Rattle.host_fds.specs.Rises.{no_rises}
use Rattle.sock_tcp.specs.connection.Tcb.{Tcb}
use Rattle.sock_udp.specs.Socket.{UdpState}
use Rattle.host_wants.specs.declared.error.Refusal.{Refusal}
use Rattle.host_wants.specs.declared.error.Refusal.TheVariants as refusal
use Rattle.host_sockets.specs.TcpSocket.{TcpSocket, fresh, is_free, bound_end, ends_of, has_record, keeps_record}
use Rattle.host_sockets.specs.Rises.{tcp_glance, moved_at}

-- the host's address; its sockets by their numbers, UDP and TCP apart, and their rises by the same numbers; and the records
-- that were let go, in this order: of them nothing is forgotten
pub record SocketsRecord : Type 0 where
  pub own : Ip
  pub udp : List (Option UdpState)
  pub tcp : List TcpSocket
  pub udp_risen : List Rises
  pub tcp_risen : List Rises
  pub gone : List Tcb

-- a host without sockets
abbrev pub no_sockets : Ip → SocketsRecord
no_sockets own = record { own = own; udp = []; tcp = []; udp_risen = []; tcp_risen = []; gone = [] }

-- the TCP socket with a number
abbrev pub tcp_at : ℕ → SocketsRecord → Result TcpSocket Refusal
tcp_at k t = or_refuse (slice_get t.tcp k) (refusal.Errno Ebadf)

-- its record, if it has one
abbrev pub tcb_in : Option TcpSocket → Option Tcb
tcb_in None = None
tcb_in (Some s) = s.tcb

abbrev pub tcb_at : ℕ → SocketsRecord → Option Tcb
tcb_at k t = tcb_in (slice_get t.tcp k)

-- EVERY act on a socket ends so: it is put back, and its rises move on
abbrev pub with_tcp : ℕ → TcpSocket → TcpSocket → SocketsRecord → SocketsRecord
with_tcp k old new t = record t {
  tcp = slice_set t.tcp k new;
  tcp_risen = moved_at k (tcp_glance old) (tcp_glance new) t.tcp_risen;
}

-- a change of it that wants nothing
abbrev pub changes_in : ℕ → (TcpSocket → TcpSocket) → Option TcpSocket → SocketsRecord → SocketsRecord
changes_in k f None t = t
changes_in k f (Some s) t = with_tcp k s (f s) t

abbrev pub changes_at : ℕ → (TcpSocket → TcpSocket) → SocketsRecord → SocketsRecord
changes_at k f t = changes_in k f (slice_get t.tcp k) t

-- an element at a place of a list, or behind it
abbrev pub put_at : {A : Type 0} → ℕ → A → List A → List A
put_at place a items = if nat_lt place (length items) then slice_set items place a else items ++ a ∷ []

-- a new socket takes the least free number
abbrev pub tcp_place : SocketsRecord → ℕ
tcp_place t = position_or_len is_free t.tcp

-- that it is made is no rise
abbrev pub put_tcp_at : ℕ → TcpSocket → SocketsRecord → SocketsRecord
put_tcp_at k s t = record t { tcp = put_at k s t.tcp; tcp_risen = put_at k no_rises t.tcp_risen }

abbrev pub put_tcp : TcpSocket → SocketsRecord → SocketsRecord
put_tcp s t = put_tcp_at (tcp_place t) s t

-- socket(2): a fresh TCP socket, and its number
abbrev pub new_tcp : SocketsRecord → ℕ × SocketsRecord
new_tcp t = (tcp_place t, put_tcp (fresh true) t)

-- the ends that TCP sockets are bound to, and those that they and their records have
abbrev pub bound_ends : SocketsRecord → List Addr
bound_ends t = flat_map (λ (s : TcpSocket). bound_end s.bound) t.tcp

abbrev pub tcp_ends : SocketsRecord → List Addr
tcp_ends t = flat_map ends_of t.tcp

-- a live record has this pair of ends, be it of a socket or one that a listener keeps
abbrev pub has_pair : Addr → Addr → SocketsRecord → Bool
has_pair own other t = list_any (λ s. has_record own other s || keeps_record own other s) t.tcp
