-- what sockets are ready for, by the bits of poll(2), and how often they became it
use Rattle.std.specs.Prelude.{ℕ, slice_get, Option, Some, None}
use Rattle.host_fds.specs.declared.rises.Rises.{Rises}
use Rattle.udp_slots.specs.Slots.{udp_ready_in}
pub use Rattle.host_sockets.specs.Rises.{ready_of}
use Rattle.host_sockets.specs.Rises.{bits_of, rises_at}
use Rattle.host_sockets.specs.TcpSocket.{TcpSocket}
use Rattle.host_sockets.specs.Sockets.{SocketsRecord}
use Rattle.host_sockets.specs.Udp.{udp_in}

abbrev pub ready_in : Option TcpSocket → ℕ
ready_in None = 0
ready_in (Some s) = ready_of s.tcb s.listen

abbrev pub tcp_ready : ℕ → SocketsRecord → ℕ
tcp_ready k t = ready_in (slice_get t.tcp k)

-- the same with POLLRDHUP, where the peer's FIN was taken
abbrev pub seen_in : Option TcpSocket → ℕ
seen_in None = 0
seen_in (Some s) = bits_of s

abbrev pub tcp_seen : ℕ → SocketsRecord → ℕ
tcp_seen k t = seen_in (slice_get t.tcp k)

abbrev pub udp_ready : ℕ → SocketsRecord → ℕ
udp_ready k t = udp_ready_in (udp_in k t)

-- how often each bit came to hold since the socket with a number was made
abbrev pub tcp_rises : ℕ → SocketsRecord → Rises
tcp_rises k t = rises_at k t.tcp_risen

abbrev pub udp_rises : ℕ → SocketsRecord → Rises
udp_rises k t = rises_at k t.udp_risen
