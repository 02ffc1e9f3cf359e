-- how often sockets became ready, for each bit of poll(2)
use Rattle.std.specs.Prelude.{ℕ, ◌+◌, List, length, slice_get, slice_set, Option, Some, None, bit_or, nat_lt}
use Rattle.sim_base.specs.Poll.{pollout, pollhup, pollrdhup}
use Rattle.host_fds.specs.declared.rises.Rises.{Rises}
use Rattle.host_fds.specs.Rises.{no_rises, moved}
use Rattle.sock_udp.specs.Socket.{UdpState, ready}
use Rattle.sock_tcp.specs.connection.Tcb.{Tcb, unread}
use Rattle.sock_tcp.specs.connection.Ready as connection
use Rattle.sock_tcp.specs.listener.Listen.{Listen}
use Rattle.sock_tcp.specs.listener.Ready as listener
use Rattle.host_sockets.specs.declared.glance.Glance.{Glance}
use Rattle.host_sockets.specs.TcpSocket.{TcpSocket}

-- a fresh socket, bound or not, can be written and has been hung up
abbrev pub fresh_ready : ℕ
fresh_ready = pollout + pollhup

abbrev pub ready_of : Option Tcb → Option Listen → ℕ
ready_of (Some r) listen = connection.readiness r
ready_of None (Some l) = listener.readiness l
ready_of None None = fresh_ready

-- beside that, POLLRDHUP holds where the peer's FIN was taken
abbrev pub end_bit : Option Tcb → ℕ
end_bit None = 0
end_bit (Some r) = connection.bit_if r.control.fin_taken pollrdhup

abbrev pub bits_of : TcpSocket → ℕ
bits_of s = bit_or (ready_of s.tcb s.listen) (end_bit s.tcb)

-- how much waits in it: bytes, or whole connections
abbrev pub waiting_of : Option Tcb → Option Listen → ℕ
waiting_of (Some r) listen = unread r
waiting_of None (Some l) = length l.accept_queue
waiting_of None None = 0

abbrev pub tcp_glance : TcpSocket → Glance
tcp_glance s = record { bits = bits_of s; waiting = waiting_of s.tcb s.listen }

-- of a UDP socket datagrams wait, empty ones too
abbrev pub udp_glance : UdpState → Glance
udp_glance u = record { bits = ready u; waiting = length u.waiting }

abbrev pub slot_glance : Option UdpState → Glance
slot_glance None = record { bits = 0; waiting = 0 }
slot_glance (Some u) = udp_glance u

-- an act puts something in where more waits after it than before
abbrev pub risen : Glance → Glance → Rises → Rises
risen before after r = moved before.bits after.bits (nat_lt before.waiting after.waiting) r

-- the rises of the socket with a number, and those after an act on it
abbrev pub or_no_rises : Option Rises → Rises
or_no_rises None = no_rises
or_no_rises (Some r) = r

abbrev pub rises_at : ℕ → List Rises → Rises
rises_at k kept = or_no_rises (slice_get kept k)

abbrev pub moved_at : ℕ → Glance → Glance → List Rises → List Rises
moved_at k before after kept = slice_set kept k (risen before after (rises_at k kept))
