-- what a call on a UDP socket needs of the others: what they leave of an address, or the end that it would be bound to
use Rattle.std.proofs.Common.{◌≡◌, ℕ, ◌<◌, List, [], length, get_or, Option, Some, Result, sym, ap, ◌∙◌}
use Rattle.sim_base.specs.declared.address.Ip.{Ip}
use Rattle.sim_base.specs.declared.address.Addr.{Addr}
use Rattle.sim_base.specs.declared.errno.Errno.{Errno}
use Rattle.sim_base.specs.Addresses.{Surroundings, any, at_free_port}
use Rattle.sock_udp.specs.Socket.{UdpState, or_else, end_left, bind, bound_at, connect, connected, send, sent}
use Rattle.host_wants.specs.Refusals.{by_errno}
use Rattle.host_sockets.specs.declared.sockets.Sockets.{Sockets}
use Rattle.host_sockets.specs.Sockets.{SocketsRecord}
use Rattle.host_sockets.specs.StandsFor.{Stand}
use Rattle.udp_slots.specs.Slots.{only_state}
use Rattle.host_sockets.specs.Udp.{udp_in, udp_ends, udp_around}
use Rattle.host_sockets.proofs.UdpSlots.{told_udp}

-- the surroundings of a call that looks at no other socket
abbrev pub surrounded : Ip → List Ip → Surroundings
surrounded own hosts = record { own = own; hosts = hosts; bound = [] }

-- the own end of the socket at a place, where the code tells it
abbrev pub Tells : Sockets → ℕ → Option Addr → Type 0
Tells c k own = (t : SocketsRecord) (u : UdpState) → Stand c t → udp_in k t ≡ Some u → own ≡ or_else u.local (at_free_port (udp_ends t) any)

own_told : (c : Sockets) (t : SocketsRecord) (k : ℕ) (old : Option UdpState) (own : Option Addr) → Stand c t → k < length c.udp.slots.items → old ≡ get_or c.udp.slots.items k old → Tells c k own
    → (u : UdpState) → old ≡ Some u → own ≡ or_else u.local (at_free_port (udp_ends t) any)
own_told c t k old own h b is tells u e = tells t u h (sym (told_udp c t k old (λ (o : Option UdpState). o) h b is) ∙ e)

pub binds_alike : (c : Sockets) (t : SocketsRecord) (hosts : List Ip) (at : Addr) (left : Result Addr Errno) → Stand c t → left ≡ end_left (udp_ends t) at → (u : UdpState)
    → only_state (by_errno (bound_at (surrounded c.own hosts) at.ip left u)) ≡ only_state (by_errno (bind (udp_around hosts t) at u))
binds_alike c t hosts at left h is u =
    ap (λ (own : Ip). only_state (by_errno (bound_at (surrounded own hosts) at.ip left u))) h.own
    ∙ ap (λ (end : Result Addr Errno). only_state (by_errno (bound_at (udp_around hosts t) at.ip end u))) is

pub connects_alike : (c : Sockets) (t : SocketsRecord) (k : ℕ) (hosts : List Ip) (to : Addr) (old : Option UdpState) (own : Option Addr) → Stand c t → k < length c.udp.slots.items → old ≡ get_or c.udp.slots.items k old → Tells c k own
    → (u : UdpState) → old ≡ Some u → only_state (by_errno (connected (surrounded c.own hosts) to u own)) ≡ only_state (by_errno (connect (udp_around hosts t) to u))
connects_alike c t k hosts to old own h b is tells u e = ap (λ (end : Option Addr). only_state (by_errno (connected (udp_around hosts t) to u end))) (own_told c t k old own h b is tells u e)

pub sends_alike : (c : Sockets) (t : SocketsRecord) (k : ℕ) (hosts : List Ip) (bytes : List ℕ) (to : Option Addr) (old : Option UdpState) (own : Option Addr) → Stand c t → k < length c.udp.slots.items → old ≡ get_or c.udp.slots.items k old → Tells c k own
    → (u : UdpState) → old ≡ Some u → by_errno (sent (surrounded c.own hosts) bytes to u own) ≡ by_errno (send (udp_around hosts t) bytes to u)
sends_alike c t k hosts bytes to old own h b is tells u e =
    ap (λ (ip : Ip). by_errno (sent (surrounded ip hosts) bytes to u own)) h.own
    ∙ ap (λ (end : Option Addr). by_errno (sent (udp_around hosts t) bytes to u end)) (own_told c t k old own h b is tells u e)
