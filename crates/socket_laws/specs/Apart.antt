-- no two sockets that are bound meet: their ports differ, or their addresses do and neither is 0.0.0.0
use Rattle.std.specs.Prelude.{◌≡◌, ◌≢◌, ℕ, true, false, List, slice_get, Option, Some, None}
use Rattle.sim_base.specs.declared.address.Ip.{Ip}
use Rattle.sim_base.specs.declared.address.Addr.{Addr}
use Rattle.sim_base.specs.Addresses.{is_local, meets}
use Rattle.host_sockets.specs.TcpSocket.{TcpSocket}
use Rattle.host_sockets.specs.Sockets.{SocketsRecord}
use Rattle.udp_slots.specs.Slots.{local_in}

-- what the socket with a number is bound to
abbrev pub end_of : {A : Type 0} → (A → Option Addr) → Option A → Option Addr
end_of end None = None
end_of end (Some socket) = end socket

abbrev pub end_at : {A : Type 0} → (A → Option Addr) → List A → ℕ → Option Addr
end_at end sockets k = end_of end (slice_get sockets k)

abbrev pub AreApart : {A : Type 0} → (A → Option Addr) → List A → Type 0
AreApart end sockets =
    (i j : ℕ) (a b : Addr) → i ≢ j → end_at end sockets i ≡ Some a → end_at end sockets j ≡ Some b → meets a b ≡ false

abbrev pub tcp_end : TcpSocket → Option Addr
tcp_end s = s.bound

-- within TCP, and within UDP
pub record BoundApart (t : SocketsRecord) : Type 0 where
  pub tcp : AreApart tcp_end t.tcp
  pub udp : AreApart local_in t.udp

-- what sockets are bound to is an address of the host: 0.0.0.0, 127.0.0.1 or its own
abbrev pub AreHere : {A : Type 0} → (A → Option Addr) → Ip → List A → Type 0
AreHere end own sockets = (k : ℕ) (a : Addr) → end_at end sockets k ≡ Some a → is_local own a.ip ≡ true

pub record BoundHere (own : Ip) (t : SocketsRecord) : Type 0 where
  pub tcp : AreHere tcp_end own t.tcp
  pub udp : AreHere local_in own t.udp
