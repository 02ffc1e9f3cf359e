-- The sockets of a host over acts: which of them are there, and that one lasts.
use Rattle.std.specs.Prelude.{◌≡◌, ℕ, Bool, true, false, List, [], ◌∷◌, slice_get, Option, Some, None, is_some}
use Rattle.sim_base.specs.declared.address.Ip.{Ip}
use Rattle.sim_base.specs.declared.time.Time.{Time}
use Rattle.host_wants.specs.Wanted.{Wanted, nothing_wanted}
use Rattle.host_sockets.specs.declared.glance.Glance.{Glance}
use Rattle.host_sockets.specs.Sockets.{SocketsRecord, no_sockets}
use Rattle.host_sockets.specs.TcpSocket.{TcpSocket}
use Rattle.host_sockets.specs.Udp.{udp_in}
use Rattle.socket_laws.specs.Histories.{SocketsAct, sockets_acted, sockets_after}
use Rattle.socket_laws.specs.Rises.{rises_counted}

-- a socket is there from socket(2) or accept(2) to close(2). So a TCP socket is one also where its connect failed and it is fresh again;
-- and where it is closed, its record is no socket's any more, though it has its number still
abbrev pub has_udp : ℕ → SocketsRecord → Bool
has_udp k t = is_some (udp_in k t)

abbrev pub is_held : Option TcpSocket → Bool
is_held None = false
is_held (Some s) = s.held

abbrev pub has_tcp : ℕ → SocketsRecord → Bool
has_tcp k t = is_held (slice_get t.tcp k)

-- a socket that is there after each of some acts, one behind another
abbrev pub SocketLasts : List Ip → (SocketsRecord → Bool) → List (Time × SocketsAct) → SocketsRecord → Wanted → Type 0
SocketLasts hosts has [] t w = Unit {0}
SocketLasts hosts has ((now, act) ∷ acts) t w =
    (has (sockets_acted hosts now act t w).0 ≡ true)
    × SocketLasts hosts has acts (sockets_acted hosts now act t w).0 (sockets_acted hosts now act t w).1

-- acts lead from some sockets to others, whatever is wanted as they begin; and what is there before and after them is there after each
-- of them, so that none of its sockets is closed and has another one made with its number
pub record SocketsMove (hosts : List Ip) (x y : SocketsRecord) : Type 0 where
  pub acts : List (Time × SocketsAct)
  pub after : (w : Wanted) → (sockets_after hosts acts (x, w)).0 ≡ y
  pub udp_last : (k : ℕ) → has_udp k x ≡ true → has_udp k y ≡ true → (w : Wanted) → SocketLasts hosts (has_udp k) acts x w
  pub tcp_last : (k : ℕ) → has_tcp k x ≡ true → has_tcp k y ≡ true → (w : Wanted) → SocketLasts hosts (has_tcp k) acts x w

-- what a history leaves of none, with what is wanted then
abbrev pub sockets_left : List Ip → Ip → List ℕ → List (Time × SocketsAct) → SocketsRecord × Wanted
sockets_left hosts own draws acts = sockets_after hosts acts (no_sockets own, nothing_wanted draws)

-- a count, and the acts since by which the bit rose: none of them made the socket
abbrev pub rises_since : ℕ → (SocketsRecord → Glance) → List Ip → List (Time × SocketsAct) → SocketsRecord × Wanted → ℕ → ℕ
rises_since bit sees hosts acts x count = rises_counted bit (λ act t. false) sees hosts acts x count
