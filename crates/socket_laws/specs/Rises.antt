-- how often the bits of a socket rose: counted over what happened at its host, from the act on that made it
use Rattle.std.specs.Prelude.{◌≡◌, ℕ, ◌+◌, ◌==◌, Bool, false, ◌&&◌, ◌||◌, min, nat_lt, List, [], ◌∷◌, slice_get, Option, Some, None, if◌then◌else◌, Result, Ok, Err}
use Rattle.sim_base.specs.declared.address.Ip.{Ip}
use Rattle.sim_base.specs.declared.time.Time.{Time}
use Rattle.sim_base.specs.Poll.{pollin, pollout, pollerr, pollhup, pollrdhup}
use Rattle.host_fds.specs.declared.rises.Rises.{Rises}
use Rattle.host_fds.specs.Rises.{most, rose}
use Rattle.host_wants.specs.declared.error.Refusal.{Refusal}
use Rattle.host_sockets.specs.declared.glance.Glance.{Glance}
use Rattle.host_sockets.specs.declared.reply.Accepted.{Accepted}
use Rattle.host_sockets.specs.Accepting.{accepts_tcp}
use Rattle.host_sockets.specs.Ready.{udp_rises, tcp_rises}
use Rattle.host_sockets.specs.Rises.{slot_glance, tcp_glance}
use Rattle.host_sockets.specs.Sockets.{SocketsRecord, no_sockets, new_tcp}
use Rattle.host_sockets.specs.TcpSocket.{TcpSocket}
use Rattle.host_sockets.specs.Udp.{udp_in, new_udp}
use Rattle.host_wants.specs.Wanted.{Wanted, nothing_wanted}
use Rattle.socket_laws.specs.Histories.{SocketsAct, sockets_acted, make_udp, make_tcp, accept_tcp}

-- what is seen of the socket with a number: nothing where there is none
abbrev pub tcp_glance_in : Option TcpSocket → Glance
tcp_glance_in None = record { bits = 0; waiting = 0 }
tcp_glance_in (Some s) = tcp_glance s

abbrev pub sees_tcp : ℕ → SocketsRecord → Glance
sees_tcp k t = tcp_glance_in (slice_get t.tcp k)

abbrev pub sees_udp : ℕ → SocketsRecord → Glance
sees_udp k t = slot_glance (udp_in k t)

-- the socket with a number is made where socket(2) or accept(2) answers that number
abbrev pub accepts_at_number : ℕ → Result (Accepted × SocketsRecord) Refusal → Bool
accepts_at_number k (Ok (accepted, after)) = accepted.socket == k
accepts_at_number k (Err refusal) = false

abbrev pub makes_tcp : ℕ → SocketsAct → SocketsRecord → Bool
makes_tcp k make_tcp t = (new_tcp t).0 == k
makes_tcp k (accept_tcp listener) t = accepts_at_number k (accepts_tcp listener t)
makes_tcp k _ t = false

abbrev pub makes_udp : ℕ → SocketsAct → SocketsRecord → Bool
makes_udp k make_udp t = (new_udp t).0 == k
makes_udp k _ t = false

-- an act has a bit rise where it holds afterwards and didn't before; POLLIN rises also where more waits than before
abbrev pub has_rise : ℕ → Glance → Glance → Bool
has_rise bit before after = (bit == pollin && nat_lt before.waiting after.waiting) || rose bit before.bits after.bits

-- how often a bit rose, act by act: from the last one on that made the socket
abbrev pub counted_by : Bool → Bool → ℕ → ℕ
counted_by made risen count = if made then 0 else (if risen then count + 1 else count)

abbrev pub rises_counted : ℕ → (SocketsAct → SocketsRecord → Bool) → (SocketsRecord → Glance) → List Ip → List (Time × SocketsAct) → SocketsRecord × Wanted → ℕ → ℕ
rises_counted bit makes sees hosts [] (t, w) count = count
rises_counted bit makes sees hosts ((now, act) ∷ acts) (t, w) count =
    let after = sockets_acted hosts now act t w in
    rises_counted bit makes sees hosts acts after (counted_by (makes act t) (has_rise bit (sees t) (sees after.0)) count)

-- and over all that happened at a host
abbrev pub tcp_rises_counted : ℕ → ℕ → List Ip → Ip → List ℕ → List (Time × SocketsAct) → ℕ
tcp_rises_counted bit k hosts own draws acts =
    rises_counted bit (makes_tcp k) (sees_tcp k) hosts acts (no_sockets own, nothing_wanted draws) 0

abbrev pub udp_rises_counted : ℕ → ℕ → List Ip → Ip → List ℕ → List (Time × SocketsAct) → ℕ
udp_rises_counted bit k hosts own draws acts =
    rises_counted bit (makes_udp k) (sees_udp k) hosts acts (no_sockets own, nothing_wanted draws) 0

-- each kept number is that of its bit, and stands still at the most that it counts to
pub record AreCounted (kept : Rises) (counted : ℕ → ℕ) : Type 0 where
  pub input : kept.input ≡ min (counted pollin) most
  pub output : kept.output ≡ min (counted pollout) most
  pub error : kept.error ≡ min (counted pollerr) most
  pub hangup : kept.hangup ≡ min (counted pollhup) most
  pub peer_end : kept.peer_end ≡ min (counted pollrdhup) most
