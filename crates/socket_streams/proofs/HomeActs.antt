-- where what comes to a host comes to one of its addresses, each of its records has one at its own end
use Rattle.std.proofs.Common.{◌≡◌, ℕ, ◌==◌, ◌||◌, List, [], ◌∷◌, Bool, true, false, Ok, sym, subst, refl, arith}
use Rattle.std.proofs.lemmas.Bool.Decides.{nat_tests}
use Rattle.sim_base.specs.Addresses.{loopback, any, is_same_ip, is_local, source_ip}
use Rattle.sim_base.specs.declared.address.Ip.{Ip}
use Rattle.sim_base.specs.declared.address.Addr.{Addr}
use Rattle.sim_base.specs.declared.packet.Packet.{Packet}
use Rattle.sim_base.specs.declared.time.Time.{Time}
use Rattle.sock_tcp.specs.connection.Tcb.{Tcb}
use Rattle.tcp_laws.proofs.Tests.{by_test}
use Rattle.host_wants.specs.Wanted.{Wanted, nothing_wanted}
use Rattle.host_sockets.specs.Sockets.{SocketsRecord, no_sockets}
use Rattle.host_sockets.specs.Connecting.{connect_asked}
use Rattle.host_sockets.specs.Records.{records_of}
use Rattle.socket_laws.specs.Histories.{SocketsAct, sockets_acted, sockets_after, sockets_of}
use Rattle.socket_laws.specs.Histories.SocketsAct.{make_udp, bind_udp, connect_udp, send_udp, recv_udp, close_udp, make_tcp, bind_tcp, listen_tcp, accept_tcp, connect_tcp, connect_again, send_tcp, recv_tcp, shut_tcp, take_error, close_tcp, arrival, alarm, elsewhere}
use Rattle.socket_laws.proofs.HereActs.{Here, acted_here, used_here, tcp_bound, here_always}
use Rattle.socket_laws.proofs.SourceEnds.{connect_source}
use Rattle.socket_streams.specs.Inside.{IsHome}
use Rattle.socket_streams.specs.Home.{ComesHome, AllComeHome, AreAtHome}
use Rattle.socket_streams.specs.Records.{packets_of}
use Rattle.socket_streams.proofs.EndActs.{Brings, Fit, acted_fit, none_fit, all_ended, each_member, each_here}

-- the source address is one of the host
pub source_home : (host bound to : Ip) → is_local host bound ≡ true → (is_same_ip (source_ip host bound to) loopback || is_same_ip (source_ip host bound to) host) ≡ true
source_home host bound to local =
    by_test (λ (x : Ip). (is_same_ip x loopback || is_same_ip x host) ≡ true) (is_same_ip bound any) _ _
    (λ e. by_test (λ (x : Ip). (is_same_ip x loopback || is_same_ip x host) ≡ true) (is_same_ip to loopback) _ _ (λ k. refl) (λ k. either (is_same_ip host loopback) (is_same_ip host host) (itself host.bits)))
    (λ e. second (is_same_ip bound any) (is_same_ip bound loopback) (is_same_ip bound host) e local)
  where
    itself : (n : ℕ) → (n == n) ≡ true
    itself n = grind (arith, nat_tests)

    either : (a b : Bool) → b ≡ true → (a || b) ≡ true
    either true b e = refl
    either false b e = e

    second : (a b c : Bool) → a ≡ false → (a || b || c) ≡ true → (b || c) ≡ true
    second true b c e k = cc
    second false b c e k = k

pub connect_home : (own : Ip) (hosts : List Ip) (k : ℕ) (to local : Addr) (t : SocketsRecord) → Here own t → connect_asked hosts k to t ≡ Ok local → IsHome own local.ip
connect_home own hosts k to local t here e =
    let source = connect_source hosts k to local t e in
    let bound = used_here own k t source.0 (tcp_bound own k t here) source.1.0 in
    subst (λ (a : Addr). IsHome own a.ip) (sym source.1.1)
    (subst (λ (x : Ip). IsHome own (source_ip x source.0.ip to.ip)) (sym here.own) (source_home own source.0.ip to.ip bound))

module _ (own : Ip) where
  -- the own end of a record is at home, whatever is wanted
  abbrev Near : Addr → Addr → Type 0
  Near near far = IsHome own near.ip

  abbrev Any : Packet → Type 0
  Any p = Unit {0}

  abbrev any_carries : (p : Packet) → Near p.from p.to → Any p
  any_carries p h = tt

  abbrev FitsHome : SocketsRecord × Wanted → Type 0
  FitsHome x = Fit Near Any any_carries x

  brings_home : (hosts : List Ip) (act : SocketsAct) (t : SocketsRecord) → ComesHome own act → Here own t → Brings Near Any any_carries hosts t act
  brings_home hosts (connect_tcp k to) t comes here = λ local e. connect_home own hosts k to local t here e
  brings_home hosts (arrival p) t comes here = comes
  brings_home hosts (elsewhere after) t comes here = each_here Any (packets_of after) (λ p c. tt)
  brings_home hosts make_udp t comes here = tt
  brings_home hosts (bind_udp k at) t comes here = tt
  brings_home hosts (connect_udp k to) t comes here = tt
  brings_home hosts (send_udp k bytes to) t comes here = tt
  brings_home hosts (recv_udp k n) t comes here = tt
  brings_home hosts (close_udp k) t comes here = tt
  brings_home hosts make_tcp t comes here = tt
  brings_home hosts (bind_tcp k at) t comes here = tt
  brings_home hosts (listen_tcp k n) t comes here = tt
  brings_home hosts (accept_tcp k) t comes here = tt
  brings_home hosts (connect_again k) t comes here = tt
  brings_home hosts (send_tcp k bytes to quiet) t comes here = tt
  brings_home hosts (recv_tcp k n) t comes here = tt
  brings_home hosts (shut_tcp k how) t comes here = tt
  brings_home hosts (take_error k) t comes here = tt
  brings_home hosts (close_tcp k) t comes here = tt
  brings_home hosts (alarm k serial) t comes here = tt

  after_home : (hosts : List Ip) (acts : List (Time × SocketsAct)) (t : SocketsRecord) (w : Wanted) → AllComeHome own acts → Here own t → FitsHome (t, w) → FitsHome (sockets_after hosts acts (t, w))
  after_home hosts [] t w comes here h = h
  after_home hosts ((now, act) ∷ acts) t w comes here h =
      let after = sockets_acted hosts now act t w in
      after_home hosts acts after.0 after.1 comes.1 (acted_here own hosts now act t w here)
      (acted_fit Near Any any_carries hosts now act t w (brings_home hosts act t comes.0 here) h)

pub history_home : (hosts : List Ip) (own : Ip) (draws : List ℕ) (acts : List (Time × SocketsAct)) → AllComeHome own acts → AreAtHome own (records_of (sockets_of hosts own draws acts))
history_home hosts own draws acts comes r c =
    let t : SocketsRecord = sockets_of hosts own draws acts in
    let h = after_home own hosts acts (no_sockets own) (nothing_wanted draws) comes (here_always hosts own draws []) (none_fit (Near own) (Any own) (any_carries own) own draws) in
    each_member (λ (x : Tcb). IsHome own x.control.local.ip) (records_of t) r (all_ended (Near own) (Any own) (any_carries own) t h.0) c
