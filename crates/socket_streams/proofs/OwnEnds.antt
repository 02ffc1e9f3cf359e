-- the two ends of each record of a host, and of each packet that it sends: the own end is at an address of the host, and where
-- that is 127.0.0.1 the other end is at one too
use Rattle.std.proofs.Common.{◌≡◌, ⊎_elim, ℕ, ◌||◌, not, List, [], ◌∷◌, ◌++◌, Bool, true, false, Contains, Option, Some, None, slice_get, Result, Ok, Err, refl, sym, ap, subst, ◌∙◌, length, nat_lt}
use Rattle.sim_base.specs.Addresses.{Surroundings, any, loopback, is_same_ip, is_local, is_reachable, stays_inside, source_ip}
use Rattle.sim_base.specs.Packet.{max_datagram}
use Rattle.sim_base.specs.Refusals.{◌>>=◌, ◌>>◌, refuse_if, or_refuse}
use Rattle.sim_base.specs.declared.address.Ip.{Ip}
use Rattle.sim_base.specs.declared.address.Addr.{Addr}
use Rattle.sim_base.specs.declared.errno.Errno.{Errno}
use Rattle.sim_base.specs.declared.errno.Errno.TheVariants.{Emsgsize, Edestaddrreq, Enetunreach, Einval, Eaddrnotavail}
use Rattle.sim_base.specs.declared.packet.Packet.{Packet}
use Rattle.sim_base.specs.declared.time.Time.{Time}
use Rattle.sock_udp.specs.Socket.{UdpState, or_else, reach, address_to_use, address_and_destination, packet_between, send}
use Rattle.sock_tcp.specs.connection.Tcb.{Tcb}
use Rattle.host_wants.specs.declared.error.Refusal.{Refusal}
use Rattle.host_wants.specs.Refusals.{by_errno}
use Rattle.host_wants.specs.Wanted.{Wanted, nothing_wanted}
use Rattle.host_sockets.specs.Sockets.{SocketsRecord, no_sockets}
use Rattle.host_sockets.specs.Connecting.{source_end, connect_asked}
use Rattle.host_sockets.specs.Records.{records_of}
use Rattle.udp_slots.specs.Slots.{local_in}
use Rattle.host_sockets.specs.Udp.{socket_in, udp_in, with_udp, udp_around, acted_udp, sends_udp}
use Rattle.socket_laws.specs.Apart.{end_of}
use Rattle.socket_laws.specs.Histories.{SocketsAct, sockets_acted, sockets_after}
use Rattle.socket_laws.specs.Histories.SocketsAct.{make_udp, bind_udp, connect_udp, send_udp, recv_udp, close_udp, make_tcp, bind_tcp, listen_tcp, accept_tcp, connect_tcp, connect_again, send_tcp, recv_tcp, shut_tcp, take_error, close_tcp, arrival, alarm, elsewhere}
use Rattle.socket_laws.proofs.HereActs.{Here, acted_here}
use Rattle.socket_laws.proofs.SourceEnds.{first_ok, next_ok, not_refused, bound_is, source_inside, packet_in, record_in, set_there, connect_from}
use Rattle.socket_streams.specs.Inside.{IsHome}
use Rattle.socket_streams.specs.Home.{AreAtHome}
use Rattle.socket_streams.specs.May.{MayDo, MayAll, HasSent, IsTold, AreTold, Moves}
use Rattle.socket_streams.specs.Records.{packets_of}
use Rattle.socket_streams.proofs.EndActs.{Brings, Fit, acted_fit, none_fit, all_ended, each_member, each_here}
use Rattle.socket_streams.proofs.HomeActs.{source_home, connect_home}

pub record IsEnd (own : Ip) (near far : Addr) : Type 0 where
  pub home : IsHome own near.ip
  pub inside : is_same_ip near.ip loopback ≡ true → IsHome own far.ip

first_of : (a b : Bool) → a ≡ true → (a || b) ≡ true
first_of true b e = refl
first_of false b e = cc

-- ---- a datagram that is sent

reached_inside : (around : Surroundings) (to : Addr) (u : UdpState) → reach around to u ≡ Ok tt → stays_inside u.local ≡ true → is_same_ip to.ip loopback ≡ true
reached_inside around to u e i =
    not_refused (stays_inside u.local) (is_same_ip to.ip loopback) Einval (next_ok (refuse_if (not (is_reachable around.hosts to.ip)) Enetunreach) _ tt e) i

-- a socket that is bound to 127.0.0.1 sends to it alone
abbrev Reaches : Addr → Addr → Type 0
Reaches bound to = is_same_ip bound.ip any ≡ false → is_same_ip bound.ip loopback ≡ true → is_same_ip to.ip loopback ≡ true

reaches : (around : Surroundings) (u : UdpState) (bound to : Addr) → reach around to u ≡ Ok tt → address_to_use around u ≡ Ok bound → Reaches bound to
reaches around u bound to r used other inside =
    ⊎_elim (λ at. reached_inside around to u r (ap stays_inside at ∙ inside)) (λ every. cc) (bound_is Eaddrnotavail u.local around.bound bound used)

chosen_by : (around : Surroundings) (u : UdpState) (to : Addr) (used : Result Addr Errno) (b : Addr × Addr) → (used >>= λ bound. Ok (bound, to)) ≡ Ok b → (used ≡ Ok b.0) × (to ≡ b.1)
chosen_by around u to (Err why) b e = cc
chosen_by around u to (Ok bound) b e = let same : (bound, to) ≡ b = cc in (ap (λ (x : Addr × Addr). Ok x.0) same, ap (λ (x : Addr × Addr). x.1) same)

destined : (around : Surroundings) (u : UdpState) (found : Result Addr Errno) (b : Addr × Addr)
    → (found >>= λ destination. reach around destination u >> (address_to_use around u >>= λ bound. Ok (bound, destination))) ≡ Ok b → Reaches b.0 b.1
destined around u (Err why) b e = cc
destined around u (Ok destination) b e =
    let more = chosen_by around u destination (address_to_use around u) b (next_ok (reach around destination u) _ b e) in
    subst (λ (to : Addr). Reaches b.0 to) more.1 (reaches around u b.0 destination (first_ok (reach around destination u) _ b e) more.0)

sends_reach : (around : Surroundings) (size : ℕ) (to : Option Addr) (u : UdpState) (b : Addr × Addr) → address_and_destination around size to u ≡ Ok b → Reaches b.0 b.1
sends_reach around size to u b e =
    destined around u (or_refuse (or_else to u.peer) Edestaddrreq) b (next_ok (refuse_if (nat_lt max_datagram size) Emsgsize) _ b e)

-- from what its socket is bound to, which reaches where it goes
record IsSent (k : ℕ) (t : SocketsRecord) (p : Packet) (after : SocketsRecord) : Type 0 where
  bound : Addr
  there : local_in (udp_in k after) ≡ Some bound
  from : p.from ≡ source_end t.own bound p.to
  reaches : Reaches bound p.to
  own : after.own ≡ t.own

abbrev sent_row : Surroundings → List ℕ → ℕ → UdpState → SocketsRecord → Result (Addr × Addr) Errno → Result (Packet × SocketsRecord) Refusal
sent_row around bytes k u t ends = do
  (answer, after) ← by_errno (ends >>= λ (bound, destination). Ok (packet_between around bytes bound destination, record u { local = Some bound }))
  Ok (answer, with_udp k u after t)

sent_from : (hosts : List Ip) (bytes : List ℕ) (k : ℕ) (u : UdpState) (t after : SocketsRecord) (ends : Result (Addr × Addr) Errno) (p : Packet) → slice_get t.udp k ≡ Some (Some u)
    → ((b : Addr × Addr) → ends ≡ Ok b → Reaches b.0 b.1) → sent_row (udp_around hosts t) bytes k u t ends ≡ Ok (p, after) → IsSent k t p after
unfolding packet_in record_in
sent_from hosts bytes k u t after (Err errno) p at reaches e = cc
sent_from hosts bytes k u t after (Ok (bound, destination)) p at reaches e =
    let packet : packet_between (udp_around hosts t) bytes bound destination ≡ p = ap (packet_in p) e in
    let left : with_udp k u (record u { local = Some bound }) t ≡ after = ap (record_in t) e in
    let there = set_there t.udp k (Some u) (Some (record u { local = Some bound })) at in
    let local : local_in (udp_in k (with_udp k u (record u { local = Some bound }) t)) ≡ Some bound = ap (λ o. local_in (socket_in o)) there in
    record {
      bound = bound;
      there = ap (λ x. local_in (udp_in k x)) (sym left) ∙ local;
      from = subst (λ (q : Packet). q.from ≡ source_end t.own bound q.to) packet refl;
      reaches = subst (λ (q : Packet). Reaches bound q.to) packet (reaches (bound, destination) refl);
      own = ap (λ (x : SocketsRecord). x.own) (sym left);
    }

sent_slot : (hosts : List Ip) (k : ℕ) (bytes : List ℕ) (to : Option Addr) (t after : SocketsRecord) (p : Packet) (o : Option (Option UdpState)) → slice_get t.udp k ≡ o
    → acted_udp (λ u. by_errno (send (udp_around hosts t) bytes to u)) k (socket_in o) t ≡ Ok (p, after) → IsSent k t p after
sent_slot hosts k bytes to t after p None at e = cc
sent_slot hosts k bytes to t after p (Some None) at e = cc
sent_slot hosts k bytes to t after p (Some (Some u)) at e =
    let around = udp_around hosts t in
    sent_from hosts bytes k u t after (address_and_destination around (length bytes) to u) p at (sends_reach around (length bytes) to u) e

is_sent : (hosts : List Ip) (k : ℕ) (bytes : List ℕ) (to : Option Addr) (t after : SocketsRecord) (p : Packet) → sends_udp hosts k bytes to t ≡ Ok (p, after) → IsSent k t p after
unfolding sends_udp
is_sent hosts k bytes to t after p e = sent_slot hosts k bytes to t after p (slice_get t.udp k) refl e

bound_at : (o : Option (Option UdpState)) → local_in (socket_in o) ≡ end_of local_in o
bound_at None = refl
bound_at (Some u) = refl

module _ (own : Ip) (outside : is_same_ip own loopback ≡ false) where
  source_ends : (host bound to : Ip) → host ≡ own → is_local own bound ≡ true → (is_same_ip bound any ≡ false → is_same_ip bound loopback ≡ true → is_same_ip to loopback ≡ true)
      → IsHome own (source_ip host bound to) × (is_same_ip (source_ip host bound to) loopback ≡ true → IsHome own to)
  source_ends host bound to same local reaches =
      subst (λ (x : Ip). IsHome own (source_ip x bound to) × (is_same_ip (source_ip x bound to) loopback ≡ true → IsHome own to)) (sym same)
      (source_home own bound to local, λ e. first_of (is_same_ip to loopback) (is_same_ip to own) (source_inside own bound to outside reaches e))

  datagram_ends : (hosts : List Ip) (t : SocketsRecord) (p : Packet) → Here own t → HasSent hosts t p → IsEnd own p.from p.to
  datagram_ends hosts t p here h =
      let s = is_sent hosts h.number h.bytes h.to h.before t p h.sent in
      let local : is_local own s.bound.ip ≡ true = here.bound.udp h.number s.bound (sym (bound_at (slice_get t.udp h.number)) ∙ s.there) in
      let ends = source_ends h.before.own s.bound.ip p.to.ip (sym s.own ∙ here.own) local s.reaches in
      subst (λ (a : Addr). IsEnd own a p.to) (sym s.from) (record { home = ends.0; inside = ends.1 })

  connect_ends : (hosts : List Ip) (k : ℕ) (to local : Addr) (t : SocketsRecord) → Here own t → connect_asked hosts k to t ≡ Ok local → IsEnd own local to
  connect_ends hosts k to local t here e = record {
    home = connect_home own hosts k to local t here e;
    inside = λ at. first_of (is_same_ip to.ip loopback) (is_same_ip to.ip own)
        (connect_from hosts k to local t (subst (λ (x : Ip). is_same_ip x loopback ≡ false) (sym here.own) outside) e at);
  }

-- ---- the sockets of a host, and what they want

abbrev pub OwnPacket : Ip → Packet → Type 0
OwnPacket own p = IsEnd own p.from p.to

abbrev own_carries : (own : Ip) (p : Packet) → IsEnd own p.from p.to → OwnPacket own p
own_carries own p h = h

abbrev pub OwnFit : Ip → SocketsRecord × Wanted → Type 0
OwnFit own x = Fit (IsEnd own) (OwnPacket own) (own_carries own) x

pub none_own : (own : Ip) (draws : List ℕ) → OwnFit own (no_sockets own, nothing_wanted draws)
none_own own draws = none_fit (IsEnd own) (OwnPacket own) (own_carries own) own draws

pub own_home : (own : Ip) (t : SocketsRecord) (w : Wanted) → OwnFit own (t, w) → AreAtHome own (records_of t)
own_home own t w h r c =
    (each_member (λ (x : Tcb). IsEnd own x.control.local x.control.peer) (records_of t) r (all_ended (IsEnd own) (OwnPacket own) (own_carries own) t h.0) c).home

-- acts that may happen, where what arrives comes to an address of the host, and to 127.0.0.1 from one
module _ (own : Ip) (outside : is_same_ip own loopback ≡ false) (hosts : List Ip) (flying : List Packet) (comes : (p : Packet) → Contains flying p → IsEnd own p.to p.from) where
  act_brings : (act : SocketsAct) (t : SocketsRecord) (w : Wanted) → MayDo flying (flying ++ packets_of w) act → IsTold hosts t w act → Here own t → OwnFit own (t, w)
      → Brings (IsEnd own) (OwnPacket own) (own_carries own) hosts t act
  act_brings (connect_tcp k to) t w may told here h = λ local e. connect_ends own outside hosts k to local t here e
  act_brings (arrival p) t w may told here h = comes p may
  act_brings (elsewhere after) t w may told here h =
      each_here (OwnPacket own) (packets_of after)
      (λ p c.
      ⊎_elim
      (λ before. each_member (OwnPacket own) (packets_of w) p h.1 before)
      (λ sent. datagram_ends own outside hosts t p here sent)
      (told p c))
  act_brings make_udp t w may told here h = tt
  act_brings (bind_udp k at) t w may told here h = tt
  act_brings (connect_udp k to) t w may told here h = tt
  act_brings (send_udp k bytes to) t w may told here h = tt
  act_brings (recv_udp k n) t w may told here h = tt
  act_brings (close_udp k) t w may told here h = tt
  act_brings make_tcp t w may told here h = tt
  act_brings (bind_tcp k at) t w may told here h = tt
  act_brings (listen_tcp k n) t w may told here h = tt
  act_brings (accept_tcp k) t w may told here h = tt
  act_brings (connect_again k) t w may told here h = tt
  act_brings (send_tcp k bytes to quiet) t w may told here h = tt
  act_brings (recv_tcp k n) t w may told here h = tt
  act_brings (shut_tcp k how) t w may told here h = tt
  act_brings (take_error k) t w may told here h = tt
  act_brings (close_tcp k) t w may told here h = tt
  act_brings (alarm k serial) t w may told here h = tt

  acts_fit : (acts : List (Time × SocketsAct)) (t : SocketsRecord) (w : Wanted) → MayAll hosts flying acts t w → AreTold hosts acts t w → Here own t → OwnFit own (t, w)
      → Here own (sockets_after hosts acts (t, w)).0 × OwnFit own (sockets_after hosts acts (t, w))
  acts_fit [] t w may told here h = (here, h)
  acts_fit ((now, act) ∷ acts) t w may told here h =
      let after = sockets_acted hosts now act t w in
      acts_fit acts after.0 after.1 may.1 told.1 (acted_here own hosts now act t w here)
      (acted_fit (IsEnd own) (OwnPacket own) (own_carries own) hosts now act t w (act_brings act t w may.0 told.0 here h) h)

  pub moves_own : (x y : SocketsRecord × Wanted) → Here own x.0 → OwnFit own x → Moves hosts flying x y → Here own y.0 × OwnFit own y
  moves_own x y here h moves =
      let after = acts_fit moves.acts x.0 x.1 moves.may moves.told here h in
      subst (λ (z : SocketsRecord × Wanted). Here own z.0 × OwnFit own z) moves.after after
