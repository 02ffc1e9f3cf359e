-- the own end of what a socket sends, by the rule of source addresses
use Rattle.std.proofs.Common.{◌≡◌, ◌⊎◌, ⊎_elim, inl, inr, ℕ, suc, zero, length, ◌&&◌, ◌||◌, not, List, ◌∷◌, [], set, Bool, true, false, Option, Some, None, is_some, option_map, slice_get, Result, Ok, Err, refl, sym, ap, subst, ◌∙◌, if◌then◌else◌}
use Rattle.sim_base.specs.declared.errno.Errno.{Errno}
use Rattle.sim_base.specs.declared.errno.Errno.TheVariants.{Ebadf, Eaddrnotavail}
use Rattle.sim_base.specs.declared.packet.Packet.{Packet}
use Rattle.sim_base.specs.Addresses.{Surroundings, any, loopback, is_same_ip, is_local, is_reachable, stays_inside, source_ip, at_port, at_free_port, least_free_port}
use Rattle.sim_base.specs.Refusals.{◌>>=◌, ◌>>◌, refuse_if, or_refuse}
use Rattle.sim_base.specs.declared.address.Ip.{Ip}
use Rattle.sim_base.specs.declared.address.Addr.{Addr}
use Rattle.sock_udp.specs.Socket.{UdpState, or_else, address_and_destination, packet_between, send}
use Rattle.host_wants.specs.Refusals.{by_errno}
use Rattle.udp_slots.specs.Slots.{local_in}
use Rattle.host_sockets.specs.Udp.{socket_in, udp_in, with_udp, udp_around, acted_udp, sends_udp}
use Rattle.tcp_laws.proofs.Tests.{by_test}
use Rattle.host_wants.specs.declared.error.Refusal.{Refusal}
use Rattle.host_wants.specs.declared.error.Refusal.TheVariants as refusal
use Rattle.host_sockets.specs.TcpSocket.{TcpSocket}
use Rattle.host_sockets.specs.Sockets.{SocketsRecord, tcp_ends, has_pair}
use Rattle.host_sockets.specs.Binding.{bound_to_use, end_to_use}
use Rattle.host_sockets.specs.Connecting.{refuse_connected, reach_from, reach, source_end, connect_begins, connect_begun, connect_asked}

-- what a chain of questions answers
pub first_ok : {B E : Type 0} (a : Result (Unit {0}) E) (b : Result B E) (x : B) → (a >> b) ≡ Ok x → a ≡ Ok tt
first_ok (Ok u) b x e = refl
first_ok (Err why) b x e = cc

pub next_ok : {B E : Type 0} (a : Result (Unit {0}) E) (b : Result B E) (x : B) → (a >> b) ≡ Ok x → b ≡ Ok x
next_ok (Ok u) b x e = e
next_ok (Err why) b x e = cc

chosen : (taken : Bool) (end own : Addr) (why : Refusal) → (refuse_if taken why >> Ok end) ≡ Ok own → own ≡ end
chosen true end own why e = cc
chosen false end own why e = cc

found_source : (found : Result Addr Refusal) (end : Addr → Addr) (taken : Addr → Bool) (why : Refusal) (own : Addr) → (found >>= λ bound. refuse_if (taken (end bound)) why >> Ok (end bound)) ≡ Ok own → (bound : Addr) × ((found ≡ Ok bound) × (own ≡ end bound))
found_source (Err refused) end taken why own e = cc
found_source (Ok bound) end taken why own e = (bound, (refl, chosen (taken (end bound)) (end bound) own why e))

-- the own end of a record that a connect opens
pub connect_source : (hosts : List Ip) (k : ℕ) (to own : Addr) (t : SocketsRecord) → connect_asked hosts k to t ≡ Ok own → (bound : Addr) × ((bound_to_use k t ≡ Ok bound) × (own ≡ source_end t.own bound to))
connect_source hosts k to own t e =
    found_source (bound_to_use k t) (λ bound. source_end t.own bound to) (λ end. has_pair end to t) _ own (next_ok (connect_begun hosts k to t) _ own e)

-- a socket that is bound to 127.0.0.1 connects to it alone
pub not_refused : {E : Type 0} (inside local : Bool) (why : E) → refuse_if (inside && not local) why ≡ Ok tt → inside ≡ true → local ≡ true
not_refused true true why e i = refl
not_refused true false why e i = cc
not_refused false local why e i = cc

reached_inside : (hosts : List Ip) (to : Ip) (bound : Option Addr) → reach_from hosts to bound ≡ Ok tt → stays_inside bound ≡ true → is_same_ip to loopback ≡ true
reached_inside hosts to bound e i =
    not_refused (stays_inside bound) (is_same_ip to loopback) _ (next_ok (refuse_if (not (is_reachable hosts to)) _) _ tt e) i

begins_reach : (hosts : List Ip) (to : Addr) (s : TcpSocket) → connect_begins hosts to s ≡ Ok tt → reach_from hosts to.ip s.bound ≡ Ok tt
begins_reach hosts to s e =
    let second = next_ok (refuse_connected s.tcb) _ tt e in
    let third = next_ok (refuse_if (is_some s.listen) _) _ tt second in
    first_ok (reach hosts to s) _ tt third

-- what an unbound one is bound to is no single address
free_any : {E : Type 0} (why : E) (o : Option ℕ) (bound : Addr) → or_refuse (option_map (at_port any) o) why ≡ Ok bound → is_same_ip bound.ip any ≡ true
free_any why None bound e = cc
free_any why (Some port) bound e = let same : at_port any port ≡ bound = cc in ap (λ (x : Addr). is_same_ip x.ip any) (sym same)

pub bound_is : {E : Type 0} (why : E) (o : Option Addr) (ends : List Addr) (bound : Addr) → or_refuse (or_else o (at_free_port ends any)) why ≡ Ok bound → (o ≡ Some bound) ⊎ (is_same_ip bound.ip any ≡ true)
bound_is why None ends bound e = inr (free_any why (least_free_port ends) bound e)
bound_is why (Some at) ends bound e = let same : at ≡ bound = cc in inl (ap (λ (x : Addr). Some x) same)

inside_with : (hosts : List Ip) (to : Ip) (o : Option Addr) (bound : Addr) → reach_from hosts to o ≡ Ok tt → (o ≡ Some bound) ⊎ (is_same_ip bound.ip any ≡ true) → is_same_ip bound.ip any ≡ false → is_same_ip bound.ip loopback ≡ true → is_same_ip to loopback ≡ true
inside_with hosts to o bound r is other inside =
    ⊎_elim (λ at. reached_inside hosts to o r (ap stays_inside at ∙ inside)) (λ every. cc) is

inside_at : (hosts : List Ip) (to bound : Addr) (t : SocketsRecord) (o : Option TcpSocket) → (or_refuse o (refusal.Errno Ebadf) >>= λ s. connect_begins hosts to s) ≡ Ok tt → (or_refuse o (refusal.Errno Ebadf) >>= λ s. end_to_use t s) ≡ Ok bound → is_same_ip bound.ip any ≡ false → is_same_ip bound.ip loopback ≡ true → is_same_ip to.ip loopback ≡ true
inside_at hosts to bound t None begun used other inside = cc
inside_at hosts to bound t (Some s) begun used other inside =
    inside_with hosts to.ip s.bound bound (begins_reach hosts to s begun) (bound_is (refusal.Errno Eaddrnotavail) s.bound (tcp_ends t) bound used) other inside

-- from 127.0.0.1 to it alone
pub source_inside : (host bound to : Ip) → is_same_ip host loopback ≡ false → (is_same_ip bound any ≡ false → is_same_ip bound loopback ≡ true → is_same_ip to loopback ≡ true) → is_same_ip (source_ip host bound to) loopback ≡ true → is_same_ip to loopback ≡ true
source_inside host bound to outside reaches =
    let P : Ip → Type 0 = λ ip. is_same_ip ip loopback ≡ true → is_same_ip to loopback ≡ true in
    by_test P (is_same_ip bound any) (if is_same_ip to loopback then loopback else host) bound
    (λ every. by_test P (is_same_ip to loopback) loopback host (λ e h. e) (λ e h. cc))
    (λ one h. reaches one h)

pub connect_from : (hosts : List Ip) (k : ℕ) (to own : Addr) (t : SocketsRecord) → is_same_ip t.own loopback ≡ false → connect_asked hosts k to t ≡ Ok own → is_same_ip own.ip loopback ≡ true → is_same_ip to.ip loopback ≡ true
connect_from hosts k to own t outside e inside =
    let source = connect_source hosts k to own t e in
    source_inside t.own source.0.ip to.ip outside
    (λ other at. inside_at hosts to source.0 t (slice_get t.tcp k) (first_ok (connect_begun hosts k to t) _ own e) source.1.0 other at)
    (ap (λ (x : Addr). is_same_ip x.ip loopback) (sym source.1.1) ∙ inside)

-- to 127.0.0.1 from it, or from the host's own address
local_else : (a b c : Bool) → ((a || b) || c) ≡ true → a ≡ false → (b || c) ≡ true
local_else true b c e f = cc
local_else false b c e f = e

source_to : (host bound to : Ip) → is_local host bound ≡ true → is_same_ip to loopback ≡ true → (is_same_ip (source_ip host bound to) loopback || is_same_ip (source_ip host bound to) host) ≡ true
source_to host bound to here inside =
    let P : Ip → Type 0 = λ ip. (is_same_ip ip loopback || is_same_ip ip host) ≡ true in
    by_test P (is_same_ip bound any) (if is_same_ip to loopback then loopback else host) bound
    (λ every. by_test P (is_same_ip to loopback) loopback host (λ e. refl) (λ e. cc))
    (λ one. local_else (is_same_ip bound any) (is_same_ip bound loopback) (is_same_ip bound host) here one)

pub connect_to : (hosts : List Ip) (k : ℕ) (to own bound : Addr) (t : SocketsRecord) → connect_asked hosts k to t ≡ Ok own → bound_to_use k t ≡ Ok bound → is_local t.own bound.ip ≡ true → is_same_ip to.ip loopback ≡ true → (is_same_ip own.ip loopback || is_same_ip own.ip t.own) ≡ true
connect_to hosts k to own bound t e used here inside =
    let source = connect_source hosts k to own t e in
    let both : Ok source.0 ≡ Ok bound = sym source.1.0 ∙ used in
    let same : source.0 ≡ bound = cc in
    let is : own ≡ source_end t.own bound to = source.1.1 ∙ ap (λ (x : Addr). source_end t.own x to) same in
    ap (λ (x : Addr). is_same_ip x.ip loopback || is_same_ip x.ip t.own) is ∙ source_to t.own bound.ip to.ip here inside

-- a datagram that is sent
unfoldable pub packet_in : Packet → Result (Packet × SocketsRecord) Refusal → Packet
packet_in p (Ok (q, t)) = q
packet_in p (Err why) = p

unfoldable pub record_in : SocketsRecord → Result (Packet × SocketsRecord) Refusal → SocketsRecord
record_in t (Ok (q, after)) = after
record_in t (Err why) = t

pub set_there : (slots : List (Option UdpState)) (k : ℕ) (x y : Option UdpState) → slice_get slots k ≡ Some x → slice_get (set slots k y) k ≡ Some y
set_there [] k x y e = cc
set_there (z ∷ slots) zero x y e = refl
set_there (z ∷ slots) (suc k) x y e = set_there slots k x y e

-- from what its socket is bound to, by the rule
abbrev pub SentFrom : ℕ → Ip → Packet → SocketsRecord → Type 0
SentFrom k host p t = (at : Addr) × ((local_in (udp_in k t) ≡ Some at) × (p.from ≡ source_end host at p.to))

abbrev sent_row : Surroundings → List ℕ → ℕ → UdpState → SocketsRecord → Result (Addr × Addr) Errno → Result (Packet × SocketsRecord) Refusal
sent_row around bytes k u t ends = do
  (answer, after) ← by_errno (ends >>= λ (bound, destination). Ok (packet_between around bytes bound destination, record u { local = Some bound }))
  Ok (answer, with_udp k u after t)

sent_from : (around : Surroundings) (bytes : List ℕ) (k : ℕ) (u : UdpState) (t t' : SocketsRecord) (ends : Result (Addr × Addr) Errno) (p : Packet) → slice_get t.udp k ≡ Some (Some u) → sent_row around bytes k u t ends ≡ Ok (p, t') → SentFrom k around.own p t'
unfolding packet_in record_in
sent_from around bytes k u t t' (Err errno) p at e = cc
sent_from around bytes k u t t' (Ok (bound, destination)) p at e =
    let packet : packet_between around bytes bound destination ≡ p = ap (packet_in p) e in
    let after : with_udp k u (record u { local = Some bound }) t ≡ t' = ap (record_in t) e in
    let there = set_there t.udp k (Some u) (Some (record u { local = Some bound })) at in
    let local : local_in (udp_in k (with_udp k u (record u { local = Some bound }) t)) ≡ Some bound = ap (λ o. local_in (socket_in o)) there in
    (bound, (ap (λ x. local_in (udp_in k x)) (sym after) ∙ local, subst (λ (q : Packet). q.from ≡ source_end around.own bound q.to) packet refl))

sent_slot : (hosts : List Ip) (k : ℕ) (bytes : List ℕ) (to : Option Addr) (t t' : SocketsRecord) (p : Packet) (o : Option (Option UdpState)) → slice_get t.udp k ≡ o → acted_udp (λ u. by_errno (send (udp_around hosts t) bytes to u)) k (socket_in o) t ≡ Ok (p, t') → SentFrom k t.own p t'
sent_slot hosts k bytes to t t' p None at e = cc
sent_slot hosts k bytes to t t' p (Some None) at e = cc
sent_slot hosts k bytes to t t' p (Some (Some u)) at e =
    sent_from (udp_around hosts t) bytes k u t t' (address_and_destination (udp_around hosts t) (length bytes) to u) p at e

pub datagram_source : (hosts : List Ip) (k : ℕ) (bytes : List ℕ) (to : Option Addr) (t t' : SocketsRecord) (p : Packet) → sends_udp hosts k bytes to t ≡ Ok (p, t') → SentFrom k t.own p t'
unfolding sends_udp
datagram_source hosts k bytes to t t' p e = sent_slot hosts k bytes to t t' p (slice_get t.udp k) refl e
