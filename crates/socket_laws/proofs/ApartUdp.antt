-- the acts on UDP sockets keep those that are bound apart
use Rattle.std.proofs.Common.{◌≡◌, ℕ, ◌==◌, List, [], ◌∷◌, ◌++◌, length, Bool, true, false, nat_lt, if◌then◌else◌, Option, Some, None, slice_get, set, position, Result, Ok, Err, refl, sym, ap, subst, ◌∙◌}
use Rattle.sim_base.specs.declared.address.Ip.{Ip}
use Rattle.sim_base.specs.declared.address.Addr.{Addr}
use Rattle.sim_base.specs.declared.errno.Errno.{Errno}
use Rattle.sim_base.specs.declared.errno.Errno.TheVariants.{Eaddrnotavail, Edestaddrreq, Emsgsize}
use Rattle.sim_base.specs.declared.packet.Packet.{Packet}
use Rattle.sim_base.specs.Addresses.{Surroundings, any, is_taken, meets, at_free_port}
use Rattle.sim_base.specs.Packet.{max_datagram}
use Rattle.sim_base.specs.Refusals.{◌>>=◌, ◌>>◌, refuse_if, or_refuse}
use Rattle.sim_base.proofs.RefusalLemmas.{bind_ok, then_ok}
use Rattle.sock_udp.specs.declared.datagram.Datagram.{Datagram}
use Rattle.sock_udp.specs.Socket.{UdpState, new_socket, arrive, bind, connect, send, or_else, reach, address_to_bind, address_to_use, address_to_connect, address_and_destination, packet_between, limit}
use Rattle.sock_udp.specs.SocketLaws.{address_to_bind_is_taken, address_to_use_is_taken}
use Rattle.host_wants.specs.declared.error.Refusal.{Refusal}
use Rattle.host_wants.specs.Refusals.{by_errno}
use Rattle.host_sockets.specs.TcpSocket.{bound_end}
use Rattle.host_sockets.specs.Sockets.{SocketsRecord}
use Rattle.host_sockets.specs.Arriving.{takes_in, datagram_in, datagram_at, datagram_arrives}
use Rattle.udp_slots.specs.Slots.{local_in, only_state, oldest_datagram}
use Rattle.host_sockets.specs.Udp.{socket_in, udp_in, with_udp, udp_place, new_udp, closes_udp, udp_end, udp_ends, udp_around, acted_udp, udp_acts, binds_udp, connects_udp, sends_udp, receives_udp}
use Rattle.socket_laws.specs.Histories.{left_by}
use Rattle.socket_laws.specs.Apart.{AreApart, BoundApart}
use Rattle.socket_laws.proofs.Apart.{apart_loses, loses_set, loses_unbound, loses_put, IsFree, apart_set, first_of_ends, free_among}
use Rattle.socket_laws.proofs.ApartTcp.{Kept, kept_all}

-- a socket that is made or closed is unbound
pub makes_kept : (t : SocketsRecord) → Kept t (new_udp t).1
unfolding new_udp
makes_kept t = record { own = refl; tcp = λ k a e. e; udp = loses_put local_in t.udp (udp_place t) (Some new_socket) refl }

pub closes_udp_kept : (k : ℕ) (t : SocketsRecord) → Kept t (closes_udp k t)
unfolding closes_udp
closes_udp_kept k t = record { own = refl; tcp = λ j a e. e; udp = loses_unbound local_in t.udp k None refl }

-- a datagram that arrives
arrives_by : (room : Bool) (from : Addr) (bytes : List ℕ) (u : UdpState) (a : Addr) → (let after : Bool × UdpState = if room then (true, record u { waiting = u.waiting ++ record { from = from; bytes = bytes } ∷ [] }) else (false, u) in after.1.local) ≡ Some a → u.local ≡ Some a
arrives_by true from bytes u a e = e
arrives_by false from bytes u a e = e

pub there_of : (o : Option (Option UdpState)) (u : UdpState) → socket_in o ≡ Some u → o ≡ Some (Some u)
there_of None u e = cc
there_of (Some slot) u e = ap (λ (x : Option UdpState). Some x) e

in_kept : (from : Addr) (bytes : List ℕ) (k : ℕ) (o : Option UdpState) (t : SocketsRecord) → udp_in k t ≡ o → Kept t (datagram_in from bytes k o t).1
in_kept from bytes k None t there = kept_all t
in_kept from bytes k (Some u) t there = record {
  own = refl;
  tcp = λ j a e. e;
  udp = loses_set local_in t.udp k (Some u) (Some (arrive from bytes u).1) (there_of (slice_get t.udp k) u there) (arrives_by (nat_lt (length u.waiting) limit) from bytes u);
}

at_kept : (from : Addr) (bytes : List ℕ) (o : Option ℕ) (t : SocketsRecord) → Kept t (datagram_at from bytes o t).1
at_kept from bytes None t = kept_all t
at_kept from bytes (Some k) t = in_kept from bytes k (udp_in k t) t refl

pub datagram_kept : (from to : Addr) (bytes : List ℕ) (t : SocketsRecord) → Kept t (datagram_arrives from to bytes t).1
unfolding datagram_arrives
datagram_kept from to bytes t = at_kept from bytes (position (takes_in from to) t.udp) t

-- a call on a socket keeps all apart where what it leaves of that socket does
abbrev Fits : ℕ → SocketsRecord → UdpState → Type 0
Fits k t u = AreApart local_in (set t.udp k (Some u))

after_act : {A : Type 0} (k : ℕ) (t : SocketsRecord) (v : UdpState) (r : Result (A × UdpState) Refusal) → BoundApart t → ((a : A) (u : UdpState) → r ≡ Ok (a, u) → Fits k t u) → BoundApart (left_by (r >>= λ (answer, after). Ok (answer, with_udp k v after t)) t)
after_act k t v (Ok (a, u)) h fits = record { tcp = h.tcp; udp = fits a u refl }
after_act k t v (Err why) h fits = h

after_call : {A : Type 0} (k : ℕ) (t : SocketsRecord) (act : UdpState → Result (A × UdpState) Refusal) (o : Option UdpState) → BoundApart t → ((u : UdpState) → o ≡ Some u → (a : A) (u' : UdpState) → act u ≡ Ok (a, u') → Fits k t u') → BoundApart (left_by (acted_udp act k o t) t)
after_call k t act None h fits = h
after_call k t act (Some u) h fits = after_act k t u (act u) h (fits u refl)

udp_apart : {A : Type 0} (k : ℕ) (t : SocketsRecord) (act : UdpState → Result (A × UdpState) Refusal) → BoundApart t → ((u : UdpState) → slice_get t.udp k ≡ Some (Some u) → (a : A) (u' : UdpState) → act u ≡ Ok (a, u') → Fits k t u') → BoundApart (left_by (udp_acts act k t) t)
udp_apart k t act h fits = after_call k t act (udp_in k t) h (λ u e. fits u (there_of (slice_get t.udp k) u e))

pub errno_ok : {A : Type 0} (r : Result A Errno) (a : A) → by_errno r ≡ Ok a → r ≡ Ok a
errno_ok (Ok x) a e = cc
errno_ok (Err x) a e = cc

pub state_ok : (r : Result UdpState Refusal) (a : Unit {0}) (u : UdpState) → only_state r ≡ Ok (a, u) → r ≡ Ok u
state_ok (Ok x) a u e =
    let same : (tt, x) ≡ (a, u) = cc in
    ap (λ (y : Unit {0} × UdpState). let r : Result UdpState Refusal = Ok y.1 in r) same
state_ok (Err x) a u e = cc

-- an end that isn't taken among all is free for each
udp_free : (t : SocketsRecord) (k : ℕ) (at : Addr) → is_taken (udp_ends t) at ≡ false → IsFree local_in t.udp k at
udp_free t k at e = free_among local_in udp_end at (λ slot none b is. end_alone (local_in slot) at none b is) t.udp k e
  where
    end_alone : (o : Option Addr) (at : Addr) → is_taken (bound_end o) at ≡ false → (b : Addr) → o ≡ Some b → meets at b ≡ false
    end_alone None at e b is = cc
    end_alone (Some a) at e b is = first_of_ends (Some a) [] at e b is

-- where it is bound that sends or connects
fits_used : (hosts : List Ip) (k : ℕ) (t : SocketsRecord) (u u' : UdpState) (at : Addr) (o : Option Addr) → BoundApart t → slice_get t.udp k ≡ Some (Some u) → u.local ≡ o → address_to_use (udp_around hosts t) u ≡ Ok at → u'.local ≡ Some at → Fits k t u'
fits_used hosts k t u u' at None h there is used bound =
    apart_set local_in t.udp k (Some u') at h.udp (udp_free t k at (address_to_use_is_taken (udp_around hosts t) at u is used)) bound
fits_used hosts k t u u' at (Some b) h there is used bound =
    let given : or_refuse (or_else (Some b) (at_free_port (udp_ends t) any)) Eaddrnotavail ≡ Ok at =
    subst (λ (o : Option Addr). or_refuse (or_else o (at_free_port (udp_ends t) any)) Eaddrnotavail ≡ Ok at) is used in
    let same : b ≡ at = cc in
    apart_loses local_in t.udp (set t.udp k (Some u')) h.udp
    (loses_set local_in t.udp k (Some u) (Some u') there (λ a f. is ∙ (ap (λ (x : Addr). Some x) same ∙ (sym bound ∙ f))))

-- bind(2)
bind_fits : (hosts : List Ip) (k : ℕ) (to : Addr) (t : SocketsRecord) (u u' : UdpState) → BoundApart t → bind (udp_around hosts t) to u ≡ Ok u' → Fits k t u'
bind_fits hosts k to t u u' h e =
    let given = bind_ok (address_to_bind (udp_around hosts t) to u) (λ (at : Addr). Ok (let after : UdpState = record u { local = Some at } in after)) u' e in
    let made : (let after : UdpState = record u { local = Some given.0 } in after) ≡ u' = ok_same _ u' given.1.1 in
    apart_set local_in t.udp k (Some u') given.0 h.udp (udp_free t k given.0 (address_to_bind_is_taken (udp_around hosts t) to given.0 u given.1.0)) (ap (λ (v : UdpState). v.local) (sym made))
  where
    ok_same : (v w : UdpState) → (let r : Result UdpState Errno = Ok v in r ≡ Ok w) → v ≡ w
    ok_same v w e = cc

pub binds_apart : (hosts : List Ip) (k : ℕ) (to : Addr) (t : SocketsRecord) → BoundApart t → BoundApart (left_by (binds_udp hosts k to t) t)
unfolding binds_udp
binds_apart hosts k to t h =
    udp_apart k t (λ u. only_state (by_errno (bind (udp_around hosts t) to u))) h
    (λ u there a u' e. bind_fits hosts k to t u u' h (errno_ok _ u' (state_ok _ a u' e)))

-- connect(2)
connect_fits : (hosts : List Ip) (k : ℕ) (to : Addr) (t : SocketsRecord) (u u' : UdpState) → BoundApart t → slice_get t.udp k ≡ Some (Some u) → connect (udp_around hosts t) to u ≡ Ok u' → Fits k t u'
connect_fits hosts k to t u u' h there e =
    let given = bind_ok (address_to_connect (udp_around hosts t) to u) (λ (at : Addr). Ok (let after : UdpState = record u { local = Some at; peer = Some to } in after)) u' e in
    let made : (let after : UdpState = record u { local = Some given.0; peer = Some to } in after) ≡ u' = ok_same _ u' given.1.1 in
    let used = then_ok (refuse_if (to.port == 0) Eaddrnotavail) _ given.0 (then_ok (reach (udp_around hosts t) to u) _ given.0 given.1.0) in
    fits_used hosts k t u u' given.0 u.local h there refl used (ap (λ (v : UdpState). v.local) (sym made))
  where
    ok_same : (v w : UdpState) → (let r : Result UdpState Errno = Ok v in r ≡ Ok w) → v ≡ w
    ok_same v w e = cc

pub connects_apart : (hosts : List Ip) (k : ℕ) (to : Addr) (t : SocketsRecord) → BoundApart t → BoundApart (left_by (connects_udp hosts k to t) t)
unfolding connects_udp
connects_apart hosts k to t h =
    udp_apart k t (λ u. only_state (by_errno (connect (udp_around hosts t) to u))) h
    (λ u there a u' e. connect_fits hosts k to t u u' h there (errno_ok _ u' (state_ok _ a u' e)))

-- send(2)
pub send_uses : (around : Surroundings) (size : ℕ) (to : Option Addr) (u : UdpState) (x : Addr × Addr) → address_and_destination around size to u ≡ Ok x → address_to_use around u ≡ Ok x.0
send_uses around size to u x e =
    let first = then_ok (refuse_if (nat_lt max_datagram size) Emsgsize) _ x e in
    let second = bind_ok (or_refuse (or_else to u.peer) Edestaddrreq) (λ (destination : Addr). reach around destination u >> (address_to_use around u >>= λ (bound : Addr). Ok (bound, destination))) x first in
    let third = bind_ok (address_to_use around u) (λ (bound : Addr). Ok (bound, second.0)) x (then_ok (reach around second.0 u) _ x second.1.1) in
    third.1.0 ∙ ap (λ (at : Addr). Ok at) (front third.0 second.0 x third.1.1)
  where
    front : (a b : Addr) (x : Addr × Addr) → (let r : Result (Addr × Addr) Errno = Ok (a, b) in r ≡ Ok x) → a ≡ x.0
    front a b x e = let same : (a, b) ≡ x = cc in ap (λ (y : Addr × Addr). y.0) same

send_fits : (hosts : List Ip) (k : ℕ) (bytes : List ℕ) (to : Option Addr) (t : SocketsRecord) (u : UdpState) (p : Packet) (u' : UdpState) → BoundApart t → slice_get t.udp k ≡ Some (Some u) → send (udp_around hosts t) bytes to u ≡ Ok (p, u') → Fits k t u'
send_fits hosts k bytes to t u p u' h there e =
    let given = bind_ok (address_and_destination (udp_around hosts t) (length bytes) to u) (λ (x : Addr × Addr). Ok (packet_between (udp_around hosts t) bytes x.0 x.1, (let after : UdpState = record u { local = Some x.0 } in after))) (p, u') e in
    let made : (let after : UdpState = record u { local = Some given.0.0 } in after) ≡ u' = back _ _ p u' given.1.1 in
    fits_used hosts k t u u' given.0.0 u.local h there refl (send_uses (udp_around hosts t) (length bytes) to u given.0 given.1.0) (ap (λ (v : UdpState). v.local) (sym made))
  where
    back : (q : Packet) (v : UdpState) (p : Packet) (w : UdpState) → (let r : Result (Packet × UdpState) Errno = Ok (q, v) in r ≡ Ok (p, w)) → v ≡ w
    back q v p w e = let same : (q, v) ≡ (p, w) = cc in ap (λ (y : Packet × UdpState). y.1) same

pub sends_apart : (hosts : List Ip) (k : ℕ) (bytes : List ℕ) (to : Option Addr) (t : SocketsRecord) → BoundApart t → BoundApart (left_by (sends_udp hosts k bytes to t) t)
unfolding sends_udp
sends_apart hosts k bytes to t h =
    udp_apart k t (λ u. by_errno (send (udp_around hosts t) bytes to u)) h
    (λ u there p u' e. send_fits hosts k bytes to t u p u' h there (errno_ok _ (p, u') e))

-- recv(2)
oldest_as : (u : UdpState) (waiting : List Datagram) (count : ℕ) (d : Datagram) (u' : UdpState) → oldest_datagram u waiting count ≡ Ok (d, u') → u.local ≡ u'.local
oldest_as u [] count d u' e = cc
oldest_as u (x ∷ behind) count d u' e = back _ _ d u' e
  where
    back : (q : Datagram) (v : UdpState) (p : Datagram) (w : UdpState) → (let r : Result (Datagram × UdpState) Refusal = Ok (q, v) in r ≡ Ok (p, w)) → v.local ≡ w.local
    back q v p w e = let same : (q, v) ≡ (p, w) = cc in ap (λ (y : Datagram × UdpState). y.1.local) same

kept_after : {A : Type 0} (k : ℕ) (t : SocketsRecord) (u : UdpState) (r : Result (A × UdpState) Refusal) → slice_get t.udp k ≡ Some (Some u) → ((a : A) (u' : UdpState) → r ≡ Ok (a, u') → u.local ≡ u'.local) → Kept t (left_by (r >>= λ (answer, after). Ok (answer, with_udp k u after t)) t)
kept_after k t u (Ok (a, u')) there same =
    record { own = refl; tcp = λ j b e. e; udp = loses_set local_in t.udp k (Some u) (Some u') there (λ b e. same a u' refl ∙ e) }
kept_after k t u (Err why) there same = kept_all t

kept_call : {A : Type 0} (k : ℕ) (t : SocketsRecord) (act : UdpState → Result (A × UdpState) Refusal) (o : Option UdpState) → udp_in k t ≡ o → ((u : UdpState) (a : A) (u' : UdpState) → act u ≡ Ok (a, u') → u.local ≡ u'.local) → Kept t (left_by (acted_udp act k o t) t)
kept_call k t act None e same = kept_all t
kept_call k t act (Some u) e same = kept_after k t u (act u) (there_of (slice_get t.udp k) u e) (same u)

pub receives_kept : (k count : ℕ) (t : SocketsRecord) → Kept t (left_by (receives_udp k count t) t)
unfolding receives_udp
receives_kept k count t = kept_call k t (λ u. oldest_datagram u u.waiting count) (udp_in k t) refl (λ u d u' e. oldest_as u u.waiting count d u' e)
