-- whatever happens, what sockets are bound to is an address of the host
use Rattle.std.proofs.Common.{◌≡◌, ⊎_elim, ℕ, ℤ, ◌==◌, ◌||◌, not, List, [], ◌∷◌, length, set, Bool, true, false, Option, Some, None, is_some, option_map, slice_get, Result, Ok, Err, refl, sym, ap, subst, ◌∙◌}
use Rattle.std.proofs.lemmas.Bool.{cases_eq}
use Rattle.sim_base.specs.Addresses.{Surroundings, any, is_same_ip, is_local, is_taken, loopback, with_port, at_port, at_free_port, least_free_port}
use Rattle.sim_base.specs.Refusals.{◌>>=◌, ◌>>◌, refuse_if, or_refuse}
use Rattle.sim_base.specs.declared.address.Ip.{Ip}
use Rattle.sim_base.specs.declared.address.Addr.{Addr}
use Rattle.sim_base.specs.declared.errno.Errno.{Errno}
use Rattle.sim_base.specs.declared.errno.Errno.TheVariants.{Eaddrinuse, Eaddrnotavail, Einval}
use Rattle.sim_base.specs.declared.packet.Packet.{Packet}
use Rattle.sim_base.specs.declared.time.Time.{Time}
use Rattle.sim_base.proofs.RefusalLemmas.{bind_ok, then_ok}
use Rattle.sock_udp.specs.Socket.{UdpState, or_else, address_to_bind, bind, reach, address_to_connect, connect, address_and_destination, packet_between, send}
use Rattle.tcp_laws.proofs.Tests.{by_test}
use Rattle.host_wants.specs.declared.error.Refusal.{Refusal}
use Rattle.host_wants.specs.declared.error.Refusal.TheVariants as refusal
use Rattle.host_wants.specs.Refusals.{by_errno}
use Rattle.host_wants.specs.Wanted.{Wanted, nothing_wanted}
use Rattle.host_sockets.specs.TcpSocket.{TcpSocket, with_bound}
use Rattle.host_sockets.specs.Sockets.{SocketsRecord, no_sockets, changes_in, changes_at, tcp_ends, bound_ends}
use Rattle.udp_slots.specs.Slots.{local_in, only_state}
use Rattle.host_sockets.specs.Udp.{udp_in, udp_around, with_udp, acted_udp, binds_udp, connects_udp, sends_udp}
use Rattle.host_sockets.specs.Binding.{bind_begins, bind_begun, bind_asked, binds_tcp, end_to_use, bound_to_use, listening, listen_begun, listen_asked, listens_tcp}
use Rattle.host_sockets.specs.Connecting.{connect_asked}
use Rattle.socket_laws.specs.Apart.{end_of, end_at, tcp_end, AreHere, BoundHere}
use Rattle.socket_laws.specs.Histories.{SocketsAct, left_by, sockets_acted, sockets_after, sockets_of}
use Rattle.socket_laws.proofs.Apart.{other, here}
use Rattle.socket_laws.proofs.ApartTcp.{Kept}
use Rattle.socket_laws.proofs.ApartUdp.{there_of, errno_ok, state_ok, send_uses}
use Rattle.socket_laws.proofs.ApartActs.{acted_kept, by_binding}
use Rattle.socket_laws.proofs.LivePairs.{left_asked}
use Rattle.socket_laws.proofs.SourceEnds.{first_ok, connect_source, connect_to}

-- the host has its address, and its sockets are bound there
pub record Here (host : Ip) (t : SocketsRecord) : Type 0 where
  pub own : t.own ≡ host
  pub bound : BoundHere host t

abbrev pub IsBoundHere : Ip → Option Addr → Type 0
IsBoundHere own o = (a : Addr) → o ≡ Some a → is_local own a.ip ≡ true

here_set : {A : Type 0} (end : A → Option Addr) (own : Ip) (xs : List A) (k : ℕ) (new : A) → AreHere end own xs → IsBoundHere own (end new) → AreHere end own (set xs k new)
here_set end own xs k new all fits j a e =
    ⊎_elim
    (λ same. fits a (here end xs k new a (subst (λ (n : ℕ). end_at end (set xs k new) n ≡ Some a) (sym same) e)))
    (λ apart. all j a (other end xs k new j a apart e))
    (cases_eq k j)

-- bind(2): what is asked for is an address of the host
refused_not : {E : Type 0} (b : Bool) (why : E) → refuse_if b why ≡ Ok tt → b ≡ false
refused_not true why e = cc
refused_not false why e = refl

not_not : (b : Bool) → not b ≡ false → b ≡ true
not_not true e = refl
not_not false e = cc

free_at : {E : Type 0} (at end : Addr) (o : Option ℕ) (why : E) → or_refuse (option_map (at_port at.ip) o) why ≡ Ok end → end.ip ≡ at.ip
free_at at end None why e = cc
free_at at end (Some port) why e =
    let same : at_port at.ip port ≡ end = cc in ap (λ (x : Addr). x.ip) (sym same)

ported : {E : Type 0} (ends : List Addr) (at end : Addr) (why : E) → or_refuse (with_port ends at) why ≡ Ok end → end.ip ≡ at.ip
ported ends at end why =
    by_test (λ (o : Option Addr). or_refuse o why ≡ Ok end → end.ip ≡ at.ip) (at.port == 0) (at_free_port ends at.ip) (Some at)
    (λ zero e. free_at at end (least_free_port ends) why e)
    (λ given e. let same : at ≡ end = cc in ap (λ (x : Addr). x.ip) (sym same))

chosen_end : {E : Type 0} (taken : Bool) (why : E) (found end : Addr) → (refuse_if taken why >> Ok found) ≡ Ok end → found ≡ end
chosen_end true why found end e = cc
chosen_end false why found end e = cc

-- an address that passed, and the port that it was given
passed : {E : Type 0} (own : Ip) (ends : List Addr) (at end : Addr) (taken : Addr → Bool) (why other : E) → is_local own at.ip ≡ true → (or_refuse (with_port ends at) why >>= λ x. refuse_if (taken x) other >> Ok x) ≡ Ok end → is_local own end.ip ≡ true
passed own ends at end taken why other local e =
    let found = bind_ok (or_refuse (with_port ends at) why) (λ (x : Addr). refuse_if (taken x) other >> Ok x) end e in
    let same = chosen_end (taken found.0) other found.0 end found.1.1 in
    subst (λ (x : Addr). is_local own x.ip ≡ true) same
    (subst (λ (x : Ip). is_local own x ≡ true) (sym (ported ends at found.0 why found.1.0)) local)

begun_local : (own : Ip) (at : Addr) (o : Option TcpSocket) (why : Refusal) → (or_refuse o why >>= λ s. bind_begins own at s) ≡ Ok tt → is_local own at.ip ≡ true
begun_local own at None why e = cc
begun_local own at (Some s) why e =
    not_not (is_local own at.ip) (refused_not (not (is_local own at.ip)) (refusal.Errno Eaddrnotavail) (then_ok (refuse_if (is_some s.bound) (refusal.Errno Einval)) _ tt e))

bind_local : (k : ℕ) (at end : Addr) (t : SocketsRecord) → bind_asked k at t ≡ Ok end → is_local t.own end.ip ≡ true
bind_local k at end t e =
    passed t.own (tcp_ends t) at end (is_taken (bound_ends t)) (refusal.Errno Eaddrnotavail) (refusal.Errno Eaddrinuse)
    (begun_local t.own at (slice_get t.tcp k) _ (first_ok (bind_begun k at t) _ end e))
    (then_ok (bind_begun k at t) _ end e)

-- what is used: the bound end, or 0.0.0.0
any_local : (own : Ip) → is_local own any ≡ true
any_local own = refl

used_free : {E : Type 0} (own : Ip) (at : Addr) (o : Option ℕ) (why : E) → or_refuse (option_map (at_port any) o) why ≡ Ok at → is_local own at.ip ≡ true
used_free own at None why e = cc
used_free own at (Some port) why e =
    let same : at_port any port ≡ at = cc in subst (λ (x : Addr). is_local own x.ip ≡ true) same (any_local own)

used : {E : Type 0} (own : Ip) (ends : List Addr) (o : Option Addr) (at : Addr) (why : E) → IsBoundHere own o → or_refuse (or_else o (at_free_port ends any)) why ≡ Ok at → is_local own at.ip ≡ true
used own ends None at why h e = used_free own at (least_free_port ends) why e
used own ends (Some b) at why h e = let same : b ≡ at = cc in subst (λ (x : Addr). is_local own x.ip ≡ true) same (h b refl)

used_at : (own : Ip) (t : SocketsRecord) (o : Option TcpSocket) (why : Refusal) (at : Addr) → ((s : TcpSocket) → o ≡ Some s → IsBoundHere own s.bound) → (or_refuse o why >>= λ s. end_to_use t s) ≡ Ok at → is_local own at.ip ≡ true
used_at own t None why at h e = cc
used_at own t (Some s) why at h e = used own (tcp_ends t) s.bound at (refusal.Errno Eaddrnotavail) (h s refl) e

pub used_here : (own : Ip) (k : ℕ) (t : SocketsRecord) (at : Addr) → ((s : TcpSocket) → slice_get t.tcp k ≡ Some s → IsBoundHere own s.bound) → bound_to_use k t ≡ Ok at → is_local own at.ip ≡ true
used_here own k t at h e = used_at own t (slice_get t.tcp k) _ at h e

pub bound_here : (own : Ip) (k : ℕ) (at end : Addr) (t : SocketsRecord) → t.own ≡ own → bind_asked k at t ≡ Ok end → is_local own end.ip ≡ true
bound_here own k at end t host e =
    subst (λ (x : Ip). is_local x end.ip ≡ true) host (bind_local k at end t e)

-- bind(2) and listen(2) on TCP sockets
changed_here : (own : Ip) (k : ℕ) (f : TcpSocket → TcpSocket) (at : Addr) (o : Option TcpSocket) (t : SocketsRecord) → slice_get t.tcp k ≡ o → ((s : TcpSocket) → (f s).bound ≡ Some at) → is_local own at.ip ≡ true → Here own t → Here own (changes_in k f o t)
changed_here own k f at None t there is local h = h
changed_here own k f at (Some s) t there is local h = record {
  own = h.own;
  bound = record {
    tcp = here_set tcp_end own t.tcp k (f s) h.bound.tcp (λ a e. let both : Some at ≡ Some a = sym (is s) ∙ e in let same : at ≡ a = cc in subst (λ (x : Addr). is_local own x.ip ≡ true) same local);
    udp = h.bound.udp;
  };
}

binds_here : (own : Ip) (k : ℕ) (at : Addr) (t : SocketsRecord) → Here own t → Here own (left_by (binds_tcp k at t) t)
unfolding binds_tcp
binds_here own k at t h =
    left_asked (Here own) (bind_asked k at t) (λ end. (tt, changes_at k (with_bound end) t)) t
    (λ end e. changed_here own k (with_bound end) end (slice_get t.tcp k) t refl (λ s. refl) (bound_here own k at end t h.own e) h) h

pub tcp_bound : (own : Ip) (k : ℕ) (t : SocketsRecord) → Here own t → (s : TcpSocket) → slice_get t.tcp k ≡ Some s → IsBoundHere own s.bound
tcp_bound own k t h s there a e = h.bound.tcp k a (ap (end_of tcp_end) there ∙ e)

listens_here : (own : Ip) (k : ℕ) (count : ℤ) (t : SocketsRecord) → Here own t → Here own (left_by (listens_tcp k count t) t)
unfolding listens_tcp
listens_here own k count t h =
    left_asked (Here own) (listen_asked k t) (λ at. (tt, changes_at k (listening at count) t)) t
    (λ at e.
    let local = used_here own k t at (tcp_bound own k t h) (then_ok (listen_begun k t) (bound_to_use k t) at e) in
    changed_here own k (listening at count) at (slice_get t.tcp k) t refl (λ s. refl) local h) h

-- bind(2), connect(2) and send(2) on UDP sockets
slot_after : {A : Type 0} (own : Ip) (k : ℕ) (t : SocketsRecord) (v : UdpState) (r : Result (A × UdpState) Refusal) → Here own t → ((a : A) (u : UdpState) → r ≡ Ok (a, u) → IsBoundHere own u.local) → Here own (left_by (r >>= λ (answer, after). Ok (answer, with_udp k v after t)) t)
slot_after own k t v (Ok (a, u)) h fits =
    record { own = h.own; bound = record { tcp = h.bound.tcp; udp = here_set local_in own t.udp k (Some u) h.bound.udp (fits a u refl) } }
slot_after own k t v (Err why) h fits = h

slot_call : {A : Type 0} (own : Ip) (k : ℕ) (t : SocketsRecord) (act : UdpState → Result (A × UdpState) Refusal) (o : Option UdpState) → udp_in k t ≡ o → Here own t → ((u : UdpState) → IsBoundHere own u.local → (a : A) (u' : UdpState) → act u ≡ Ok (a, u') → IsBoundHere own u'.local) → Here own (left_by (acted_udp act k o t) t)
slot_call own k t act None e h fits = h
slot_call own k t act (Some u) e h fits =
    slot_after own k t u (act u) h (fits u (λ a is. h.bound.udp k a (ap (end_of local_in) (there_of (slice_get t.udp k) u e) ∙ is)))

-- the socket that an act leaves is bound to what the act used
left_bound : (own : Ip) (u : UdpState) (at : Addr) → u.local ≡ Some at → is_local own at.ip ≡ true → IsBoundHere own u.local
left_bound own u at is local a e =
    let same : Some at ≡ Some a = sym is ∙ e in
    let at_is : at ≡ a = cc in subst (λ (x : Addr). is_local own x.ip ≡ true) at_is local

bind_fits : (around : Surroundings) (to : Addr) (u u' : UdpState) → bind around to u ≡ Ok u' → IsBoundHere around.own u'.local
bind_fits around to u u' e =
    let given = bind_ok (address_to_bind around to u) (λ (at : Addr). Ok (let after : UdpState = record u { local = Some at } in after)) u' e in
    let made : (let after : UdpState = record u { local = Some given.0 } in after) ≡ u' = ok_same _ u' given.1.1 in
    let second = then_ok (refuse_if (is_some u.local) Einval) _ given.0 given.1.0 in
    let local = not_not (is_local around.own to.ip) (refused_not (not (is_local around.own to.ip)) Eaddrnotavail (first_of (refuse_if (not (is_local around.own to.ip)) Eaddrnotavail) _ given.0 second)) in
    left_bound around.own u' given.0 (ap (λ (v : UdpState). v.local) (sym made))
    (passed around.own around.bound to given.0 (is_taken around.bound) Eaddrnotavail Eaddrinuse local (then_ok (refuse_if (not (is_local around.own to.ip)) Eaddrnotavail) _ given.0 second))
  where
    ok_same : (v w : UdpState) → (let r : Result UdpState Errno = Ok v in r ≡ Ok w) → v ≡ w
    ok_same v w e = cc

    first_of : (a : Result (Unit {0}) Errno) (b : Result Addr Errno) (x : Addr) → (a >> b) ≡ Ok x → a ≡ Ok tt
    first_of (Ok v) b x e = refl
    first_of (Err why) b x e = cc

connect_fits : (around : Surroundings) (to : Addr) (u u' : UdpState) → IsBoundHere around.own u.local → connect around to u ≡ Ok u' → IsBoundHere around.own u'.local
connect_fits around to u u' h e =
    let given = bind_ok (address_to_connect around to u) (λ (at : Addr). Ok (let after : UdpState = record u { local = Some at; peer = Some to } in after)) u' e in
    let made : (let after : UdpState = record u { local = Some given.0; peer = Some to } in after) ≡ u' = ok_same _ u' given.1.1 in
    let chosen = then_ok (refuse_if (to.port == 0) Eaddrnotavail) _ given.0 (then_ok (reach around to u) _ given.0 given.1.0) in
    left_bound around.own u' given.0 (ap (λ (v : UdpState). v.local) (sym made)) (used around.own around.bound u.local given.0 Eaddrnotavail h chosen)
  where
    ok_same : (v w : UdpState) → (let r : Result UdpState Errno = Ok v in r ≡ Ok w) → v ≡ w
    ok_same v w e = cc

send_fits : (around : Surroundings) (bytes : List ℕ) (to : Option Addr) (u : UdpState) (p : Packet) (u' : UdpState) → IsBoundHere around.own u.local → send around bytes to u ≡ Ok (p, u') → IsBoundHere around.own u'.local
send_fits around bytes to u p u' h e =
    let given = bind_ok (address_and_destination around (length bytes) to u) (λ (x : Addr × Addr). Ok (packet_between around bytes x.0 x.1, (let after : UdpState = record u { local = Some x.0 } in after))) (p, u') e in
    let made : (let after : UdpState = record u { local = Some given.0.0 } in after) ≡ u' = back _ _ p u' given.1.1 in
    left_bound around.own u' given.0.0 (ap (λ (v : UdpState). v.local) (sym made))
    (used around.own around.bound u.local given.0.0 Eaddrnotavail h (send_uses around (length bytes) to u given.0 given.1.0))
  where
    back : (q : Packet) (v : UdpState) (p : Packet) (w : UdpState) → (let r : Result (Packet × UdpState) Errno = Ok (q, v) in r ≡ Ok (p, w)) → v ≡ w
    back q v p w e = let same : (q, v) ≡ (p, w) = cc in ap (λ (y : Packet × UdpState). y.1) same

at_home : (own : Ip) (t : SocketsRecord) (o : Option Addr) → t.own ≡ own → IsBoundHere t.own o → IsBoundHere own o
at_home own t o same h = subst (λ (x : Ip). IsBoundHere x o) same h

away : (own : Ip) (t : SocketsRecord) (o : Option Addr) → t.own ≡ own → IsBoundHere own o → IsBoundHere t.own o
away own t o same h = subst (λ (x : Ip). IsBoundHere x o) (sym same) h

binds_slot : (own : Ip) (hosts : List Ip) (k : ℕ) (to : Addr) (t : SocketsRecord) → Here own t → Here own (left_by (binds_udp hosts k to t) t)
unfolding binds_udp
binds_slot own hosts k to t h =
    slot_call own k t (λ u. only_state (by_errno (bind (udp_around hosts t) to u))) (udp_in k t) refl h
    (λ u here a u' e. at_home own t u'.local h.own (bind_fits (udp_around hosts t) to u u' (errno_ok _ u' (state_ok _ a u' e))))

connects_slot : (own : Ip) (hosts : List Ip) (k : ℕ) (to : Addr) (t : SocketsRecord) → Here own t → Here own (left_by (connects_udp hosts k to t) t)
unfolding connects_udp
connects_slot own hosts k to t h =
    slot_call own k t (λ u. only_state (by_errno (connect (udp_around hosts t) to u))) (udp_in k t) refl h
    (λ u here a u' e. at_home own t u'.local h.own (connect_fits (udp_around hosts t) to u u' (away own t u.local h.own here) (errno_ok _ u' (state_ok _ a u' e))))

sends_slot : (own : Ip) (hosts : List Ip) (k : ℕ) (bytes : List ℕ) (to : Option Addr) (t : SocketsRecord) → Here own t → Here own (left_by (sends_udp hosts k bytes to t) t)
unfolding sends_udp
sends_slot own hosts k bytes to t h =
    slot_call own k t (λ u. by_errno (send (udp_around hosts t) bytes to u)) (udp_in k t) refl h
    (λ u here p u' e. at_home own t u'.local h.own (send_fits (udp_around hosts t) bytes to u p u' (away own t u.local h.own here) (errno_ok _ (p, u') e)))

-- each act
here_kept : (own : Ip) (t t' : SocketsRecord) → Here own t → Kept t t' → Here own t'
here_kept own t t' h k = record {
  own = k.own ∙ h.own;
  bound = record { tcp = λ j a e. h.bound.tcp j a (k.tcp j a e); udp = λ j a e. h.bound.udp j a (k.udp j a e) };
}

pub acted_here : (own : Ip) (hosts : List Ip) (now : Time) (act : SocketsAct) (t : SocketsRecord) (w : Wanted) → Here own t → Here own (sockets_acted hosts now act t w).0
acted_here own hosts now act t w h =
    by_binding (λ x. Here own (sockets_acted hosts now x t w).0)
    (λ k at. binds_slot own hosts k at t h) (λ k to. connects_slot own hosts k to t h) (λ k bytes to. sends_slot own hosts k bytes to t h)
    (λ k at. binds_here own k at t h) (λ k count. listens_here own k count t h)
    (λ x none. here_kept own t _ h (acted_kept hosts now x t w none)) act

pub here_after : (own : Ip) (hosts : List Ip) (acts : List (Time × SocketsAct)) (t : SocketsRecord) (w : Wanted) → Here own t → Here own (sockets_after hosts acts (t, w)).0
here_after own hosts [] t w h = h
here_after own hosts ((now, act) ∷ acts) t w h =
    let after = sockets_acted hosts now act t w in
    here_after own hosts acts after.0 after.1 (acted_here own hosts now act t w h)

pub here_always : (hosts : List Ip) (own : Ip) (draws : List ℕ) (acts : List (Time × SocketsAct)) → Here own (sockets_of hosts own draws acts)
here_always hosts own draws acts =
    here_after own hosts acts (no_sockets own) (nothing_wanted draws) (record { own = refl; bound = record { tcp = λ k a e. cc; udp = λ k a e. cc } })

pub history_here : (hosts : List Ip) (own : Ip) (draws : List ℕ) (acts : List (Time × SocketsAct)) → BoundHere own (sockets_of hosts own draws acts)
history_here hosts own draws acts = (here_always hosts own draws acts).bound

pub history_own : (hosts : List Ip) (own : Ip) (draws : List ℕ) (acts : List (Time × SocketsAct)) → (let t : SocketsRecord = sockets_of hosts own draws acts in t.own ≡ own)
history_own hosts own draws acts = (here_always hosts own draws acts).own

-- so a connection to 127.0.0.1 comes from it or from the host's own address
pub history_connects : (hosts : List Ip) (own : Ip) (draws : List ℕ) (acts : List (Time × SocketsAct)) (k : ℕ) (to local : Addr) → connect_asked hosts k to (sockets_of hosts own draws acts) ≡ Ok local → is_same_ip to.ip loopback ≡ true → (is_same_ip local.ip loopback || is_same_ip local.ip own) ≡ true
history_connects hosts own draws acts k to local e inside =
    let t = sockets_of hosts own draws acts in
    let h = here_always hosts own draws acts in
    let source = connect_source hosts k to local t e in
    let here : is_local t.own source.0.ip ≡ true =
    subst (λ (x : Ip). is_local x source.0.ip ≡ true) (sym h.own) (used_here own k t source.0 (tcp_bound own k t h) source.1.0) in
    subst (λ (x : Ip). (is_same_ip local.ip loopback || is_same_ip local.ip x) ≡ true) h.own (connect_to hosts k to local source.0 t e source.1.0 here inside)
