-- Laws of sockets: an address is given to one socket alone, and a datagram has one taker.
use Rattle.std.specs.Prelude.{◌≡◌, ℕ, Bool, true, false, not, List, Option, Some, None, is_some, option_map, Result, Ok, Err, refl}
use Rattle.std.proofs.Common.{sym, ap, ◌∙◌, arith}
use Rattle.std.proofs.lemmas.Bool.{and_parts}
use Rattle.std.proofs.lemmas.Bool.Decides.{nat_tests}
use Rattle.sim_base.specs.declared.address.Addr.{Addr}
use Rattle.sim_base.specs.declared.errno.Errno.{Errno}
use Rattle.sim_base.specs.declared.errno.Errno.TheVariants.{Einval, Eaddrinuse, Eaddrnotavail}
use Rattle.sim_base.specs.Addresses.{Surroundings, any, is_local, meets, is_taken, least_free_port, at_port, at_free_port, with_port}
use Rattle.sim_base.specs.AddressLaws.{first_free_port_IsLeastFree, has_port_meets}
use Rattle.sim_base.specs.Refusals.{◌>>=◌, ◌>>◌, refuse_if, or_refuse}
use Rattle.sock_udp.specs.Socket.{UdpState, address_to_bind, connect, connected, or_else, address_to_use, send, sent, is_bound_for, is_open_to, takes}

-- what a call refuses where an address is taken isn't taken where the call answers it
answered : (around : Surroundings) (found bound : Addr) (taken : Bool) → is_taken around.bound found ≡ taken
    → (refuse_if taken Eaddrinuse >> Ok found) ≡ Ok bound → is_taken around.bound bound ≡ false
answered around found bound true e refused = cc
answered around found bound false e refused = let same : found ≡ bound = cc in ap (is_taken around.bound) (sym same) ∙ e

answered_port : (around : Surroundings) (bound : Addr) (found : Option Addr)
    → (or_refuse found Eaddrnotavail >>= λ at. refuse_if (is_taken around.bound at) Eaddrinuse >> Ok at) ≡ Ok bound → is_taken around.bound bound ≡ false
answered_port around bound None refused = cc
answered_port around bound (Some at) given = answered around at bound (is_taken around.bound at) refl given

answered_local : (around : Surroundings) (at bound : Addr) (is_bound is_other : Bool)
    → (refuse_if is_bound Einval >> (refuse_if is_other Eaddrnotavail >> (or_refuse (with_port around.bound at) Eaddrnotavail >>= λ found. refuse_if (is_taken around.bound found) Eaddrinuse >> Ok found))) ≡ Ok bound
    → is_taken around.bound bound ≡ false
answered_local around at bound true is_other given = cc
answered_local around at bound false true given = cc
answered_local around at bound false false given = answered_port around bound (with_port around.bound at) given

-- a socket that asks for an address meets no other where it is bound
pub address_to_bind_is_taken : (around : Surroundings) (at bound : Addr) (socket : UdpState) → address_to_bind around at socket ≡ Ok bound → is_taken around.bound bound ≡ false
address_to_bind_is_taken around at bound socket given = answered_local around at bound (is_some socket.local) (not (is_local around.own at.ip)) given

free_port : (around : Surroundings) (bound : Addr) (found : Option ℕ) → least_free_port around.bound ≡ found
    → or_refuse (option_map (at_port any) found) Eaddrnotavail ≡ Ok bound → is_taken around.bound bound ≡ false
free_port around bound None e given = cc
free_port around bound (Some port) e given =
    let same : at_port any port ≡ bound = cc in
    let free = (first_free_port_IsLeastFree around.bound 10000 55536 port e).free in
    ap (is_taken around.bound) (sym same) ∙ has_port_meets any port around.bound free

used_port : (around : Surroundings) (bound : Addr) (local : Option Addr) → local ≡ None
    → or_refuse (or_else local (at_free_port around.bound any)) Eaddrnotavail ≡ Ok bound → is_taken around.bound bound ≡ false
used_port around bound None unbound given = free_port around bound (least_free_port around.bound) refl given
used_port around bound (Some at) unbound given = cc

-- nor does an unbound one that is bound by sending or connecting
pub address_to_use_is_taken : (around : Surroundings) (bound : Addr) (socket : UdpState) → socket.local ≡ None → address_to_use around socket ≡ Ok bound → is_taken around.bound bound ≡ false
address_to_use_is_taken around bound socket unbound given = used_port around bound socket.local unbound given

bound_meet : (a b to : Addr) → is_bound_for (Some a) to ≡ true → is_bound_for (Some b) to ≡ true → meets a b ≡ true
bound_meet a b to p q = grind (arith, nat_tests)

takers_meet : (a b to : Addr) (s t : Option Addr) → s ≡ Some a → t ≡ Some b → is_bound_for s to ≡ true → is_bound_for t to ≡ true → meets a b ≡ true
takers_meet a b to s t here there p q = bound_meet a b to (ap (λ o. is_bound_for o to) (sym here) ∙ p) (ap (λ o. is_bound_for o to) (sym there) ∙ q)

-- two sockets that take one datagram meet, so of a host's sockets at most one takes it
pub takes_meets : (from to a b : Addr) (s t : UdpState) → s.local ≡ Some a → t.local ≡ Some b → takes from to s ≡ true → takes from to t ≡ true → meets a b ≡ true
takes_meets from to a b s t here there p q =
    takers_meet a b to s.local t.local here there (and_parts _ (is_open_to s.peer from) p).0 (and_parts _ (is_open_to t.peer from) q).0

-- where a socket is bound that is bound already
kept : (local found other : Option Addr) (at : Addr) → local ≡ Some at → or_else local found ≡ or_else local other
kept None found other at is_bound = cc
kept (Some own) found other at is_bound = refl

-- a bound socket sends whatever the others are bound to
pub send_bound : (around : Surroundings) (others : List Addr) (bytes : List ℕ) (to : Option Addr) (socket : UdpState) (at : Addr) → socket.local ≡ Some at
    → send (record around { bound = others }) bytes to socket ≡ send around bytes to socket
send_bound around others bytes to socket at is_bound =
    ap (sent around bytes to socket) (kept socket.local (at_free_port others any) (at_free_port around.bound any) at is_bound)

-- and is connected whatever the others are bound to
pub connect_bound : (around : Surroundings) (others : List Addr) (to : Addr) (socket : UdpState) (at : Addr) → socket.local ≡ Some at
    → connect (record around { bound = others }) to socket ≡ connect around to socket
connect_bound around others to socket at is_bound =
    ap (connected around to socket) (kept socket.local (at_free_port others any) (at_free_port around.bound any) at is_bound)

bound_twice : {A : Type 0} (is_bound : Bool) (rest : Result A Errno) → is_bound ≡ true → (refuse_if is_bound Einval >> rest) ≡ Err Einval
bound_twice true rest e = refl
bound_twice false rest e = cc

-- and isn't bound again
pub bind_bound : (around : Surroundings) (to at : Addr) (socket : UdpState) → socket.local ≡ Some at → address_to_bind around to socket ≡ Err Einval
bind_bound around to at socket is_bound = bound_twice (is_some socket.local) _ (ap is_some is_bound)
