-- of sockets that are apart at most one takes a datagram
use Rattle.std.proofs.Common.{◌≡◌, ◌≢◌, ℕ, List, true, false, Option, Some, None, slice_get, ◌⊎◌, inl, inr, refl, sym, ap, ◌∙◌}
use Rattle.std.proofs.lemmas.Bool.{cases_eq, and_parts, false≢true}
use Rattle.sim_base.specs.declared.address.Ip.{Ip}
use Rattle.sim_base.specs.declared.address.Addr.{Addr}
use Rattle.sim_base.specs.declared.time.Time.{Time}
use Rattle.sim_base.specs.Addresses.{meets}
use Rattle.sock_udp.specs.Socket.{UdpState, is_bound_for, is_open_to, takes}
use Rattle.sock_udp.specs.SocketLaws.{takes_meets}
use Rattle.socket_laws.specs.Apart.{end_of, AreApart}
use Rattle.socket_laws.specs.Histories.{SocketsAct, sockets_of}
use Rattle.udp_slots.specs.Slots.{local_in}
use Rattle.socket_laws.proofs.ApartActs.{bound_apart}

-- a socket that takes a datagram is bound
bound_for : (o : Option Addr) (to : Addr) → is_bound_for o to ≡ true → (a : Addr) × (o ≡ Some a)
bound_for None to e = absurd (false≢true e)
bound_for (Some a) to e = (a, refl)

by_places : (slots : List (Option UdpState)) (from to : Addr) (i j : ℕ) (u v : UdpState) → AreApart local_in slots → slice_get slots i ≡ Some (Some u) → takes from to u ≡ true → slice_get slots j ≡ Some (Some v) → takes from to v ≡ true → (i ≡ j) ⊎ (i ≢ j) → i ≡ j
by_places slots from to i j u v apart there first other second (inl same) = same
by_places slots from to i j u v apart there first other second (inr ne) =
    let a = bound_for u.local to (and_parts _ (is_open_to u.peer from) first).0 in
    let b = bound_for v.local to (and_parts _ (is_open_to v.peer from) second).0 in
    let meet : meets a.0 b.0 ≡ true = takes_meets from to a.0 b.0 u v a.1 b.1 first second in
    let apart : meets a.0 b.0 ≡ false = apart i j a.0 b.0 ne (ap (end_of local_in) there ∙ a.1) (ap (end_of local_in) other ∙ b.1) in
    absurd (false≢true (sym apart ∙ meet))

pub one_takes : (hosts : List Ip) (own : Ip) (draws : List ℕ) (acts : List (Time × SocketsAct)) (from to : Addr) (i j : ℕ) (u v : UdpState) → slice_get (sockets_of hosts own draws acts).udp i ≡ Some (Some u) → takes from to u ≡ true → slice_get (sockets_of hosts own draws acts).udp j ≡ Some (Some v) → takes from to v ≡ true → i ≡ j
one_takes hosts own draws acts from to i j u v there first other second =
    by_places (sockets_of hosts own draws acts).udp from to i j u v (bound_apart hosts own draws acts).udp there first other second (cases_eq i j)
