-- how many ends have each given port
use Rattle.std.proofs.Common.{◌≡◌, ◌≢◌, ℕ, zero, suc, ◌+◌, ◌-◌, ◌<◌, ◌≤◌, List, [], ◌∷◌, ◌++◌, length, get_or, replicate, max, ◌*◌, Option, Some, None, slice_get, refl, sym, ap, subst, ◌∙◌, arith, inl, inr}
use Rattle.std.specs.List.{flat_map, sum_by}
use Rattle.std.proofs.lemmas.Bool.{cases_eq}
use Rattle.std.proofs.lemmas.List.Folds.{sum_by-replicate}
use Rattle.std.proofs.lemmas.List.Sums.{sum_by-cons, sum_by-append}
use Rattle.sim_base.specs.declared.address.Addr.{Addr}
use Rattle.sock_tcp.specs.connection.Tcb.{Tcb}
use Rattle.number_sets.specs.Bags.{Holds}
use Rattle.number_sets.specs.Ports.{given_end, once, had}
use Rattle.number_sets.proofs.PortsCounted.{holds_same, counted_in}
use Rattle.host_sockets.specs.declared.given.Given.{Given}
use Rattle.host_sockets.specs.declared.given.Had.{Had}
use Rattle.host_sockets.specs.declared.tcp_sock.TcpSock.{TcpSock}
use Rattle.host_sockets.specs.TcpSocket.{TcpSocket, ends_of, bound_end, record_end}
use Rattle.host_sockets.specs.SocketsStand.{SocketStands, AllStand}
use Rattle.host_sockets.specs.inside.Given.{own_end, had_of, no_ports, times}
use Rattle.host_sockets.specs.inside.Indexing.{Counts}
use Rattle.host_sockets.proofs.Places.{same_length}
use Rattle.host_sockets.proofs.RoomKnown.{element_is}

-- a socket is counted at the given ports of its ends
socket_had : (n : ℕ) (bound : Option Addr) (tcb : Option Tcb) → once (given_end bound) n + once (given_end (own_end tcb)) n ≡ sum_by (had n) (bound_end bound ++ record_end tcb)
socket_had n None None = refl
socket_had n None (Some r) = let one = sum_by-cons (had n) r.control.local [] in omega arith
socket_had n (Some at) None = let one = sum_by-cons (had n) at [] in omega arith
socket_had n (Some at) (Some r) =
    let one = sum_by-cons (had n) r.control.local [] in
    let two = sum_by-cons (had n) at (r.control.local ∷ []) in
    omega arith

all_had : (n : ℕ) (sockets : List TcpSocket) → sum_by (λ (s : TcpSocket). times n (had_of s)) sockets ≡ sum_by (had n) (flat_map ends_of sockets)
all_had n [] = refl
all_had n (s ∷ sockets) =
    let cons = sum_by-cons (λ (x : TcpSocket). times n (had_of x)) s sockets in
    let both = sum_by-append (had n) (ends_of s) (flat_map ends_of sockets) in
    let here = socket_had n s.bound s.tcb in
    let rest = all_had n sockets in
    omega arith

-- what is entered is what the sockets have
entered : (n : ℕ) (ends : List Had) (sockets : List TcpSocket) → ((k : ℕ) (s : TcpSocket) → slice_get sockets k ≡ Some s → get_or ends k no_ports ≡ had_of s) → length ends ≤ length sockets
    → sum_by (times n) ends ≡ sum_by (λ (s : TcpSocket). times n (had_of s)) sockets
entered n [] [] is within = refl
entered n [] (s ∷ sockets) is within =
    let none : 0 ≡ times n (had_of s) = ap (times n) (is 0 s refl) in
    let rest = entered n [] sockets (λ k x at. is (suc k) x at) (omega arith) in
    let cons = sum_by-cons (λ (x : TcpSocket). times n (had_of x)) s sockets in
    omega arith
entered n (h ∷ ends) [] is within = absurd (omega arith)
entered n (h ∷ ends) (s ∷ sockets) is within =
    let same : times n h ≡ times n (had_of s) = ap (times n) (is 0 s refl) in
    let rest = entered n ends sockets (λ k x at. is (suc k) x at) (omega arith) in
    let cons = sum_by-cons (λ (x : TcpSocket). times n (had_of x)) s sockets in
    let one_more = sum_by-cons (times n) h ends in
    omega arith

code_at : (socks : List TcpSock) (sockets : List TcpSocket) (k : ℕ) (s : TcpSocket) → AllStand socks sockets → slice_get sockets k ≡ Some s → (c : TcpSock) × ((slice_get socks k ≡ Some c) × SocketStands c s)
code_at [] [] k s h e = absurd (no_item k s e)
  where
    no_item : (k : ℕ) (s : TcpSocket) → slice_get [] k ≡ Some s → ⊥
    no_item zero s e = cc
    no_item (suc k) s e = cc
code_at [] (x ∷ sockets) k s h e = absurd h
code_at (c ∷ socks) [] k s h e = absurd h
code_at (c ∷ socks) (x ∷ sockets) zero s h e = let same : x ≡ s = cc in (c, (refl, subst (λ (y : TcpSocket). SocketStands c y) same h.0))
code_at (c ∷ socks) (x ∷ sockets) (suc k) s h e = code_at socks sockets k s h.1 e

-- entries without ports behind the others change nothing
none_beyond : (m k : ℕ) → get_or (replicate m no_ports) k no_ports ≡ no_ports
none_beyond zero k = refl
none_beyond (suc m) zero = refl
none_beyond (suc m) (suc k) = none_beyond m k

pub grown_same : (ends : List Had) (m k : ℕ) → get_or (ends ++ replicate m no_ports) k no_ports ≡ get_or ends k no_ports
grown_same [] m k = none_beyond m k
grown_same (x ∷ ends) m zero = refl
grown_same (x ∷ ends) m (suc k) = grown_same ends m k

pub grown_sum : (n : ℕ) (ends : List Had) (m : ℕ) → sum_by (times n) (ends ++ replicate m no_ports) ≡ sum_by (times n) ends
grown_sum n ends m =
    let both = sum_by-append (times n) ends (replicate m no_ports) in
    let none : sum_by (times n) (replicate m no_ports) ≡ m * 0 = sum_by-replicate (times n) m no_ports in
    omega arith

-- the socket that acted is entered: its ports are counted in place of those that it had
pub counts_now : (g g' : Given) (socks : List TcpSock) (place : ℕ) (sock : TcpSock) (was is : Had) → Counts g (λ k. k ≢ place) socks → place < length socks → sock ≡ get_or socks place sock
    → ((s : TcpSocket) → SocketStands sock s → is ≡ had_of s) → was ≡ get_or g.ends.items place no_ports
    → ((f : ℕ → ℕ) → Holds g.counts f → Holds g'.counts (λ n. f n + once is.bound n - once was.bound n + once is.own n - once was.own n))
    → get_or g'.ends.items place no_ports ≡ is
    → ((k : ℕ) → k ≢ place → get_or g'.ends.items k no_ports ≡ get_or g.ends.items k no_ports)
    → ((n : ℕ) → sum_by (times n) g'.ends.items + times n (get_or g.ends.items place no_ports) ≡ sum_by (times n) g.ends.items + times n is)
    → length g'.ends.items ≤ max (length g.ends.items) (place + 1)
    → Counts g' (λ k. Unit {0}) socks
counts_now g g' socks place sock was is h b at told had counted here others sums few = record {
  entries = λ k c s all found stands. elim (cases_eq k place) [
    | inl same ↦
        let there = element_is socks place sock c at (subst (λ (n : ℕ). slice_get socks n ≡ Some c) same found) in
        ap (λ (n : ℕ). get_or g'.ends.items n no_ports) same ∙ (here ∙ told s (subst (λ (x : TcpSock). SocketStands x s) there stands))
    | inr apart ↦ others k apart ∙ h.entries k c s apart found stands
  ];
  counts = holds_same g'.counts (λ n. sum_by (times n) g.ends.items + once is.bound n - once was.bound n + once is.own n - once was.own n) (λ n. sum_by (times n) g'.ends.items)
      (λ n. summed n (sum_by (times n) g.ends.items) (sum_by (times n) g'.ends.items) was is
      (subst (λ (x : Had). times n x ≤ sum_by (times n) g.ends.items) (sym had) (counted_in (times n) no_ports g.ends.items place refl))
      (subst (λ (x : Had). sum_by (times n) g'.ends.items + times n x ≡ sum_by (times n) g.ends.items + times n is) (sym had) (sums n)))
      (counted (λ n. sum_by (times n) g.ends.items) h.counts);
  within = let before = h.within in omega arith;
}
  where
    summed : (n before after : ℕ) (was is : Had) → times n was ≤ before → after + times n was ≡ before + times n is → before + once is.bound n - once was.bound n + once is.own n - once was.own n ≡ after
    summed n before after was is held e = omega arith

-- where nothing is behind, there is nothing to enter
pub counts_behind : (g : Given) (socks : List TcpSock) (place : ℕ) → length socks ≤ place → Counts g (λ k. k ≢ place) socks → Counts g (λ k. Unit {0}) socks
counts_behind g socks place behind h = record {
  entries = λ k c s all at stands. h.entries k c s (λ same. no_socket socks k c (omega arith) at) at stands;
  counts = h.counts;
  within = h.within;
}
  where
    no_socket : (socks : List TcpSock) (k : ℕ) (c : TcpSock) → length socks ≤ k → slice_get socks k ≡ Some c → ⊥
    no_socket [] zero c b e = cc
    no_socket [] (suc k) c b e = cc
    no_socket (x ∷ socks) zero c b e = absurd (omega arith)
    no_socket (x ∷ socks) (suc k) c b e = no_socket socks k c (omega arith) e

-- where no socket acts, what is counted is what the ends have
pub ends_counted : (g : Given) (socks : List TcpSock) (sockets : List TcpSocket) (last n : ℕ) → Counts g (λ k. k ≢ last) socks → length socks ≤ last → AllStand socks sockets
    → sum_by (times n) g.ends.items ≡ sum_by (had n) (flat_map ends_of sockets)
ends_counted g socks sockets last n h behind stands =
    entered n g.ends.items sockets (λ k s at. let there = code_at socks sockets k s stands at in (counts_behind g socks last behind h).entries k there.0 s tt there.1.0 there.1.1) (let same = same_length socks sockets stands in let few = h.within in omega arith)
    ∙ all_had n sockets
