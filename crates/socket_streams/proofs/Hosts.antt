-- from a socket to all sockets of a host
use Rattle.std.proofs.Common.{◌≡◌, inl, ℕ, nat_lt, not, ◌||◌, is_some, Bool, true, false, List, [], ◌∷◌, ◌++◌, length, Option, Some, None, slice_get, set, flat_map, refl, sym, subst, ◌∙◌, append_assoc}
use Rattle.std.specs.List.{position_or_len}
use Rattle.std.specs.List.Sorted.{IsPermutation}
use Rattle.std.proofs.lemmas.List.Folds.{find_at}
use Rattle.std.proofs.lemmas.List.Sorted.{IsPermutation-refl, IsPermutation-sym, IsPermutation-trans, IsPermutation-append_left, IsPermutation-append_right}
use Rattle.sim_base.specs.declared.address.Ip.{Ip}
use Rattle.sim_base.specs.declared.address.Addr.{Addr}
use Rattle.sim_base.specs.declared.packet.Packet.{Packet}
use Rattle.sock_tcp.specs.connection.Tcb.{Tcb}
use Rattle.sock_tcp.specs.listener.Listen.{Listen}
use Rattle.tcp_laws.proofs.Tests.{by_test}
use Rattle.tcp_streams.proofs.Members.{found}
use Rattle.host_wants.specs.Wanted.{Wanted}
use Rattle.host_sockets.specs.TcpSocket.{TcpSocket, is_free}
use Rattle.host_sockets.specs.Sockets.{SocketsRecord, with_tcp, changes_in, changes_at, put_at, tcp_place, put_tcp}
use Rattle.host_sockets.specs.TcpActs.{Acted, acts_in, acts_at}
use Rattle.host_sockets.specs.Records.{own_record, kept_records, records_at, records_of}
use Rattle.socket_streams.specs.Records.{packets_of, exchange_with, exchange_of}
use Rattle.socket_streams.specs.Leads.{Leads}
use Rattle.socket_streams.specs.May.{IsPlain, ArePlain}
use Rattle.socket_streams.proofs.Chains.{both, goes}
use Rattle.socket_streams.proofs.Shares.{swap_parts, to_front, share_of, pushed_flat_map, set_hold, push_hold, there_is}
use Rattle.socket_streams.proofs.Turns.{Does}

-- what is reached from the sockets of a host and what is wanted, beside others
pub record Reaches (scope : Addr → Addr → Bool) (own : Ip) (others : List Tcb) (flying : List Packet) (x y : SocketsRecord × Wanted) : Type 0 where
  pub plain : ArePlain own y.0
  pub leads : Leads scope own (exchange_of others flying x) (exchange_of others flying y)

-- the same records, and no packets but those
pub same_reach : (scope : Addr → Addr → Bool) (own : Ip) (others : List Tcb) (flying : List Packet) (t t' : SocketsRecord) (w : Wanted) → ArePlain own t' → IsPermutation (records_of t') (records_of t) → Reaches scope own others flying (t, w) (t', w)
same_reach scope own others flying t t' w plain same = record {
  plain = plain;
  leads = goes scope own (exchange_of others flying (t, w)) (exchange_of others flying (t', w)) (IsPermutation-append_left others (records_of t') (records_of t) same) (λ p c. inl c);
}

pub rests_reach : (scope : Addr → Addr → Bool) (own : Ip) (others : List Tcb) (flying : List Packet) (t : SocketsRecord) (w : Wanted) → ArePlain own t → Reaches scope own others flying (t, w) (t, w)
rests_reach scope own others flying t w plain =
    same_reach scope own others flying t t w plain (IsPermutation-refl (records_of t))

-- records that are told in another order
arranged : (scope : Addr → Addr → Bool) (own : Ip) (was before is after : List Tcb) (flying then : List Packet) → IsPermutation was before → IsPermutation is after → Leads scope own (exchange_with before flying) (exchange_with after then) → Leads scope own (exchange_with was flying) (exchange_with is then)
arranged scope own was before is after flying then p q leads =
    both scope own (exchange_with was flying) (exchange_with before flying) (exchange_with is then)
    (goes scope own (exchange_with was flying) (exchange_with before flying) (IsPermutation-sym was before p) (λ x c. inl c))
    (both scope own (exchange_with before flying) (exchange_with after then) (exchange_with is then) leads
    (goes scope own (exchange_with after then) (exchange_with is then) q (λ x c. inl c)))

-- one socket's part of all records, before an act and after it
part_before : (all part rest gone others : List Tcb) → IsPermutation all (part ++ rest) → IsPermutation ((all ++ gone) ++ others) (part ++ (rest ++ (gone ++ others)))
part_before all part rest gone others p =
    subst (λ (xs : List Tcb). IsPermutation xs (part ++ (rest ++ (gone ++ others)))) (sym (append_assoc all gone others))
    (subst (λ (xs : List Tcb). IsPermutation (all ++ (gone ++ others)) xs) (append_assoc part rest (gone ++ others))
    (IsPermutation-append_left (gone ++ others) all (part ++ rest) p))

part_after : (all part rest gone left others : List Tcb) → IsPermutation all (part ++ rest) → IsPermutation ((all ++ (gone ++ left)) ++ others) ((part ++ left) ++ (rest ++ (gone ++ others)))
part_after all part rest gone left others p =
    let first : IsPermutation ((all ++ (gone ++ left)) ++ others) (part ++ (rest ++ ((gone ++ left) ++ others))) = part_before all part rest (gone ++ left) others p in
    let inner : IsPermutation ((gone ++ left) ++ others) (left ++ (gone ++ others)) =
    subst (λ (xs : List Tcb). IsPermutation xs (left ++ (gone ++ others))) (sym (append_assoc gone left others)) (swap_parts gone left others) in
    let moved : IsPermutation (rest ++ ((gone ++ left) ++ others)) (left ++ (rest ++ (gone ++ others))) = to_front rest ((gone ++ left) ++ others) left (gone ++ others) inner in
    let second : IsPermutation (part ++ (rest ++ ((gone ++ left) ++ others))) (part ++ (left ++ (rest ++ (gone ++ others)))) =
    IsPermutation-append_right part (rest ++ ((gone ++ left) ++ others)) (left ++ (rest ++ (gone ++ others))) moved in
    subst (λ (xs : List Tcb). IsPermutation ((all ++ (gone ++ left)) ++ others) xs) (sym (append_assoc part left (rest ++ (gone ++ others))))
    (IsPermutation-trans ((all ++ (gone ++ left)) ++ others) (part ++ (rest ++ ((gone ++ left) ++ others))) (part ++ (left ++ (rest ++ (gone ++ others)))) first second)

-- an act of the socket with a number
acts_reach_in : (scope : Addr → Addr → Bool) (own : Ip) (others : List Tcb) (flying : List Packet) (k : ℕ) (act : TcpSocket → Wanted → Acted) (o : Option TcpSocket) (t : SocketsRecord) (w : Wanted) → slice_get t.tcp k ≡ o → ArePlain own t → ((s : TcpSocket) → slice_get t.tcp k ≡ Some s → IsPlain own s → Does scope own flying s w (act s w)) → Reaches scope own others flying (t, w) (acts_in k act o t w)
acts_reach_in scope own others flying k act None t w at plain does = rests_reach scope own others flying t w plain
acts_reach_in scope own others flying k act (Some s) t w at plain does =
    let d = does s at (plain.sockets k s at) in
    let a = act s w in
    let share = share_of records_at t.tcp k s at in
    let rest = share.rest ++ (t.gone ++ others) in
    record {
      plain = record { host = plain.host; sockets = set_hold (IsPlain own) t.tcp k a.socket plain.sockets d.plain };
      leads = arranged scope own
          ((flat_map records_at t.tcp ++ t.gone) ++ others) (records_at s ++ rest)
          ((flat_map records_at (set t.tcp k a.socket) ++ (t.gone ++ a.gone)) ++ others) ((records_at a.socket ++ a.gone) ++ rest)
          (flying ++ packets_of w) (flying ++ packets_of a.wanted)
          (part_before (flat_map records_at t.tcp) (records_at s) share.rest t.gone others share.here)
          (part_after (flat_map records_at (set t.tcp k a.socket)) (records_at a.socket) share.rest t.gone a.gone others (share.put a.socket))
          (d.leads rest);
    }

pub acts_reach : (scope : Addr → Addr → Bool) (own : Ip) (others : List Tcb) (flying : List Packet) (k : ℕ) (act : TcpSocket → Wanted → Acted) (t : SocketsRecord) (w : Wanted) → ArePlain own t → ((s : TcpSocket) → slice_get t.tcp k ≡ Some s → IsPlain own s → Does scope own flying s w (act s w)) → Reaches scope own others flying (t, w) (acts_at k act t w)
acts_reach scope own others flying k act t w plain does =
    acts_reach_in scope own others flying k act (slice_get t.tcp k) t w refl plain does

-- a change of it that keeps its records
changes_reach_in : (scope : Addr → Addr → Bool) (own : Ip) (others : List Tcb) (flying : List Packet) (k : ℕ) (f : TcpSocket → TcpSocket) (o : Option TcpSocket) (t : SocketsRecord) (w : Wanted) → slice_get t.tcp k ≡ o → ArePlain own t → ((s : TcpSocket) → slice_get t.tcp k ≡ Some s → IsPlain own s → IsPlain own (f s) × (records_at (f s) ≡ records_at s)) → Reaches scope own others flying (t, w) (changes_in k f o t, w)
changes_reach_in scope own others flying k f None t w at plain keeps = rests_reach scope own others flying t w plain
changes_reach_in scope own others flying k f (Some s) t w at plain keeps =
    let d = keeps s at (plain.sockets k s at) in
    let share = share_of records_at t.tcp k s at in
    let all = flat_map records_at (set t.tcp k (f s)) in
    let back : IsPermutation all (flat_map records_at t.tcp) =
    IsPermutation-trans all (records_at s ++ share.rest) (flat_map records_at t.tcp)
    (subst (λ (xs : List Tcb). IsPermutation all (xs ++ share.rest)) d.1 (share.put (f s)))
    (IsPermutation-sym (flat_map records_at t.tcp) (records_at s ++ share.rest) share.here) in
    same_reach scope own others flying t (with_tcp k s (f s) t) w
    (record { host = plain.host; sockets = set_hold (IsPlain own) t.tcp k (f s) plain.sockets d.0 })
    (IsPermutation-append_left t.gone all (flat_map records_at t.tcp) back)

pub changes_reach : (scope : Addr → Addr → Bool) (own : Ip) (others : List Tcb) (flying : List Packet) (k : ℕ) (f : TcpSocket → TcpSocket) (t : SocketsRecord) (w : Wanted) → ArePlain own t → ((s : TcpSocket) → slice_get t.tcp k ≡ Some s → IsPlain own s → IsPlain own (f s) × (records_at (f s) ≡ records_at s)) → Reaches scope own others flying (t, w) (changes_at k f t, w)
changes_reach scope own others flying k f t w plain keeps =
    changes_reach_in scope own others flying k f (slice_get t.tcp k) t w refl plain keeps

-- a new socket takes a place that has no records
no_records : (held : Bool) (tcb : Option Tcb) (listen : Option Listen) → not (held || (is_some tcb || is_some listen)) ≡ true → own_record tcb ++ kept_records listen ≡ []
no_records true tcb listen e = cc
no_records false None None e = refl
no_records false None (Some l) e = cc
no_records false (Some r) listen e = cc

free_place : (sockets : List TcpSocket) (x : TcpSocket) → slice_get sockets (position_or_len is_free sockets) ≡ Some x → records_at x ≡ []
free_place sockets x e = no_records x.held x.tcb x.listen (found is_free sockets x (find_at is_free sockets ∙ e)).1

put_records : (s : TcpSocket) (sockets : List TcpSocket) → IsPermutation (flat_map records_at (put_at (position_or_len is_free sockets) s sockets)) (records_at s ++ flat_map records_at sockets)
put_records s sockets =
    let place = position_or_len is_free sockets in
    by_test (λ (xs : List TcpSocket). IsPermutation (flat_map records_at xs) (records_at s ++ flat_map records_at sockets)) (nat_lt place (length sockets)) (set sockets place s) (sockets ++ s ∷ [])
    (λ e.
    let there = there_is sockets place e in
    let share = share_of records_at sockets place there.0 there.1 in
    let none = free_place sockets there.0 there.1 in
    let rest : IsPermutation share.rest (flat_map records_at sockets) =
    IsPermutation-sym (flat_map records_at sockets) share.rest (subst (λ (xs : List Tcb). IsPermutation (flat_map records_at sockets) (xs ++ share.rest)) none share.here) in
    IsPermutation-trans (flat_map records_at (set sockets place s)) (records_at s ++ share.rest) (records_at s ++ flat_map records_at sockets) (share.put s)
    (IsPermutation-append_right (records_at s) share.rest (flat_map records_at sockets) rest))
    (λ e. pushed_flat_map records_at sockets s)

pub put_plain : (own : Ip) (s : TcpSocket) (t : SocketsRecord) → IsPlain own s → ArePlain own t → ArePlain own (put_tcp s t)
put_plain own s t here plain = record {
  host = plain.host;
  sockets = by_test (λ (xs : List TcpSocket). (k : ℕ) (x : TcpSocket) → slice_get xs k ≡ Some x → IsPlain own x) (nat_lt (tcp_place t) (length t.tcp)) (set t.tcp (tcp_place t) s) (t.tcp ++ s ∷ [])
      (λ e. set_hold (IsPlain own) t.tcp (tcp_place t) s plain.sockets here)
      (λ e. push_hold (IsPlain own) t.tcp s plain.sockets here);
}

pub put_all : (s : TcpSocket) (t : SocketsRecord) → IsPermutation (records_of (put_tcp s t)) (records_at s ++ records_of t)
put_all s t =
    let all = flat_map records_at (put_at (tcp_place t) s t.tcp) in
    subst (λ (xs : List Tcb). IsPermutation (all ++ t.gone) xs) (append_assoc (records_at s) (flat_map records_at t.tcp) t.gone)
    (IsPermutation-append_left t.gone all (records_at s ++ flat_map records_at t.tcp) (put_records s t.tcp))
