-- what a host keeps of two ends that were used once is what its only record of them carried
use Rattle.std.proofs.Common.{◌≡◌, ℕ, ◌==◌, ◌&&◌, inl, inr, Bool, true, false, cond, List, [], ◌∷◌, length, filter, find, Contains, Option, Some, Ordering, Less, Equal, Greater, refl, sym, ap, subst, ◌∙◌, arith}
use Rattle.std.proofs.lemmas.Bool.Decides.{nat_tests}
use Rattle.std.proofs.lemmas.Cmp.{nat_cmp_total, on_total, then_total}
use Rattle.std.proofs.lemmas.List.Sums.{length-filter}
use Rattle.std.specs.Cmp.{IsTotalOrder}
use Rattle.std.specs.List.{AllByRecursion, count_by}
use Rattle.std.specs.List.Sorted.{IsStrictlySortedBy}
use Rattle.std.specs.Ordering.{ordering_reverse}
use Rattle.sim_base.specs.Addresses.{is_same}
use Rattle.sim_base.specs.declared.address.Addr.{Addr}
use Rattle.sock_tcp.specs.connection.Carried.{carried_of}
use Rattle.sock_tcp.specs.connection.Tcb.{Tcb}
use Rattle.tcp_streams.specs.Stream.{is_at}
use Rattle.tcp_streams.proofs.Ends.{and_left, and_right, same_end, is_same_refl}
use Rattle.tcp_streams.proofs.Members.{IsIn, IsIn_from_Contains}
use Rattle.host_sockets.specs.declared.streams.HostStream.{HostStream}
use Rattle.host_sockets.specs.Records.{records_of}
use Rattle.host_sockets.specs.Sockets.{SocketsRecord}
use Rattle.host_sockets.specs.Streams.{addr_order, pair_order, stream_of, used_again, streams_of}
use Rattle.socket_laws.specs.Told.{is_between as is_between_ends, is_of, told_of}
use Rattle.socket_laws.proofs.Telling.{told_by, rises_by}
use Rattle.stream_pairs.specs.Directions.{is_between}
use Rattle.run_streams.proofs.Every.{Every, every_here, every_filtered}

-- ---- tests of ends, told from either side

same_turned : (a b : Addr) → is_same a b ≡ is_same b a
same_turned a b =
    ap (λ (x : Bool). x && (a.port == b.port)) (turned a.ip.bits b.ip.bits)
    ∙ ap (λ (x : Bool). (b.ip.bits == a.ip.bits) && x) (turned a.port b.port)
  where
    turned : (m n : ℕ) → (m == n) ≡ (n == m)
    turned m n = grind (arith, nat_tests)

both_turned : (a b c d : Addr) → (is_same a b && is_same c d) ≡ (is_same b a && is_same d c)
both_turned a b c d =
    ap (λ (x : Bool). x && is_same c d) (same_turned a b) ∙ ap (λ (x : Bool). is_same b a && x) (same_turned c d)

record_turned : (own peer : Addr) (r : Tcb) → is_between_ends own peer r ≡ is_at own peer r
record_turned own peer r = both_turned own r.control.local peer r.control.peer

stream_turned : (own peer : Addr) (s : HostStream) → is_between own peer s ≡ is_of own peer s
stream_turned own peer s = both_turned s.own own s.peer peer

module _ {X : Type 0} (p q : X → Bool) (same : (x : X) → p x ≡ q x) where
  find_same : (xs : List X) → find p xs ≡ find q xs
  find_same [] = refl
  find_same (x ∷ xs) =
      ap (λ (b : Bool). cond b (Some x) (find p xs)) (same x) ∙ ap (λ (o : Option X). cond (q x) (Some x) o) (find_same xs)

  filter_same : (xs : List X) → filter p xs ≡ filter q xs
  filter_same [] = refl
  filter_same (x ∷ xs) =
      ap (λ (b : Bool). cond b (x ∷ filter p xs) (filter p xs)) (same x) ∙ ap (λ (ys : List X). cond (q x) (x ∷ ys) ys) (filter_same xs)

-- ---- the one that is kept of two ends is found by them

pair_order_total : IsTotalOrder pair_order
pair_order_total = then_total (on_total (λ (s : HostStream). s.own) addr_total) (on_total (λ (s : HostStream). s.peer) addr_total)
  where
    addr_total : IsTotalOrder addr_order
    addr_total = then_total (on_total (λ (a : Addr). a.ip.bits) nat_cmp_total) (on_total (λ (a : Addr). a.port) nat_cmp_total)

not_before : (o : Ordering) → o ≡ ordering_reverse o → o ≡ Less → ⊥
not_before Less e k = cc
not_before Equal e k = cc
not_before Greater e k = cc

abbrev at_ends : Addr → Addr → HostStream
at_ends own peer = record { own = own; peer = peer; reused = false; written = 0; read = 0; ended = false }

-- what stands before another has other ends
other_ends : (x s : HostStream) → pair_order x s ≡ Less → is_of s.own s.peer x ≡ true → ⊥
other_ends x s before e =
    let own = same_end s.own x.own (and_left (is_same s.own x.own) (is_same s.peer x.peer) e) in
    let peer = same_end s.peer x.peer (and_right (is_same s.own x.own) (is_same s.peer x.peer) e) in
    let itself : pair_order s s ≡ pair_order x s =
    ap (λ (a : Addr). pair_order (at_ends a s.peer) s) own ∙ ap (λ (a : Addr). pair_order (at_ends x.own a) s) peer in
    not_before (pair_order s s) (pair_order_total.antisymm s s) (itself ∙ before)

each_in : {X : Type 0} (P : X → Type 0) (xs : List X) (x : X) → AllByRecursion P xs → IsIn x xs → P x
each_in P [] x h k = absurd k
each_in P (y ∷ ys) x h (inl e) = subst P (sym e) h.0
each_in P (y ∷ ys) x h (inr k) = each_in P ys x h.1 k

passed_over : {X : Type 0} (b : Bool) (x : X) (o : Option X) → (b ≡ true → ⊥) → cond b (Some x) o ≡ o
passed_over true x o never = absurd (never refl)
passed_over false x o never = refl

ends_of_itself : (s : HostStream) → is_of s.own s.peer s ≡ true
ends_of_itself s =
    ap (λ (b : Bool). b && is_same s.peer s.peer) (is_same_refl s.own) ∙ is_same_refl s.peer

found_in : (xs : List HostStream) (s : HostStream) → IsStrictlySortedBy pair_order xs → IsIn s xs → find (is_of s.own s.peer) xs ≡ Some s
unfolding IsStrictlySortedBy
found_in [] s rises k = absurd k
found_in (x ∷ xs) s rises (inl e) =
    subst (λ (y : HostStream). cond (is_of s.own s.peer y) (Some y) (find (is_of s.own s.peer) xs) ≡ Some s) e
    (ap (λ (b : Bool). cond b (Some s) (find (is_of s.own s.peer) xs)) (ends_of_itself s))
found_in (x ∷ xs) s rises (inr k) =
    passed_over (is_of s.own s.peer x) x (find (is_of s.own s.peer) xs)
    (λ e. other_ends x s (each_in (λ (y : HostStream). pair_order x y ≡ Less) xs s rises.0 k) e)
    ∙ found_in xs s rises.1 k

-- ---- and by the only record of them

pub record IsOnly (own peer : Addr) (records : List Tcb) (s : HostStream) : Type 0 where
  pub tcb : Tcb
  pub among : Contains records tcb
  pub ends : is_at own peer tcb ≡ true
  pub once : count_by (is_at own peer) records ≡ 1
  pub is : stream_of (carried_of tcb) ≡ s

told_once : (own peer : Addr) (records kept : List Tcb) (s : HostStream) → filter (is_at own peer) records ≡ kept → told_of kept ≡ Some s → s.reused ≡ false → IsOnly own peer records s
told_once own peer records [] s e told once = cc
told_once own peer records (r ∷ []) s e told once =
    let here = subst (Every (λ (x : Tcb). Contains records x × (is_at own peer x ≡ true))) e (every_filtered (is_at own peer) (λ (x : Tcb). Contains records x) records (every_here (λ (x : Tcb). Contains records x) records (λ x c. c))) in
    let same : stream_of (carried_of r) ≡ s = cc in
    record {
      tcb = r;
      among = here.0.0;
      ends = here.0.1;
      once = sym (length-filter (is_at own peer) records) ∙ ap (λ (xs : List Tcb). length xs) e;
      is = same;
    }
told_once own peer records (r ∷ next ∷ more) s e told once =
    let same : used_again (stream_of (carried_of r)) ≡ s = cc in
    let no : true ≡ false = ap (λ (x : HostStream). x.reused) same ∙ once in
    absurd (cc)

only_of : (own peer : Addr) (t : SocketsRecord) (s : HostStream) → find (is_of own peer) (streams_of t) ≡ Some s → s.reused ≡ false → IsOnly own peer (records_of t) s
unfolding streams_of
only_of own peer t s e once =
    let records = records_of t in
    told_once own peer records (filter (is_between_ends own peer) records) s
    (sym (filter_same (is_between_ends own peer) (is_at own peer) (record_turned own peer) records))
    (sym (told_by own peer records) ∙ e) once

-- of a stream that is kept, and of one that is found as that of the other end
pub only_kept : (t : SocketsRecord) (s : HostStream) → Contains (streams_of t) s → s.reused ≡ false → IsOnly s.own s.peer (records_of t) s
unfolding streams_of
only_kept t s c once =
    only_of s.own s.peer t s (found_in (streams_of t) s (rises_by (records_of t)) (IsIn_from_Contains s (streams_of t) c)) once

pub only_found : (own peer : Addr) (t : SocketsRecord) (s : HostStream) → find (is_between own peer) (streams_of t) ≡ Some s → s.reused ≡ false → IsOnly own peer (records_of t) s
only_found own peer t s e once =
    only_of own peer t s (sym (find_same (is_between own peer) (is_of own peer) (stream_turned own peer) (streams_of t)) ∙ e) once
