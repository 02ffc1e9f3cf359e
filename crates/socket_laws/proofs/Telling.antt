-- what a list of streams in order tells of two ends
use Rattle.std.proofs.Common.{◌≡◌, List, [], ◌∷◌, Bool, true, false, cond, filter, find, map, Option, Some, None, refl, sym, ap, ◌∙◌, Ordering, Less, Equal, Greater}
use Rattle.std.specs.List.{fold, AllByRecursion}
use Rattle.std.specs.List.Sorted.{IsStrictlySortedBy}
use Rattle.std.specs.Cmp.{IsTotalOrder, both_tied, unsigned_ties}
use Rattle.std.specs.Ordering.{is_eq, match_ordering, ordering_reverse}
use Rattle.std.proofs.lemmas.Cmp.{alike_right, nat_cmp_total, on_total, tied_back, then_total}
use Rattle.sim_base.specs.Addresses.{is_same}
use Rattle.sim_base.specs.declared.address.Addr.{Addr}
use Rattle.sock_tcp.specs.declared.connection.carried.Carried.{Carried}
use Rattle.sock_tcp.specs.connection.Carried.{carried_of}
use Rattle.sock_tcp.specs.connection.Tcb.{Tcb}
use Rattle.host_sockets.specs.declared.streams.HostStream.{HostStream}
use Rattle.host_sockets.specs.Streams.{addr_order, pair_order, stream_of, used_again, with_stream, with_carried}
use Rattle.socket_laws.specs.Told.{is_between, is_of, told_of}

addr_order_total : IsTotalOrder addr_order
addr_order_total = then_total (on_total (λ (a : Addr). a.ip.bits) nat_cmp_total) (on_total (λ (a : Addr). a.port) nat_cmp_total)

pair_order_total : IsTotalOrder pair_order
pair_order_total = then_total (on_total (λ (s : HostStream). s.own) addr_order_total) (on_total (λ (s : HostStream). s.peer) addr_order_total)

-- only the same ends have the same place
addr_ties : (a b : Addr) → is_same a b ≡ is_eq (addr_order a b)
addr_ties a b = both_tied _ _ _ _ (unsigned_ties a.ip.bits b.ip.bits) (unsigned_ties a.port b.port)

at : HostStream → HostStream → Bool
at q s = is_eq (pair_order q s)

asked : Addr → Addr → HostStream
asked own peer = record { own = own; peer = peer; reused = false; written = 0; read = 0; ended = false }

of_at : (own peer : Addr) (s : HostStream) → is_of own peer s ≡ at (asked own peer) s
unfolding at asked
of_at own peer s = both_tied _ _ _ _ (addr_ties own s.own) (addr_ties peer s.peer)

equal_of : (o : Ordering) → is_eq o ≡ true → o ≡ Equal
equal_of Less e = cc
equal_of Equal e = refl
equal_of Greater e = cc

less_of : (o : Ordering) → Greater ≡ ordering_reverse o → o ≡ Less
less_of Less e = refl
less_of Equal e = cc
less_of Greater e = cc

-- two streams at one place
meet : (q s x : HostStream) → at q s ≡ true → at q x ≡ true → pair_order s x ≡ Equal
unfolding at
meet q s x a b =
    sym (alike_right pair_order_total q x s (equal_of (pair_order q x) b)) ∙ tied_back pair_order_total q s (equal_of (pair_order q s) a)

apart : (o : Ordering) (q s x : HostStream) → pair_order s x ≡ o → is_eq o ≡ false → (b : Bool) → at q x ≡ b → at q s ≡ true → at q x ≡ false
apart o q s x is differ true e a = let same : o ≡ Equal = sym is ∙ meet q s x a e in let yes : is_eq o ≡ true = ap is_eq same in cc
apart o q s x is differ false e a = e

-- each stands before all behind it
Before : HostStream → List HostStream → Type 0
Before s xs = AllByRecursion (λ x. pair_order s x ≡ Less) xs

Rising : List HostStream → Type 0
Rising xs = IsStrictlySortedBy pair_order xs

before_all : (s x : HostStream) (xs : List HostStream) → pair_order s x ≡ Less → Before x xs → Before s xs
unfolding Before
before_all s x [] l h = tt
before_all s x (y ∷ xs) l h = (pair_order_total.trans s x y l h.0, before_all s x xs l h.1)

none_there : (q s : HostStream) (xs : List HostStream) → at q s ≡ true → Before s xs → find (at q) xs ≡ None
unfolding Before
none_there q s [] a h = refl
none_there q s (x ∷ xs) a h =
    ap (λ b. cond b (Some x) (find (at q) xs)) (apart Less q s x h.0 refl (at q x) refl a) ∙ none_there q s xs a h.1

again : HostStream → Option HostStream → HostStream
again s None = s
again s (Some x) = used_again x

found : (q s : HostStream) → Option HostStream → Option HostStream
found q s o = cond (at q s) (Some (again s o)) o

-- by how a stream compares with the first one
placed : (o : Ordering) (q s x : HostStream) (xs more : List HostStream) → pair_order s x ≡ o → Rising (x ∷ xs) → find (at q) more ≡ found q s (find (at q) xs) → (b c : Bool) → at q s ≡ b → at q x ≡ c → find (at q) (match_ordering o (s ∷ x ∷ xs) (used_again x ∷ xs) (x ∷ more)) ≡ found q s (find (at q) (x ∷ xs))
unfolding Rising Before again found at IsStrictlySortedBy
placed Less q s x xs more is h e true c a b =
    let none : find (at q) (x ∷ xs) ≡ None = none_there q s (x ∷ xs) a (is, before_all s x xs is h.0) in
    ap (λ t. cond t (Some s) (find (at q) (x ∷ xs))) a
    ∙ sym (ap (λ t. cond t (Some (again s (find (at q) (x ∷ xs)))) (find (at q) (x ∷ xs))) a ∙ ap (λ o. Some (again s o)) none)
placed Less q s x xs more is h e false c a b =
    ap (λ t. cond t (Some s) (find (at q) (x ∷ xs))) a
    ∙ sym (ap (λ t. cond t (Some (again s (find (at q) (x ∷ xs)))) (find (at q) (x ∷ xs))) a)
placed Equal q s x xs more is h e b c a d =
    let same : at q s ≡ at q x = ap is_eq (alike_right pair_order_total s x q is) in
    equal_case b (find (at q) xs) (at q s) (at q x) (sym same) a
  where
    equal_case : (b : Bool) (rest : Option HostStream) (t u : Bool) → u ≡ t → t ≡ b → cond u (Some (used_again x)) rest ≡ cond t (Some (again s (cond u (Some x) rest))) (cond u (Some x) rest)
    equal_case true rest t u e f = ap (λ v. cond v (Some (used_again x)) rest) (e ∙ f) ∙ sym (ap (λ v. cond v (Some (again s (cond u (Some x) rest))) (cond u (Some x) rest)) f ∙ ap (λ v. Some (again s (cond v (Some x) rest))) (e ∙ f))
    equal_case false rest t u e f = ap (λ v. cond v (Some (used_again x)) rest) (e ∙ f) ∙ sym (ap (λ v. cond v (Some (again s (cond u (Some x) rest))) (cond u (Some x) rest)) f ∙ ap (λ v. cond v (Some x) rest) (e ∙ f))
placed Greater q s x xs more is h e true c a d =
    let other : at q x ≡ false = apart Greater q s x is refl (at q x) refl a in
    ap (λ v. cond v (Some x) (find (at q) more)) other
    ∙ (e ∙ sym (ap (λ v. cond (at q s) (Some (again s (cond v (Some x) (find (at q) xs)))) (cond v (Some x) (find (at q) xs))) other))
placed Greater q s x xs more is h e false c a d =
    ap (λ o. cond (at q x) (Some x) o) (e ∙ ap (λ v. cond v (Some (again s (find (at q) xs))) (find (at q) xs)) a)
    ∙ sym (ap (λ v. cond v (Some (again s (cond (at q x) (Some x) (find (at q) xs)))) (cond (at q x) (Some x) (find (at q) xs))) a)

tail_rises : (x : HostStream) (xs : List HostStream) → Rising (x ∷ xs) → Rising xs
unfolding Rising IsStrictlySortedBy
tail_rises x xs h = h.1

find_with : (q s : HostStream) (xs : List HostStream) → Rising xs → find (at q) (with_stream s xs) ≡ found q s (find (at q) xs)
unfolding found again
find_with q s [] h = refl
find_with q s (x ∷ xs) h =
    placed (pair_order s x) q s x xs (with_stream s xs) refl h (find_with q s xs (tail_rises x xs h)) (at q s) (at q x) refl refl

-- the list stays in order
before_with : (o : Ordering) (y s x : HostStream) (xs more : List HostStream) → pair_order y s ≡ Less → Before y (x ∷ xs) → Before y more → Before y (match_ordering o (s ∷ x ∷ xs) (used_again x ∷ xs) (x ∷ more))
unfolding Before
before_with Less y s x xs more l h m = (l, h)
before_with Equal y s x xs more l h m = h
before_with Greater y s x xs more l h m = (h.0, m)

before_stream : (y s : HostStream) (xs : List HostStream) → pair_order y s ≡ Less → Before y xs → Before y (with_stream s xs)
unfolding Before
before_stream y s [] l h = (l, tt)
before_stream y s (x ∷ xs) l h = before_with (pair_order s x) y s x xs (with_stream s xs) l h (before_stream y s xs l h.1)

rises_with : (o : Ordering) (s x : HostStream) (xs more : List HostStream) → pair_order s x ≡ o → Rising (x ∷ xs) → Rising more → (pair_order x s ≡ Less → Before x more) → Rising (match_ordering o (s ∷ x ∷ xs) (used_again x ∷ xs) (x ∷ more))
unfolding Rising Before IsStrictlySortedBy
rises_with Less s x xs more is h m behind = ((is, before_all s x xs is h.0), h)
rises_with Equal s x xs more is h m behind = h
rises_with Greater s x xs more is h m behind = (behind (less_of (pair_order x s) (sym is ∙ pair_order_total.antisymm s x)), m)

rises_stream : (s : HostStream) (xs : List HostStream) → Rising xs → Rising (with_stream s xs)
unfolding Rising Before IsStrictlySortedBy
rises_stream s [] h = (tt, tt)
rises_stream s (x ∷ xs) h =
    rises_with (pair_order s x) s x xs (with_stream s xs) refl h (rises_stream s xs h.1) (λ l. before_stream x s xs l h.0)

rises_all : (cs : List Carried) (xs : List HostStream) → Rising xs → Rising (fold with_carried xs cs)
rises_all [] xs h = h
rises_all (c ∷ cs) xs h = rises_all cs (with_stream (stream_of c) xs) (rises_stream (stream_of c) xs h)

-- what is told once more records are there
joined : Option HostStream → List Carried → Option HostStream
joined o [] = o
joined None (c ∷ []) = Some (stream_of c)
joined None (c ∷ d ∷ cs) = Some (used_again (stream_of c))
joined (Some x) (c ∷ cs) = Some (used_again x)

one_more : (o : Option HostStream) (c : Carried) (cs : List Carried) → joined (Some (again (stream_of c) o)) cs ≡ joined o (c ∷ cs)
unfolding joined again
one_more None c [] = refl
one_more None c (d ∷ cs) = refl
one_more (Some x) c [] = refl
one_more (Some x) c (d ∷ cs) = refl

among : HostStream → Carried → Bool
among q c = at q (stream_of c)

joins : (q : HostStream) (o : Option HostStream) (c : Carried) (cs : List Carried) (b : Bool) → joined (cond b (Some (again (stream_of c) o)) o) cs ≡ joined o (cond b (c ∷ cs) cs)
joins q o c cs true = one_more o c cs
joins q o c cs false = refl

told_all : (q : HostStream) (cs : List Carried) (xs : List HostStream) → Rising xs → find (at q) (fold with_carried xs cs) ≡ joined (find (at q) xs) (filter (among q) cs)
unfolding among found joined
told_all q [] xs h = refl
told_all q (c ∷ cs) xs h =
    told_all q cs (with_stream (stream_of c) xs) (rises_stream (stream_of c) xs h)
    ∙ (ap (λ o. joined o (filter (among q) cs)) (find_with q (stream_of c) xs h)
    ∙ joins q (find (at q) xs) c (filter (among q) cs) (at q (stream_of c)))

-- the records of two ends
among_records : (own peer : Addr) (rs : List Tcb) → filter (among (asked own peer)) (map carried_of rs) ≡ map carried_of (filter (is_between own peer) rs)
unfolding among
among_records own peer [] = refl
among_records own peer (r ∷ rs) =
    kept (among (asked own peer) (carried_of r)) (is_between own peer r) (sym (of_at own peer (stream_of (carried_of r))))
    ∙ ap (λ cs. chosen (is_between own peer r) cs) (among_records own peer rs)
    ∙ out (is_between own peer r)
  where
    chosen : Bool → List Carried → List Carried
    chosen b cs = cond b (carried_of r ∷ cs) cs

    kept : (a b : Bool) → a ≡ b → cond a (carried_of r ∷ filter (among (asked own peer)) (map carried_of rs)) (filter (among (asked own peer)) (map carried_of rs)) ≡ chosen b (filter (among (asked own peer)) (map carried_of rs))
    kept a b e = ap (λ v. chosen v (filter (among (asked own peer)) (map carried_of rs))) e

    out : (b : Bool) → chosen b (map carried_of (filter (is_between own peer) rs)) ≡ map carried_of (cond b (r ∷ filter (is_between own peer) rs) (filter (is_between own peer) rs))
    out true = refl
    out false = refl

by_records : (rs : List Tcb) → joined None (map carried_of rs) ≡ told_of rs
unfolding joined
by_records [] = refl
by_records (r ∷ []) = refl
by_records (r ∷ next ∷ rs) = refl

find_same : (p q : HostStream → Bool) (xs : List HostStream) → ((x : HostStream) → p x ≡ q x) → find p xs ≡ find q xs
find_same p q [] e = refl
find_same p q (x ∷ xs) e = ap (λ b. cond b (Some x) (find p xs)) (e x) ∙ ap (λ o. cond (q x) (Some x) o) (find_same p q xs e)

pub told_by : (own peer : Addr) (rs : List Tcb) → find (is_of own peer) (fold with_carried [] (map carried_of rs)) ≡ told_of (filter (is_between own peer) rs)
unfolding Rising IsStrictlySortedBy
told_by own peer rs =
    find_same (is_of own peer) (at (asked own peer)) (fold with_carried [] (map carried_of rs)) (of_at own peer)
    ∙ (told_all (asked own peer) (map carried_of rs) [] tt
    ∙ (ap (joined None) (among_records own peer rs) ∙ by_records (filter (is_between own peer) rs)))

pub rises_by : (rs : List Tcb) → IsStrictlySortedBy pair_order (fold with_carried [] (map carried_of rs))
unfolding Rising IsStrictlySortedBy
rises_by rs = rises_all (map carried_of rs) [] tt
