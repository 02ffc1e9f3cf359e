-- each act moves the rises of each socket on as the definition has it, and so they are counted
use Rattle.std.proofs.Common.{◌≡◌, ℕ, zero, suc, ◌+◌, ◌==◌, ◌<◌, ◌≤◌, Bool, true, false, ◌||◌, not, min, nat_lt, List, [], ◌∷◌, ◌++◌, length, set, Option, Some, None, is_none, slice_get, if◌then◌else◌, Result, Ok, Err, refl, sym, ap, subst, ◌∙◌, arith, eq-eqb, length-set, length-append}
use Rattle.std.specs.List.{position_or_len}
use Rattle.std.proofs.lemmas.Bool.Decides.{nat_tests}
use Rattle.std.proofs.lemmas.List.Sums.{prefix_len-le-length}
use Rattle.sim_base.specs.declared.address.Ip.{Ip}
use Rattle.sim_base.specs.declared.time.Time.{Time}
use Rattle.sim_base.specs.Refusals.{◌>>=◌, ◌>>◌, or_refuse}
use Rattle.host_fds.specs.declared.rises.Rises.{Rises}
use Rattle.host_fds.specs.Rises.{no_rises, most, counted, rose}
use Rattle.sock_udp.specs.Socket.{UdpState, new_socket}
use Rattle.sock_tcp.specs.connection.Tcb.{Tcb}
use Rattle.sock_tcp.specs.listener.Listen.{Listen}
use Rattle.host_wants.specs.declared.error.Refusal.{Refusal}
use Rattle.host_wants.specs.declared.error.Refusal.TheVariants as refusal
use Rattle.host_sockets.specs.declared.glance.Glance.{Glance}
use Rattle.host_sockets.specs.declared.reply.Accepted.{Accepted}
use Rattle.host_sockets.specs.Accepting.{accept_asked, accepts_at, accepted, given_up, placed, accepts_tcp}
use Rattle.host_sockets.specs.Ready.{tcp_rises, udp_rises}
use Rattle.host_sockets.specs.Rises.{tcp_glance, udp_glance, slot_glance, risen, or_no_rises, rises_at, moved_at}
use Rattle.host_sockets.specs.Sockets.{SocketsRecord, changes_at, put_at, put_tcp_at, tcp_place, no_sockets, new_tcp}
use Rattle.host_sockets.specs.TcpSocket.{TcpSocket, fresh, is_free}
use Rattle.host_sockets.specs.Udp.{socket_in, closes_udp, put_udp_at, udp_place, new_udp}
use Rattle.host_wants.specs.Wanted.{Wanted, nothing_wanted}
use Rattle.host_sockets.proofs.Endings.{still, same_risen}
use Rattle.socket_laws.specs.Histories.{SocketsAct, left_by, sockets_acted, sockets_after, sockets_of, make_udp, bind_udp, connect_udp, send_udp, recv_udp, close_udp, make_tcp, bind_tcp, listen_tcp, accept_tcp, connect_tcp, connect_again, send_tcp, recv_tcp, shut_tcp, take_error, close_tcp, arrival, alarm, elsewhere}
use Rattle.socket_laws.specs.Rises.{tcp_glance_in, sees_tcp, sees_udp, accepts_at_number, makes_tcp, makes_udp, has_rise, counted_by, rises_counted, tcp_rises_counted, udp_rises_counted, AreCounted}
use Rattle.socket_laws.proofs.ApartUdp.{there_of}
use Rattle.socket_laws.proofs.RiseActs.{Steps, MakesNone, others_go, changes_go}

not_below_zero : (n : ℕ) → nat_lt n 0 ≡ false
not_below_zero n = grind (arith, nat_tests)

-- what shows nothing any more doesn't rise
closed_risen : (g : Glance) (r : Rises) → risen g (slot_glance None) r ≡ r
closed_risen g r =
    still (nat_lt g.waiting 0) (rose 1 g.bits 0) (rose 4 g.bits 0) (rose 8 g.bits 0) (rose 16 g.bits 0) (rose 8192 g.bits 0) r
    (not_below_zero g.waiting) refl refl refl refl refl

-- rises beside a list of sockets, where one is put back
moved_set : {A : Type 0} (F : Option A → Glance) (xs : List A) (kept : List Rises) (j k : ℕ) (old new : A) → length kept ≡ length xs → slice_get xs j ≡ Some old → rises_at k (moved_at j (F (Some old)) (F (Some new)) kept) ≡ risen (F (slice_get xs k)) (F (slice_get (set xs j new) k)) (rises_at k kept)
moved_set F [] kept j k old new e at = cc
moved_set F (x ∷ xs) [] j k old new e at = absurd (omega arith)
moved_set F (x ∷ xs) (r ∷ kept) zero zero old new e at =
    let same : x ≡ old = cc in ap (λ y. risen (F (Some y)) (F (Some new)) r) (sym same)
moved_set F (x ∷ xs) (r ∷ kept) zero (suc k) old new e at = sym (same_risen (F (slice_get xs k)) (rises_at k kept))
moved_set F (x ∷ xs) (r ∷ kept) (suc j) zero old new e at = sym (same_risen (F (Some x)) r)
moved_set F (x ∷ xs) (r ∷ kept) (suc j) (suc k) old new e at = moved_set F xs kept j k old new (omega arith) at

-- where one is closed
closed_set : (slots : List (Option UdpState)) (j k : ℕ) (r : Rises) → r ≡ risen (slot_glance (socket_in (slice_get slots k))) (slot_glance (socket_in (slice_get (set slots j None) k))) r
closed_set [] j k r = sym (same_risen (slot_glance None) r)
closed_set (x ∷ slots) zero zero r = sym (closed_risen (slot_glance x) r)
closed_set (x ∷ slots) zero (suc k) r = sym (same_risen (slot_glance (socket_in (slice_get slots k))) r)
closed_set (x ∷ slots) (suc j) zero r = sym (same_risen (slot_glance x) r)
closed_set (x ∷ slots) (suc j) (suc k) r = closed_set slots j k r

-- and where one is made: the others stay
set_other : {A : Type 0} (xs : List A) (place k : ℕ) (a : A) → (place ≡ k → ⊥) → slice_get (set xs place a) k ≡ slice_get xs k
set_other [] place k a apart = refl
set_other (x ∷ xs) zero zero a apart = absurd (apart refl)
set_other (x ∷ xs) zero (suc k) a apart = refl
set_other (x ∷ xs) (suc place) zero a apart = refl
set_other (x ∷ xs) (suc place) (suc k) a apart = set_other xs place k a (λ e. apart (ap suc e))

push_other : {A : Type 0} (xs : List A) (k : ℕ) (a : A) → (length xs ≡ k → ⊥) → slice_get (xs ++ a ∷ []) k ≡ slice_get xs k
push_other [] zero a apart = absurd (apart refl)
push_other [] (suc k) a apart = refl
push_other (x ∷ xs) zero a apart = refl
push_other (x ∷ xs) (suc k) a apart = push_other xs k a (λ e. apart (ap suc e))

set_here : {A : Type 0} (xs : List A) (place : ℕ) (a : A) → place < length xs → slice_get (set xs place a) place ≡ Some a
set_here [] place a b = absurd (omega arith)
set_here (x ∷ xs) zero a b = refl
set_here (x ∷ xs) (suc place) a b = set_here xs place a (omega arith)

push_here : (kept : List Rises) (place : ℕ) → length kept ≤ place → rises_at place (kept ++ no_rises ∷ []) ≡ no_rises
push_here [] zero b = refl
push_here [] (suc place) b = refl
push_here (r ∷ kept) zero b = absurd (omega arith)
push_here (r ∷ kept) (suc place) b = push_here kept place (omega arith)

below_is : (a b : ℕ) → nat_lt a b ≡ true → a < b
below_is a b e = grind (arith, nat_tests)

above_is : (a b : ℕ) → nat_lt a b ≡ false → b ≤ a
above_is a b e = grind (arith, nat_tests)

put_other : {A : Type 0} (xs : List A) (place k : ℕ) (a : A) → place ≤ length xs → (place ≡ k → ⊥) → slice_get (put_at place a xs) k ≡ slice_get xs k
put_other xs place k a b apart = by_place (nat_lt place (length xs)) refl
  where
    by_place : (c : Bool) → nat_lt place (length xs) ≡ c → slice_get (if c then set xs place a else xs ++ a ∷ []) k ≡ slice_get xs k
    by_place true e = set_other xs place k a apart
    by_place false e =
        let end : length xs ≤ place = above_is place (length xs) e in
        push_other xs k a (λ same. apart (omega arith))

put_here : (kept : List Rises) (place : ℕ) → rises_at place (put_at place no_rises kept) ≡ no_rises
put_here kept place = by_place (nat_lt place (length kept)) refl
  where
    by_place : (c : Bool) → nat_lt place (length kept) ≡ c → rises_at place (if c then set kept place no_rises else kept ++ no_rises ∷ []) ≡ no_rises
    by_place true e = ap or_no_rises (set_here kept place no_rises (below_is place (length kept) e))
    by_place false e = push_here kept place (above_is place (length kept) e)

put_length : {A B : Type 0} (xs : List A) (kept : List B) (place : ℕ) (a : A) (b : B) → length kept ≡ length xs → length (put_at place b kept) ≡ length (put_at place a xs)
put_length xs kept place a b e = rw e (by_place (nat_lt place (length xs)))
  where
    by_place : (c : Bool) → length (if c then set kept place b else kept ++ b ∷ []) ≡ length (if c then set xs place a else xs ++ a ∷ [])
    by_place true = omega (arith, length-set xs place a, length-set kept place b)
    by_place false = omega (arith, length-append xs (a ∷ []), length-append kept (b ∷ []))

-- a socket has rises
pub record Even (t : SocketsRecord) : Type 0 where
  pub tcp : length t.tcp_risen ≡ length t.tcp
  pub udp : length t.udp_risen ≡ length t.udp

even_steps : (t : SocketsRecord) → Even t → Steps Even t
unfolding closes_udp
even_steps t even = record {
  same = even;
  tcp = λ k old new gone at. record { tcp = omega (arith, even.tcp, length-set t.tcp k new, length-set t.tcp_risen k (risen (tcp_glance old) (tcp_glance new) (rises_at k t.tcp_risen))); udp = even.udp };
  udp = λ k old new at. record { tcp = even.tcp; udp = omega (arith, even.udp, length-set t.udp k (Some new), length-set t.udp_risen k (risen (udp_glance old) (udp_glance new) (rises_at k t.udp_risen))) };
  closes = λ k. record { tcp = even.tcp; udp = omega (arith, even.udp, length-set t.udp k None) };
}

-- they go by the definition where no socket is made
pub record Goes (k : ℕ) (t t' : SocketsRecord) : Type 0 where
  pub tcp : tcp_rises k t' ≡ risen (sees_tcp k t) (sees_tcp k t') (tcp_rises k t)
  pub udp : udp_rises k t' ≡ risen (sees_udp k t) (sees_udp k t') (udp_rises k t)

goes_same : (k : ℕ) (t : SocketsRecord) → Goes k t t
goes_same k t = record { tcp = sym (same_risen (sees_tcp k t) (tcp_rises k t)); udp = sym (same_risen (sees_udp k t) (udp_rises k t)) }

goes_steps : (k : ℕ) (t : SocketsRecord) → Even t → Steps (Goes k t) t
unfolding closes_udp
goes_steps k t even = record {
  same = goes_same k t;
  tcp = λ j old new gone at. record {
    tcp = moved_set tcp_glance_in t.tcp t.tcp_risen j k old new even.tcp at;
    udp = sym (same_risen (sees_udp k t) (udp_rises k t));
  };
  udp = λ j old new at. record {
    tcp = sym (same_risen (sees_tcp k t) (tcp_rises k t));
    udp = moved_set (λ (o : Option (Option UdpState)). slot_glance (socket_in o)) t.udp t.udp_risen j k (Some old) (Some new) even.udp (there_of (slice_get t.udp j) old at);
  };
  closes = λ j. record {
    tcp = sym (same_risen (sees_tcp k t) (tcp_rises k t));
    udp = closed_set t.udp j k (udp_rises k t);
  };
}

-- and begin at none where it is
pub record StepBy (k : ℕ) (tcp_made udp_made : Bool) (t t' : SocketsRecord) : Type 0 where
  pub tcp : tcp_rises k t' ≡ (if tcp_made then no_rises else risen (sees_tcp k t) (sees_tcp k t') (tcp_rises k t))
  pub udp : udp_rises k t' ≡ (if udp_made then no_rises else risen (sees_udp k t) (sees_udp k t') (udp_rises k t))
  pub even : Even t'

stays : (k : ℕ) (t : SocketsRecord) → Even t → StepBy k false false t t
stays k t even = let g = goes_same k t in record { tcp = g.tcp; udp = g.udp; even = even }

others_step : (hosts : List Ip) (now : Time) (act : SocketsAct) (t : SocketsRecord) (w : Wanted) (k : ℕ) → Even t → MakesNone act → StepBy k false false t (sockets_acted hosts now act t w).0
others_step hosts now act t w k even none =
    let g = others_go (Goes k t) t (goes_steps k t even) hosts now act w none in
    record { tcp = g.tcp; udp = g.udp; even = others_go Even t (even_steps t even) hosts now act w none }

same_number : (a b : ℕ) → (a == b) ≡ true → a ≡ b
same_number a b e = grind (arith, nat_tests)

other_number : (a b : ℕ) → (a == b) ≡ false → a ≡ b → ⊥
other_number a b e same =
    let test : (a == b) ≡ true = eq-eqb a b same in
    let no : true ≡ false = sym test ∙ e in cc

place_within : {A : Type 0} (p : A → Bool) (xs : List A) → position_or_len p xs ≤ length xs
place_within p xs = prefix_len-le-length (λ s. not (p s)) xs

tcp_placed : (k : ℕ) (s : TcpSocket) (t v : SocketsRecord) → Even v → tcp_rises k v ≡ risen (sees_tcp k t) (sees_tcp k v) (tcp_rises k t) → (let after : SocketsRecord = put_tcp_at (tcp_place v) s v in tcp_rises k after ≡ (if tcp_place v == k then no_rises else risen (sees_tcp k t) (sees_tcp k after) (tcp_rises k t)))
tcp_placed k s t v even goes = by_number (tcp_place v == k) refl
  where
    by_number : (b : Bool) → (tcp_place v == k) ≡ b → (let after : SocketsRecord = put_tcp_at (tcp_place v) s v in tcp_rises k after ≡ (if b then no_rises else risen (sees_tcp k t) (sees_tcp k after) (tcp_rises k t)))
    by_number true e =
        subst (λ (n : ℕ). rises_at n (put_at (tcp_place v) no_rises v.tcp_risen) ≡ no_rises) (same_number (tcp_place v) k e) (put_here v.tcp_risen (tcp_place v))
    by_number false e =
        let apart = other_number (tcp_place v) k e in
        let within : tcp_place v ≤ length v.tcp = place_within is_free v.tcp in
        let kept = ap or_no_rises (put_other v.tcp_risen (tcp_place v) k no_rises (omega (arith, within, even.tcp)) apart) in
        let seen = ap tcp_glance_in (put_other v.tcp (tcp_place v) k s within apart) in
        kept ∙ (goes ∙ ap (λ (g : Glance). risen (sees_tcp k t) g (tcp_rises k t)) (sym seen))

udp_placed : (k : ℕ) (u : UdpState) (t : SocketsRecord) → Even t → (let after : SocketsRecord = put_udp_at (udp_place t) u t in udp_rises k after ≡ (if udp_place t == k then no_rises else risen (sees_udp k t) (sees_udp k after) (udp_rises k t)))
udp_placed k u t even = by_number (udp_place t == k) refl
  where
    by_number : (b : Bool) → (udp_place t == k) ≡ b → (let after : SocketsRecord = put_udp_at (udp_place t) u t in udp_rises k after ≡ (if b then no_rises else risen (sees_udp k t) (sees_udp k after) (udp_rises k t)))
    by_number true e =
        subst (λ (n : ℕ). rises_at n (put_at (udp_place t) no_rises t.udp_risen) ≡ no_rises) (same_number (udp_place t) k e) (put_here t.udp_risen (udp_place t))
    by_number false e =
        let apart = other_number (udp_place t) k e in
        let within : udp_place t ≤ length t.udp = place_within is_none t.udp in
        let kept = ap or_no_rises (put_other t.udp_risen (udp_place t) k no_rises (omega (arith, within, even.udp)) apart) in
        let seen = ap (λ (o : Option (Option UdpState)). slot_glance (socket_in o)) (put_other t.udp (udp_place t) k (Some u) within apart) in
        kept ∙ (sym (same_risen (sees_udp k t) (udp_rises k t)) ∙ ap (λ (g : Glance). risen (sees_udp k t) g (udp_rises k t)) (sym seen))

even_tcp : (k : ℕ) (s : TcpSocket) (t : SocketsRecord) → Even t → Even (put_tcp_at k s t)
even_tcp k s t even = record { tcp = put_length t.tcp t.tcp_risen k s no_rises even.tcp; udp = even.udp }

makes_tcp_step : (t : SocketsRecord) (k : ℕ) → Even t → StepBy k ((new_tcp t).0 == k) false t (new_tcp t).1
makes_tcp_step t k even =
    let g = goes_same k t in
    record { tcp = tcp_placed k (fresh true) t t even g.tcp; udp = g.udp; even = even_tcp (tcp_place t) (fresh true) t even }

makes_udp_step : (t : SocketsRecord) (k : ℕ) → Even t → StepBy k false ((new_udp t).0 == k) t (new_udp t).1
unfolding new_udp
makes_udp_step t k even =
    let g = goes_same k t in
    record {
      tcp = g.tcp;
      udp = udp_placed k new_socket t even;
      even = record { tcp = even.tcp; udp = put_length t.udp t.udp_risen (udp_place t) (Some new_socket) no_rises even.udp };
    }

-- accept(2): the listener is put back, and then a socket is made
abbrev accept_row : ℕ → Result (Unit {0}) Refusal → Option (Tcb × Listen) → SocketsRecord → Result (Accepted × SocketsRecord) Refusal
accept_row k asked a t = do
  asked
  (r, rest) ← or_refuse a (refusal.Wait None)
  Ok (placed r (changes_at k (given_up r rest) t))

accepted_step : (listener k : ℕ) (asked : Result (Unit {0}) Refusal) (a : Option (Tcb × Listen)) (t : SocketsRecord) → Even t → StepBy k (accepts_at_number k (accept_row listener asked a t)) false t (left_by (accept_row listener asked a t) t)
accepted_step listener k (Err why) a t even = stays k t even
accepted_step listener k (Ok u) None t even = stays k t even
accepted_step listener k (Ok u) (Some (r, rest)) t even =
    let v = changes_at listener (given_up r rest) t in
    let g = changes_go (Goes k t) t (goes_steps k t even) listener (given_up r rest) in
    let even_v = changes_go Even t (even_steps t even) listener (given_up r rest) in
    record { tcp = tcp_placed k (accepted r) t v even_v g.tcp; udp = g.udp; even = even_tcp (tcp_place v) (accepted r) v even_v }

accepts_step : (listener k : ℕ) (t : SocketsRecord) → Even t → StepBy k (accepts_at_number k (accepts_tcp listener t)) false t (left_by (accepts_tcp listener t) t)
unfolding accepts_tcp
accepts_step listener k t even = accepted_step listener k (accept_asked listener t) (accepts_at listener t) t even

step : (hosts : List Ip) (now : Time) (act : SocketsAct) (t : SocketsRecord) (w : Wanted) (k : ℕ) → Even t → StepBy k (makes_tcp k act t) (makes_udp k act t) t (sockets_acted hosts now act t w).0
step hosts now make_udp t w k even = makes_udp_step t k even
step hosts now (bind_udp j at) t w k even = others_step hosts now (bind_udp j at) t w k even tt
step hosts now (connect_udp j to) t w k even = others_step hosts now (connect_udp j to) t w k even tt
step hosts now (send_udp j bytes to) t w k even = others_step hosts now (send_udp j bytes to) t w k even tt
step hosts now (recv_udp j count) t w k even = others_step hosts now (recv_udp j count) t w k even tt
step hosts now (close_udp j) t w k even = others_step hosts now (close_udp j) t w k even tt
step hosts now make_tcp t w k even = makes_tcp_step t k even
step hosts now (bind_tcp j at) t w k even = others_step hosts now (bind_tcp j at) t w k even tt
step hosts now (listen_tcp j count) t w k even = others_step hosts now (listen_tcp j count) t w k even tt
step hosts now (accept_tcp j) t w k even = accepts_step j k t even
step hosts now (connect_tcp j to) t w k even = others_step hosts now (connect_tcp j to) t w k even tt
step hosts now (connect_again j) t w k even = others_step hosts now (connect_again j) t w k even tt
step hosts now (send_tcp j bytes to quiet) t w k even = others_step hosts now (send_tcp j bytes to quiet) t w k even tt
step hosts now (recv_tcp j count) t w k even = others_step hosts now (recv_tcp j count) t w k even tt
step hosts now (shut_tcp j how) t w k even = others_step hosts now (shut_tcp j how) t w k even tt
step hosts now (take_error j) t w k even = others_step hosts now (take_error j) t w k even tt
step hosts now (close_tcp j) t w k even = others_step hosts now (close_tcp j) t w k even tt
step hosts now (arrival p) t w k even = others_step hosts now (arrival p) t w k even tt
step hosts now (alarm n serial) t w k even = others_step hosts now (alarm n serial) t w k even tt
step hosts now (elsewhere after) t w k even = others_step hosts now (elsewhere after) t w k even tt

-- so each of their numbers is that of the acts by which its bit rose
capped : (x n m : ℕ) → x ≡ min n m → min (x + 1) m ≡ min (n + 1) m
capped x n m e = grind arith

counted_once : (b : Bool) (x n : ℕ) → x ≡ min n most → counted b x ≡ min (if b then n + 1 else n) most
counted_once true x n e = capped x n most e
counted_once false x n e = e

counts_on : (made : Bool) (before after : Glance) (r : Rises) (n : ℕ → ℕ) → AreCounted r n → AreCounted (if made then no_rises else risen before after r) (λ bit. counted_by made (has_rise bit before after) (n bit))
counts_on true before after r n h = record { input = refl; output = refl; error = refl; hangup = refl; peer_end = refl }
counts_on false before after r n h = record {
  input = counted_once (nat_lt before.waiting after.waiting || rose 1 before.bits after.bits) r.input (n 1) h.input;
  output = counted_once (rose 4 before.bits after.bits) r.output (n 4) h.output;
  error = counted_once (rose 8 before.bits after.bits) r.error (n 8) h.error;
  hangup = counted_once (rose 16 before.bits after.bits) r.hangup (n 16) h.hangup;
  peer_end = counted_once (rose 8192 before.bits after.bits) r.peer_end (n 8192) h.peer_end;
}

tcp_counted : (k : ℕ) (hosts : List Ip) (acts : List (Time × SocketsAct)) (t : SocketsRecord) (w : Wanted) (n : ℕ → ℕ) → Even t → AreCounted (tcp_rises k t) n → AreCounted (tcp_rises k (sockets_after hosts acts (t, w)).0) (λ bit. rises_counted bit (makes_tcp k) (sees_tcp k) hosts acts (t, w) (n bit))
tcp_counted k hosts [] t w n even h = h
tcp_counted k hosts ((now, act) ∷ acts) t w n even h =
    let after = sockets_acted hosts now act t w in
    let s = step hosts now act t w k even in
    tcp_counted k hosts acts after.0 after.1 (λ bit. counted_by (makes_tcp k act t) (has_rise bit (sees_tcp k t) (sees_tcp k after.0)) (n bit)) s.even
    (subst (λ (r : Rises). AreCounted r (λ bit. counted_by (makes_tcp k act t) (has_rise bit (sees_tcp k t) (sees_tcp k after.0)) (n bit))) (sym s.tcp)
    (counts_on (makes_tcp k act t) (sees_tcp k t) (sees_tcp k after.0) (tcp_rises k t) n h))

udp_counted : (k : ℕ) (hosts : List Ip) (acts : List (Time × SocketsAct)) (t : SocketsRecord) (w : Wanted) (n : ℕ → ℕ) → Even t → AreCounted (udp_rises k t) n → AreCounted (udp_rises k (sockets_after hosts acts (t, w)).0) (λ bit. rises_counted bit (makes_udp k) (sees_udp k) hosts acts (t, w) (n bit))
udp_counted k hosts [] t w n even h = h
udp_counted k hosts ((now, act) ∷ acts) t w n even h =
    let after = sockets_acted hosts now act t w in
    let s = step hosts now act t w k even in
    udp_counted k hosts acts after.0 after.1 (λ bit. counted_by (makes_udp k act t) (has_rise bit (sees_udp k t) (sees_udp k after.0)) (n bit)) s.even
    (subst (λ (r : Rises). AreCounted r (λ bit. counted_by (makes_udp k act t) (has_rise bit (sees_udp k t) (sees_udp k after.0)) (n bit))) (sym s.udp)
    (counts_on (makes_udp k act t) (sees_udp k t) (sees_udp k after.0) (udp_rises k t) n h))

none_counted : AreCounted no_rises (λ bit. 0)
none_counted = record { input = refl; output = refl; error = refl; hangup = refl; peer_end = refl }

pub tcp_rises_are_counted : (hosts : List Ip) (own : Ip) (draws : List ℕ) (acts : List (Time × SocketsAct)) (k : ℕ) → AreCounted (tcp_rises k (sockets_of hosts own draws acts)) (λ bit. tcp_rises_counted bit k hosts own draws acts)
tcp_rises_are_counted hosts own draws acts k =
    tcp_counted k hosts acts (no_sockets own) (nothing_wanted draws) (λ bit. 0) (record { tcp = refl; udp = refl }) none_counted

pub udp_rises_are_counted : (hosts : List Ip) (own : Ip) (draws : List ℕ) (acts : List (Time × SocketsAct)) (k : ℕ) → AreCounted (udp_rises k (sockets_of hosts own draws acts)) (λ bit. udp_rises_counted bit k hosts own draws acts)
udp_rises_are_counted hosts own draws acts k =
    udp_counted k hosts acts (no_sockets own) (nothing_wanted draws) (λ bit. 0) (record { tcp = refl; udp = refl }) none_counted
