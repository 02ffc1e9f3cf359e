-- two live records of a host never have the same pair of ends
use Rattle.std.proofs.Common.{◌≡◌, ℕ, ℤ, ◌+◌, ◌≤◌, ◌%◌, ◌^◌, ◌&&◌, List, [], ◌∷◌, length, Bool, true, false, Option, Some, None, slice_get, Result, Ok, Err, refl, sym, ap, subst, ◌∙◌, arith}
use Rattle.sim_base.specs.Addresses.{is_same}
use Rattle.sim_base.specs.Refusals.{◌>>=◌, ◌>>◌, refuse_if, or_refuse}
use Rattle.sim_base.specs.declared.address.Ip.{Ip}
use Rattle.sim_base.specs.declared.address.Addr.{Addr}
use Rattle.sim_base.specs.declared.time.Time.{Time}
use Rattle.sock_udp.specs.Socket.{UdpState}
use Rattle.sock_tcp.specs.declared.connection.effects.Shut.{Shut}
use Rattle.sock_tcp.specs.segment.Refusal.{one_if}
use Rattle.sock_tcp.specs.connection.Begin.{begin}
use Rattle.sock_tcp.specs.connection.Tcb.{Tcb, Turn, changed}
use Rattle.sock_tcp.specs.connection.Process.{opened, writes, reads, flows, shuts, closes, error_taken}
use Rattle.sock_tcp.specs.listener.Listen.{Listen, fresh_listen, without, accepted_at, accepted_from, accepts}
use Rattle.host_wants.specs.declared.error.Refusal.{Refusal}
use Rattle.host_wants.specs.declared.error.Refusal.TheVariants as refusal
use Rattle.host_wants.specs.Wanted.{Wanted, draws_word}
use Rattle.host_sockets.specs.TcpSocket.{TcpSocket, fresh, with_bound, has_record, keeps_record}
use Rattle.host_sockets.specs.Sockets.{SocketsRecord, changes_in, changes_at, tcp_place, put_tcp, has_pair}
use Rattle.host_sockets.specs.TcpActs.{Acted, record_acts, acts_in, acts_at}
use Rattle.host_sockets.specs.Udp.{with_udp, acted_udp}
use Rattle.host_sockets.specs.Binding.{bind_asked, binds_tcp, bound_to_use, listen_to, listening, listen_asked, listens_tcp}
use Rattle.host_sockets.specs.Accepting.{accept_asked, accepts_in, accepts_of, accepts_at, given_up, accepted, placed, accepts_tcp}
use Rattle.host_sockets.specs.Connecting.{source_end, connect_begun, connect_asked, opens, connects, error_takes, taking, connect_waited, without_change, connects_taking, connect_answers}
use Rattle.host_sockets.specs.Moving.{send_asked, takes_written, sends_taking, recv_asked, gives_read, receives_taking, may_shut, shuts_tcp}
use Rattle.host_sockets.specs.Names.{error_asked, takes_error}
use Rattle.host_sockets.specs.Closing.{unheld, closes_in, closed, closes_tcp}
use Rattle.socket_laws.specs.Pairs.{live, kept_in, live_of, live_records}
use Rattle.socket_laws.specs.Histories.{left_by}
use Rattle.socket_laws.proofs.Staying.{Stays, write_stays, read_stays, shut_stays, close_stays, error_stays}
use Rattle.socket_laws.proofs.Sums.{sum_set, sum_set_less, sum_put, sum_taken, no_sum, at_most_one}
use Rattle.socket_laws.proofs.RecordPairs.{opened_live, turned_live, record_lowers, count, none_live, matching}

-- at most one live record has the two ends
abbrev pub Single : Addr → Addr → SocketsRecord → Type 0
Single own other t = live_records own other t ≤ 1

-- an act of the socket with a number
acts_add : (own other : Addr) (k : ℕ) (act : TcpSocket → Wanted → Acted) (o : Option TcpSocket) (t : SocketsRecord) (w : Wanted) (n : ℕ) → slice_get t.tcp k ≡ o → ((s : TcpSocket) → slice_get t.tcp k ≡ Some s → live_of own other (act s w).socket ≤ live_of own other s + n) → live_records own other (acts_in k act o t w).0 ≤ live_records own other t + n
acts_add own other k act None t w n at adds = omega arith
acts_add own other k act (Some s) t w n at adds = sum_set (live_of own other) t.tcp k s (act s w).socket n at (adds s at)

pub adds_at : (own other : Addr) (k : ℕ) (act : TcpSocket → Wanted → Acted) (t : SocketsRecord) (w : Wanted) (n : ℕ) → ((s : TcpSocket) → slice_get t.tcp k ≡ Some s → live_of own other (act s w).socket ≤ live_of own other s + n) → live_records own other (acts_at k act t w).0 ≤ live_records own other t + n
adds_at own other k act t w n adds = acts_add own other k act (slice_get t.tcp k) t w n refl adds

-- one that adds nothing
pub single_at : (own other : Addr) (k : ℕ) (act : TcpSocket → Wanted → Acted) (t : SocketsRecord) (w : Wanted) → ((s : TcpSocket) → live_of own other (act s w).socket ≤ live_of own other s) → Single own other t → Single own other (acts_at k act t w).0
single_at own other k act t w lowers h =
    let all = adds_at own other k act t w 0 (λ s at. let less = lowers s in omega (arith, less)) in
    omega (arith, all, h)

pub single_record : (own other : Addr) (now : Time) (k : ℕ) (act : Tcb → Turn) (t : SocketsRecord) (w : Wanted) → Stays act → Single own other t → Single own other (acts_at k (λ s v. record_acts now k act s v) t w).0
single_record own other now k act t w stays h = single_at own other k (λ s v. record_acts now k act s v) t w (λ s. record_lowers own other now k act s w stays) h

single_error : (own other : Addr) (now : Time) (k : ℕ) (t : SocketsRecord) (w : Wanted) → Single own other t → Single own other (acts_at k (error_takes now k) t w).0
single_error own other now k t w h = single_record own other now k (λ r. changed error_taken (begin r)) t w error_stays h

-- a change of the socket with a number
single_changed_in : (own other : Addr) (k : ℕ) (f : TcpSocket → TcpSocket) (o : Option TcpSocket) (t : SocketsRecord) → slice_get t.tcp k ≡ o → ((s : TcpSocket) → live_of own other (f s) ≤ live_of own other s) → Single own other t → Single own other (changes_in k f o t)
single_changed_in own other k f None t at lowers h = h
single_changed_in own other k f (Some s) t at lowers h =
    let less = lowers s in
    let all = sum_set (live_of own other) t.tcp k s (f s) 0 at (omega (arith, less)) in
    omega (arith, all, h)

single_changed : (own other : Addr) (k : ℕ) (f : TcpSocket → TcpSocket) (t : SocketsRecord) → ((s : TcpSocket) → live_of own other (f s) ≤ live_of own other s) → Single own other t → Single own other (changes_at k f t)
single_changed own other k f t lowers h = single_changed_in own other k f (slice_get t.tcp k) t refl lowers h

-- a new socket
single_put : (own other : Addr) (s : TcpSocket) (t : SocketsRecord) → live_records own other t + live_of own other s ≤ 1 → Single own other (put_tcp s t)
single_put own other s t h =
    let all = sum_put (live_of own other) t.tcp (tcp_place t) s in
    omega (arith, all, h)

pub single_made : (own other : Addr) (t : SocketsRecord) → Single own other t → Single own other (put_tcp (fresh true) t)
single_made own other t h = single_put own other (fresh true) t (omega (arith, h))

-- rows: what is refused changes nothing
pub left_asked : {A B : Type 0} (P : SocketsRecord → Type 0) (asked : Result B Refusal) (f : B → A × SocketsRecord) (t : SocketsRecord) → ((b : B) → asked ≡ Ok b → P (f b).1) → P t → P (left_by (asked >>= λ b. Ok (f b)) t)
left_asked P (Ok b) f t done none = done b refl
left_asked P (Err why) f t done none = none

pub left_after : {A : Type 0} (P : SocketsRecord × Wanted → Type 0) (asked : Result (Unit {0}) Refusal) (a : A) (after before : SocketsRecord × Wanted) → P after → P before → P (left_by (asked >> Ok (a, after)) before)
left_after P (Ok u) a after before done none = done
left_after P (Err why) a after before done none = none

pub left_told : {A B : Type 0} (P : SocketsRecord × Wanted → Type 0) (asked : Result B Refusal) (f : B → A) (after before : SocketsRecord × Wanted) → P after → P before → P (left_by (asked >>= λ b. Ok (f b, after)) before)
left_told P (Ok b) f after before done none = done
left_told P (Err why) f after before done none = none

abbrev pub Taken : {A : Type 0} → Time → ℕ → Result (A × (SocketsRecord × Wanted)) Refusal → SocketsRecord → Wanted → SocketsRecord × Wanted
Taken now k row t w = left_by (taking now k row t w) (t, w)

pub taken_row : {A : Type 0} (P : SocketsRecord × Wanted → Type 0) (now : Time) (k : ℕ) (row : Result (A × (SocketsRecord × Wanted)) Refusal) (t : SocketsRecord) (w : Wanted) → ((a : A) (after : SocketsRecord × Wanted) → row ≡ Ok (a, after) → P after) → P (acts_at k (error_takes now k) t w) → P (t, w) → P (Taken now k row t w)
taken_row P now k (Ok (a, after)) t w done failed none = done a after refl
taken_row P now k (Err (refusal.Kept errno)) t w done failed none = failed
taken_row P now k (Err (refusal.Errno errno)) t w done failed none = none
taken_row P now k (Err (refusal.Wait until)) t w done failed none = none
taken_row P now k (Err (refusal.End state)) t w done failed none = none

-- what a row leaves that asks first
second_of : {A : Type 0} → Result (A × (SocketsRecord × Wanted)) Refusal → SocketsRecord × Wanted → SocketsRecord × Wanted
second_of (Ok (a, after)) before = after
second_of (Err why) before = before

abbrev pub done_after : {A : Type 0} → Result (Unit {0}) Refusal → A → SocketsRecord × Wanted → Result (A × (SocketsRecord × Wanted)) Refusal
done_after asked a after = do
  asked
  Ok (a, after)

pub after_ok : {A : Type 0} (asked : Result (Unit {0}) Refusal) (a b : A) (after left : SocketsRecord × Wanted) → done_after asked a after ≡ Ok (b, left) → after ≡ left
unfolding second_of
after_ok (Ok u) a b after left e = ap (λ row. second_of row after) e
after_ok (Err why) a b after left e = cc

pub change_ok : {A : Type 0} (t : SocketsRecord) (w : Wanted) (asked : Result A Refusal) (b : A) (left : SocketsRecord × Wanted) → without_change t w asked ≡ Ok (b, left) → (t, w) ≡ left
unfolding second_of
change_ok t w (Ok a) b left e = ap (λ row. second_of row (t, w)) e
change_ok t w (Err why) b left e = cc

abbrev SingleOf : Addr → Addr → SocketsRecord × Wanted → Type 0
SingleOf own other x = Single own other x.0

taken_after : {A : Type 0} (own other : Addr) (now : Time) (k : ℕ) (asked : Result (Unit {0}) Refusal) (a : A) (after : SocketsRecord × Wanted) (t : SocketsRecord) (w : Wanted) → Single own other after.0 → Single own other t → Single own other (Taken now k (asked >> Ok (a, after)) t w).0
taken_after own other now k asked a after t w done h =
    taken_row (SingleOf own other) now k (asked >> Ok (a, after)) t w
    (λ b left e. subst (SingleOf own other) (after_ok asked a b after left e) done)
    (single_error own other now k t w h) h

-- connect(2): none has the two ends of the record that opens
free_if : (taken : Bool) (own end : Addr) (why : Refusal) → (refuse_if taken why >> Ok end) ≡ Ok own → (taken ≡ false) × (end ≡ own)
free_if true own end why e = cc
free_if false own end why e = let same : end ≡ own = cc in (refl, same)

asked_free : (begun : Result (Unit {0}) Refusal) (found : Result Addr Refusal) (end : Addr → Addr) (taken : Addr → Bool) (why : Refusal) (own : Addr) → (begun >> (found >>= λ bound. refuse_if (taken (end bound)) why >> Ok (end bound))) ≡ Ok own → taken own ≡ false
asked_free (Err refused) found end taken why own e = cc
asked_free (Ok u) (Err refused) end taken why own e = cc
asked_free (Ok u) (Ok bound) end taken why own e =
    let free = free_if (taken (end bound)) own (end bound) why e in
    ap taken (sym free.1) ∙ free.0

none_have : (own other : Addr) (t : SocketsRecord) → has_pair own other t ≡ false → live_records own other t ≡ 0
none_have own other t e = no_sum (live_of own other) (has_record own other) (keeps_record own other) (none_live own other) t.tcp e

opens_adds : (own other local to : Addr) (now : Time) (k : ℕ) (s : TcpSocket) (w : Wanted) → live_of own other (opens now k local to s w).socket ≤ live_of own other s + one_if (is_same local own && is_same to other)
opens_adds own other local to now k s w =
    let drawn = draws_word w in
    let turn : Turn = opened local to (drawn.0 % 2 ^ 32) in
    let b = turned_live own other now k turn s drawn.1 in
    omega (arith, b, opened_live own other local to (drawn.0 % 2 ^ 32))

opens_single : (own other local to : Addr) (now : Time) (k : ℕ) (t : SocketsRecord) (w : Wanted) → has_pair local to t ≡ false → Single own other t → Single own other (acts_at k (opens now k local to) t w).0
opens_single own other local to now k t w free h =
    at_most_one (live_records own other t) (live_records own other (acts_at k (opens now k local to) t w).0) (is_same local own && is_same to other)
    (adds_at own other k (opens now k local to) t w (one_if (is_same local own && is_same to other)) (λ s at. opens_adds own other local to now k s w))
    h
    (λ m.
    let ends = matching local to own other m in
    ap (λ (x : Addr). live_records x other t) (sym ends.0) ∙ (ap (λ (x : Addr). live_records local x t) (sym ends.1) ∙ none_have local to t free))

abbrev pub done_at : Result Addr Refusal → (Addr → SocketsRecord × Wanted) → Result (Unit {0} × (SocketsRecord × Wanted)) Refusal
done_at asked f = do
  own ← asked
  Ok (tt, f own)

pub left_opens : (asked : Result Addr Refusal) (f : Addr → SocketsRecord × Wanted) (b : Unit {0}) (left : SocketsRecord × Wanted) → done_at asked f ≡ Ok (b, left) → (own : Addr) × ((asked ≡ Ok own) × (f own ≡ left))
unfolding second_of
left_opens (Ok own) f b left e = (own, (refl, ap (λ (row : Result (Unit {0} × (SocketsRecord × Wanted)) Refusal). second_of row (f own)) e))
left_opens (Err why) f b left e = cc

connect_free : (hosts : List Ip) (k : ℕ) (to own : Addr) (t : SocketsRecord) → connect_asked hosts k to t ≡ Ok own → has_pair own to t ≡ false
connect_free hosts k to own t e =
    asked_free (connect_begun hosts k to t) (bound_to_use k t) (λ bound. source_end t.own bound to) (λ end. has_pair end to t) _ own e

pub connect_single : (own other : Addr) (hosts : List Ip) (now : Time) (k : ℕ) (to : Addr) (t : SocketsRecord) (w : Wanted) → Single own other t → Single own other (left_by (connects_taking hosts now k to t w) (t, w)).0
unfolding connects_taking connects
connect_single own other hosts now k to t w h =
    taken_row (SingleOf own other) now k (connects hosts now k to t w) t w
    (λ b left e.
    let done = left_opens (connect_asked hosts k to t) (λ local. acts_at k (opens now k local to) t w) b left e in
    subst (SingleOf own other) done.1.1 (opens_single own other done.0 to now k t w (connect_free hosts k to done.0 t done.1.0) h))
    (single_error own other now k t w h) h

pub again_single : (own other : Addr) (now : Time) (k : ℕ) (t : SocketsRecord) (w : Wanted) → Single own other t → Single own other (left_by (connect_answers now k t w) (t, w)).0
unfolding connect_answers
again_single own other now k t w h =
    taken_row (SingleOf own other) now k (without_change t w (connect_waited k t)) t w
    (λ b left e. subst (SingleOf own other) (change_ok t w (connect_waited k t) b left e) h)
    (single_error own other now k t w h) h

-- send(2), recv(2), shutdown(2) and SO_ERROR
pub send_single : (own other : Addr) (hosts : List Ip) (now : Time) (k : ℕ) (bytes : List ℕ) (to : Option Addr) (quiet : Bool) (t : SocketsRecord) (w : Wanted) → Single own other t → Single own other (left_by (sends_taking hosts now k bytes to quiet t w) (t, w)).0
unfolding sends_taking
send_single own other hosts now k bytes to quiet t w h =
    taken_after own other now k (send_asked hosts k (length bytes) to quiet t) _ (acts_at k (takes_written now k bytes) t w) t w
    (single_record own other now k (λ r. flows (changed (writes bytes) (begin r))) t w (write_stays bytes) h) h

pub recv_single : (own other : Addr) (now : Time) (k n : ℕ) (t : SocketsRecord) (w : Wanted) → Single own other t → Single own other (left_by (receives_taking now k n t w) (t, w)).0
unfolding receives_taking
recv_single own other now k n t w h =
    taken_after own other now k (recv_asked k t) _ (acts_at k (gives_read now k n) t w) t w
    (single_record own other now k (λ r. flows (changed (reads n) (begin r))) t w (read_stays n) h) h

pub shut_single : (own other : Addr) (now : Time) (k : ℕ) (how : Shut) (t : SocketsRecord) (w : Wanted) → Single own other t → Single own other (left_by (shuts_tcp now k how t w) (t, w)).0
unfolding shuts_tcp
shut_single own other now k how t w h =
    left_after (SingleOf own other) (may_shut k t) tt (acts_at k (λ s v. record_acts now k (λ r. shuts how (begin r)) s v) t w) (t, w)
    (single_record own other now k (λ r. shuts how (begin r)) t w (shut_stays how) h) h

pub error_single : (own other : Addr) (now : Time) (k : ℕ) (t : SocketsRecord) (w : Wanted) → Single own other t → Single own other (left_by (takes_error now k t w) (t, w)).0
unfolding takes_error
error_single own other now k t w h =
    left_told (SingleOf own other) (error_asked k t) (λ e. e) (acts_at k (error_takes now k) t w) (t, w) (single_error own other now k t w h) h

-- close(2)
closes_lower : (own other : Addr) (now : Time) (k : ℕ) (o : Option Listen) (s : TcpSocket) (w : Wanted) → live_of own other (closes_in now k o s w).socket ≤ live_of own other s
closes_lower own other now k None s w =
    let b = record_lowers own other now k (λ r. closes (begin r)) (unheld s) w close_stays in
    omega (arith, b)
closes_lower own other now k (Some l) s w = omega arith

pub close_single : (own other : Addr) (now : Time) (k : ℕ) (t : SocketsRecord) (w : Wanted) → Single own other t → Single own other (closes_tcp now k t w).0
unfolding closes_tcp
close_single own other now k t w h = single_at own other k (closed now k) t w (λ s. closes_lower own other now k s.listen s w) h

-- bind(2) and listen(2)
pub bind_single : (own other : Addr) (k : ℕ) (at : Addr) (t : SocketsRecord) → Single own other t → Single own other (left_by (binds_tcp k at t) t)
unfolding binds_tcp
bind_single own other k at t h =
    left_asked (Single own other) (bind_asked k at t) (λ end. (tt, changes_at k (with_bound end) t)) t
    (λ end e. single_changed own other k (with_bound end) t (λ s. omega arith) h) h

listened : (own other at : Addr) (n : ℤ) (o : Option Listen) → kept_in own other (Some (listen_to at n o)) ≤ kept_in own other o
unfolding fresh_listen
listened own other at n None = omega arith
listened own other at n (Some l) = omega arith

listening_lowers : (own other at : Addr) (n : ℤ) (s : TcpSocket) → live_of own other (listening at n s) ≤ live_of own other s
listening_lowers own other at n s = let b = listened own other at n s.listen in omega (arith, b)

pub listen_single : (own other : Addr) (k : ℕ) (n : ℤ) (t : SocketsRecord) → Single own other t → Single own other (left_by (listens_tcp k n t) t)
unfolding listens_tcp
listen_single own other k n t h =
    left_asked (Single own other) (listen_asked k t) (λ at. (tt, changes_at k (listening at n) t)) t
    (λ at e. single_changed own other k (listening at n) t (listening_lowers own other at n) h) h

-- accept(2): a record leaves its listener, and a new socket has it
first_of : Option (Tcb × Listen) → Option Tcb
first_of None = None
first_of (Some (r, rest)) = Some r

rest_of : Option (Tcb × Listen) → Listen → Listen
rest_of None l = l
rest_of (Some (r, rest)) l = rest

gives_at : (own other : Addr) (place : ℕ) (o : Option Tcb) (l : Listen) (r : Tcb) (rest : Listen) → slice_get l.records place ≡ o → accepted_at place o l ≡ Some (r, rest) → count own other rest + live own other r ≡ count own other l
unfolding first_of rest_of without
gives_at own other place None l r rest at e = cc
gives_at own other place (Some x) l r rest at e =
    let given : Some x ≡ Some r = ap first_of e in
    let same : x ≡ r = cc in
    let left : without place l ≡ rest = ap (λ o. rest_of o l) e in
    let a : live own other x ≡ live own other r = ap (live own other) same in
    let b : count own other (without place l) ≡ count own other rest = ap (count own other) left in
    let c = sum_taken (live own other) l.records place x at in
    omega (arith, a, b, c)

gives_from : (own other : Addr) (queue : List ℕ) (l : Listen) (r : Tcb) (rest : Listen) → accepted_from queue l ≡ Some (r, rest) → count own other rest + live own other r ≡ count own other l
gives_from own other [] l r rest e = cc
gives_from own other (place ∷ behind) l r rest e = gives_at own other place (slice_get l.records place) l r rest refl e

gives_count : (own other : Addr) (l : Listen) (r : Tcb) (rest : Listen) → accepts l ≡ Some (r, rest) → count own other rest + live own other r ≡ count own other l
unfolding accepts
gives_count own other l r rest e = gives_from own other l.accept_queue l r rest e

given_lowers : (own other : Addr) (o : Option Listen) (s : TcpSocket) (r : Tcb) (rest : Listen) → s.listen ≡ o → accepts_in o ≡ Some (r, rest) → live_of own other (given_up r rest s) + live own other r ≤ live_of own other s
given_lowers own other None s r rest at e = cc
given_lowers own other (Some l) s r rest at e =
    let a = gives_count own other l r rest e in
    let b : kept_in own other s.listen ≡ count own other l = ap (kept_in own other) at in
    omega (arith, a, b)

given_single : (own other : Addr) (k : ℕ) (o : Option TcpSocket) (t : SocketsRecord) (r : Tcb) (rest : Listen) → slice_get t.tcp k ≡ o → accepts_of o ≡ Some (r, rest) → live_records own other (changes_in k (given_up r rest) o t) + live own other r ≤ live_records own other t
given_single own other k None t r rest at e = cc
given_single own other k (Some s) t r rest at e =
    sum_set_less (live_of own other) t.tcp k s (given_up r rest s) (live own other r) at (given_lowers own other s.listen s r rest refl e)

accepted_single : (own other : Addr) (k : ℕ) (asked : Result (Unit {0}) Refusal) (a : Option (Tcb × Listen)) (t : SocketsRecord) → a ≡ accepts_at k t → Single own other t → Single own other (left_by (asked >> (or_refuse a (refusal.Wait None) >>= λ (r, rest). Ok (placed r (changes_at k (given_up r rest) t)))) t)
accepted_single own other k (Err why) a t e h = h
accepted_single own other k (Ok u) None t e h = h
accepted_single own other k (Ok u) (Some (r, rest)) t e h =
    let b = given_single own other k (slice_get t.tcp k) t r rest refl (sym e) in
    single_put own other (accepted r) (changes_at k (given_up r rest) t) (omega (arith, b, h))

pub accept_single : (own other : Addr) (k : ℕ) (t : SocketsRecord) → Single own other t → Single own other (left_by (accepts_tcp k t) t)
unfolding accepts_tcp
accept_single own other k t h = accepted_single own other k (accept_asked k t) (accepts_at k t) t refl h

-- UDP sockets have no records
pub udp_single : {A : Type 0} (own other : Addr) (act : UdpState → Result (A × UdpState) Refusal) (k : ℕ) (o : Option UdpState) (t : SocketsRecord) → Single own other t → Single own other (left_by (acted_udp act k o t) t)
udp_single own other act k None t h = h
udp_single {A} own other act k (Some u) t h = by_answer (act u)
  where
    by_answer : (answer : Result (A × UdpState) Refusal) → Single own other (left_by (answer >>= λ (a, after). Ok (a, with_udp k u after t)) t)
    by_answer (Ok (a, after)) = h
    by_answer (Err why) = h
