-- over every history of a host's sockets the records of its listeners wait, so that what is accepted has no running timer
use Rattle.std.proofs.Common.{◌⊎◌, ⊎_elim, inl, inr, suc, zero, set, ◌++◌, nat_lt, Bool, Err, List, None, Ok, Option, Result, Some, [], ap, arith, false, length, refl, slice_get, subst, sym, true, ℕ, ℤ, ◌%◌, ◌==◌, ◌^◌, ◌∙◌, ◌∷◌, ◌≡◌}
use Rattle.sim_base.specs.Refusals.{or_refuse, ◌>>=◌, ◌>>◌}
use Rattle.sim_base.specs.declared.address.Ip.{Ip}
use Rattle.sim_base.specs.declared.address.Addr.{Addr}
use Rattle.sim_base.specs.declared.time.Time.{Time}
use Rattle.sock_udp.specs.Socket.{UdpState}
use Rattle.sock_tcp.specs.declared.connection.effects.Shut.{Shut}
use Rattle.sock_tcp.specs.connection.Begin.{begin}
use Rattle.sock_tcp.specs.connection.Tcb.{Tcb, Turn, changed}
use Rattle.sock_tcp.specs.connection.Process.{closes, error_taken, expires, flows, opened, reads, shuts, writes}
use Rattle.sock_tcp.specs.listener.Listen.{Listen, Heard, accepts, hears, hears_timer}
use Rattle.host_wants.specs.declared.error.Refusal.{Refusal}
use Rattle.host_wants.specs.declared.error.Refusal.TheVariants as refusal
use Rattle.host_wants.specs.Wanted.{sends, Wanted, draws_word, nothing_wanted}
use Rattle.host_sockets.specs.TcpSocket.{with_tcb, TcpSocket, fresh, has_record, with_bound}
use Rattle.host_sockets.specs.Sockets.{SocketsRecord, changes_at, changes_in, no_sockets, put_tcp, tcp_place}
use Rattle.host_sockets.specs.TcpActs.{turned, turned_in, is_let_go, starts, Acted, acts_at, acts_in, record_acts}
use Rattle.host_sockets.specs.Udp.{acted_udp, binds_udp, closes_udp, connects_udp, new_udp, receives_udp, sends_udp, udp_in, with_udp}
use Rattle.host_sockets.specs.Binding.{bind_asked, binds_tcp, listen_asked, listen_to, listening, listens_tcp}
use Rattle.host_sockets.specs.Accepting.{accept_asked, accepted, accepts_at, accepts_in, accepts_of, accepts_tcp, given_up, placed}
use Rattle.host_sockets.specs.Connecting.{connect_answers, connect_asked, connect_waited, connects, connects_taking, error_takes, opens, without_change}
use Rattle.host_sockets.specs.Moving.{gives_read, may_shut, receives_taking, recv_asked, send_asked, sends_taking, shuts_tcp, takes_written}
use Rattle.host_sockets.specs.Names.{error_asked, takes_error}
use Rattle.host_sockets.specs.Closing.{closed, closes_in, closes_tcp, unheld}
use Rattle.socket_laws.specs.Histories.{SocketsAct, left_by, sockets_acted, sockets_after, sockets_of}
use Rattle.std.specs.List.{position}
use Rattle.sim_base.specs.declared.packet.Load.{Load}
use Rattle.sim_base.specs.declared.packet.Load.TheVariants.{Tcp, Udp}
use Rattle.sim_base.specs.declared.packet.Packet.{Packet}
use Rattle.sock_tcp.specs.connection.Arrival.{takes_packet}
use Rattle.tcp_laws.proofs.Tests.{by_test}
use Rattle.host_sockets.specs.declared.tcp_sock.KeptTimer.{KeptTimer}
use Rattle.sock_tcp.specs.listener.Dropped.{dropped}
use Rattle.host_sockets.specs.ListenerActs.{heard}
use Rattle.host_sockets.specs.Arriving.{arrives_by, datagram_arrives, datagram_at, datagram_in, heard_at, hears_in, listener_hears, segment_arrives, segment_at, hearer, takes_in, word_drawn}
use Rattle.host_sockets.specs.Alarms.{alarm_comes, kept_expires, kept_timer, socket_expires, timer_expires}
use Rattle.socket_laws.specs.Histories.SocketsAct.{accept_tcp, alarm, arrival, bind_tcp, bind_udp, close_tcp, close_udp, connect_again, connect_tcp, connect_udp, elsewhere, listen_tcp, make_tcp, make_udp, recv_tcp, recv_udp, send_tcp, send_udp, shut_tcp, take_error}
use Rattle.sock_tcp.specs.connection.Timer.{timer_of}
use Rattle.socket_laws.specs.Waiting.{after_accept}
use Rattle.socket_laws.proofs.Queueing.{Keeps, keeps_hears, keeps_timer, keeps_accept, keeps_fresh, rests_accepted}
use Rattle.socket_laws.proofs.LivePairs.{left_asked, left_after, left_told, Taken, taken_row, after_ok, change_ok, left_opens}

abbrev KeepsIn : Option Listen → Type 0
KeepsIn None = Unit {0}
KeepsIn (Some l) = Keeps l

-- the listener of each socket keeps records that wait
abbrev AllKeep : List TcpSocket → Type 0
AllKeep sockets = (k : ℕ) (s : TcpSocket) → slice_get sockets k ≡ Some s → KeepsIn s.listen

abbrev Rests : SocketsRecord → Type 0
Rests t = AllKeep t.tcp

-- places
either : (p q : ℕ) → (p ≡ q) ⊎ (p ≡ q → ⊥)
either zero zero = inl refl
either zero (suc q) = inr (λ e. omega arith)
either (suc p) zero = inr (λ e. omega arith)
either (suc p) (suc q) = ⊎_elim (λ e. inl (ap suc e)) (λ n. inr (λ e. n (omega arith))) (either p q)

is_set : (sockets : List TcpSocket) (k : ℕ) (s x : TcpSocket) → slice_get (set sockets k s) k ≡ Some x → x ≡ s
is_set [] k s x e = cc
is_set (y ∷ sockets) zero s x e = cc
is_set (y ∷ sockets) (suc k) s x e = is_set sockets k s x e

is_left : (sockets : List TcpSocket) (k j : ℕ) (s : TcpSocket) → (k ≡ j → ⊥) → slice_get (set sockets k s) j ≡ slice_get sockets j
is_left [] k j s n = refl
is_left (y ∷ sockets) zero zero s n = absurd (n refl)
is_left (y ∷ sockets) zero (suc j) s n = refl
is_left (y ∷ sockets) (suc k) zero s n = refl
is_left (y ∷ sockets) (suc k) (suc j) s n = is_left sockets k j s (λ e. n (ap suc e))

is_pushed : (sockets : List TcpSocket) (j : ℕ) (s x : TcpSocket) → slice_get (sockets ++ s ∷ []) j ≡ Some x → (slice_get sockets j ≡ Some x) ⊎ (x ≡ s)
is_pushed [] zero s x e = let same : x ≡ s = cc in inr same
is_pushed [] (suc j) s x e = cc
is_pushed (y ∷ sockets) zero s x e = inl e
is_pushed (y ∷ sockets) (suc j) s x e = is_pushed sockets j s x e

keep_set : (sockets : List TcpSocket) (k : ℕ) (s : TcpSocket) → AllKeep sockets → KeepsIn s.listen → AllKeep (set sockets k s)
keep_set sockets k s all here = λ j x e.
    ⊎_elim
    (λ same. subst (λ (y : TcpSocket). KeepsIn y.listen) (sym (is_set sockets k s x (ap (λ n. slice_get (set sockets k s) n) same ∙ e))) here)
    (λ apart. all j x (sym (is_left sockets k j s apart) ∙ e))
    (either k j)

keep_push : (sockets : List TcpSocket) (s : TcpSocket) → AllKeep sockets → KeepsIn s.listen → AllKeep (sockets ++ s ∷ [])
keep_push sockets s all here = λ j x e.
    ⊎_elim (λ at. all j x at) (λ same. subst (λ (y : TcpSocket). KeepsIn y.listen) (sym same) here) (is_pushed sockets j s x e)

keep_put : (s : TcpSocket) (t : SocketsRecord) → Rests t → KeepsIn s.listen → Rests (put_tcp s t)
keep_put s t h here =
    by_test AllKeep (nat_lt (tcp_place t) (length t.tcp)) (set t.tcp (tcp_place t) s) (t.tcp ++ s ∷ []) (λ e. keep_set t.tcp (tcp_place t) s h here) (λ e. keep_push t.tcp s h here)

-- an act, and a change, of the socket with a number
keep_acts_in : (k : ℕ) (act : TcpSocket → Wanted → Acted) (o : Option TcpSocket) (t : SocketsRecord) (w : Wanted) → slice_get t.tcp k ≡ o → ((s : TcpSocket) → KeepsIn s.listen → KeepsIn (act s w).socket.listen) → Rests t → Rests (acts_in k act o t w).0
keep_acts_in k act None t w at keeps h = h
keep_acts_in k act (Some s) t w at keeps h = keep_set t.tcp k (act s w).socket h (keeps s (h k s at))

keep_at : (k : ℕ) (act : TcpSocket → Wanted → Acted) (t : SocketsRecord) (w : Wanted) → ((s : TcpSocket) → KeepsIn s.listen → KeepsIn (act s w).socket.listen) → Rests t → Rests (acts_at k act t w).0
keep_at k act t w keeps h = keep_acts_in k act (slice_get t.tcp k) t w refl keeps h

keep_changed_in : (k : ℕ) (f : TcpSocket → TcpSocket) (o : Option TcpSocket) (t : SocketsRecord) → slice_get t.tcp k ≡ o → ((s : TcpSocket) → KeepsIn s.listen → KeepsIn (f s).listen) → Rests t → Rests (changes_in k f o t)
keep_changed_in k f None t at keeps h = h
keep_changed_in k f (Some s) t at keeps h = keep_set t.tcp k (f s) h (keeps s (h k s at))

keep_changed : (k : ℕ) (f : TcpSocket → TcpSocket) (t : SocketsRecord) → ((s : TcpSocket) → KeepsIn s.listen → KeepsIn (f s).listen) → Rests t → Rests (changes_at k f t)
keep_changed k f t keeps h = keep_changed_in k f (slice_get t.tcp k) t refl keeps h

-- an act on the record of a socket leaves its listener
starts_keep : (now : Time) (k : ℕ) (o : Option Time) (s : TcpSocket) (w : Wanted) → KeepsIn s.listen → KeepsIn (starts now k o s w).0.listen
starts_keep now k None s w h = h
starts_keep now k (Some length) s w h = h

turned_keeps : (now : Time) (k : ℕ) (t : Turn) (s : TcpSocket) (w : Wanted) → KeepsIn s.listen → KeepsIn (turned now k t s w).socket.listen
unfolding turned
turned_keeps now k t s w h =
    let started = starts now k (timer_of t) (with_tcb t.tcb s) (sends t.sent w) in
    by_test (λ (a : Acted). KeepsIn a.socket.listen) (is_let_go t.tcb started.0) _ _ (λ e. tt) (λ e. starts_keep now k (timer_of t) (with_tcb t.tcb s) (sends t.sent w) h)

record_keeps_in : (now : Time) (k : ℕ) (act : Tcb → Turn) (o : Option Tcb) (s : TcpSocket) (w : Wanted) → KeepsIn s.listen → KeepsIn (turned_in now k act o s w).socket.listen
record_keeps_in now k act None s w h = h
record_keeps_in now k act (Some r) s w h = turned_keeps now k (act r) s w h

keep_record : (now : Time) (k : ℕ) (act : Tcb → Turn) (t : SocketsRecord) (w : Wanted) → Rests t → Rests (acts_at k (λ s v. record_acts now k act s v) t w).0
keep_record now k act t w h = keep_at k (λ s v. record_acts now k act s v) t w (λ s keeps. record_keeps_in now k act s.tcb s w keeps) h

keep_error : (now : Time) (k : ℕ) (t : SocketsRecord) (w : Wanted) → Rests t → Rests (acts_at k (error_takes now k) t w).0
keep_error now k t w h = keep_record now k (λ r. changed error_taken (begin r)) t w h

abbrev RestsOf : SocketsRecord × Wanted → Type 0
RestsOf x = Rests x.0

-- the calls
taken_keeps : {A : Type 0} (now : Time) (k : ℕ) (asked : Result (Unit {0}) Refusal) (a : A) (after : SocketsRecord × Wanted) (t : SocketsRecord) (w : Wanted) → Rests after.0 → Rests t → Rests (Taken now k (asked >> Ok (a, after)) t w).0
taken_keeps now k asked a after t w done h =
    taken_row RestsOf now k (asked >> Ok (a, after)) t w (λ b left e. subst RestsOf (after_ok asked a b after left e) done) (keep_error now k t w h) h

connect_keeps : (hosts : List Ip) (now : Time) (k : ℕ) (to : Addr) (t : SocketsRecord) (w : Wanted) → Rests t → Rests (left_by (connects_taking hosts now k to t w) (t, w)).0
unfolding connects_taking connects
connect_keeps hosts now k to t w h =
    taken_row RestsOf now k (connects hosts now k to t w) t w
    (λ b left e.
    let done = left_opens (connect_asked hosts k to t) (λ local. acts_at k (opens now k local to) t w) b left e in
    subst RestsOf done.1.1
    (keep_at k (opens now k done.0 to) t w (λ s keeps. turned_keeps now k (opened done.0 to ((draws_word w).0 % 2 ^ 32)) s (draws_word w).1 keeps) h))
    (keep_error now k t w h) h

again_keeps : (now : Time) (k : ℕ) (t : SocketsRecord) (w : Wanted) → Rests t → Rests (left_by (connect_answers now k t w) (t, w)).0
unfolding connect_answers
again_keeps now k t w h =
    taken_row RestsOf now k (without_change t w (connect_waited k t)) t w
    (λ b left e. subst RestsOf (change_ok t w (connect_waited k t) b left e) h) (keep_error now k t w h) h

send_keeps : (hosts : List Ip) (now : Time) (k : ℕ) (bytes : List ℕ) (to : Option Addr) (quiet : Bool) (t : SocketsRecord) (w : Wanted) → Rests t → Rests (left_by (sends_taking hosts now k bytes to quiet t w) (t, w)).0
unfolding sends_taking
send_keeps hosts now k bytes to quiet t w h =
    taken_keeps now k (send_asked hosts k (length bytes) to quiet t) _ (acts_at k (takes_written now k bytes) t w) t w
    (keep_record now k (λ r. flows (changed (writes bytes) (begin r))) t w h) h

recv_keeps : (now : Time) (k n : ℕ) (t : SocketsRecord) (w : Wanted) → Rests t → Rests (left_by (receives_taking now k n t w) (t, w)).0
unfolding receives_taking
recv_keeps now k n t w h =
    taken_keeps now k (recv_asked k t) _ (acts_at k (gives_read now k n) t w) t w (keep_record now k (λ r. flows (changed (reads n) (begin r))) t w h) h

shut_keeps : (now : Time) (k : ℕ) (how : Shut) (t : SocketsRecord) (w : Wanted) → Rests t → Rests (left_by (shuts_tcp now k how t w) (t, w)).0
unfolding shuts_tcp
shut_keeps now k how t w h =
    left_after RestsOf (may_shut k t) tt (acts_at k (λ s v. record_acts now k (λ r. shuts how (begin r)) s v) t w) (t, w)
    (keep_record now k (λ r. shuts how (begin r)) t w h) h

error_keeps : (now : Time) (k : ℕ) (t : SocketsRecord) (w : Wanted) → Rests t → Rests (left_by (takes_error now k t w) (t, w)).0
unfolding takes_error
error_keeps now k t w h = left_told RestsOf (error_asked k t) (λ e. e) (acts_at k (error_takes now k) t w) (t, w) (keep_error now k t w h) h

closed_keeps : (now : Time) (k : ℕ) (o : Option Listen) (s : TcpSocket) (w : Wanted) → KeepsIn (closes_in now k o s w).socket.listen
closed_keeps now k None s w = record_keeps_in now k (λ r. closes (begin r)) s.tcb (unheld s) w tt
closed_keeps now k (Some l) s w = tt

close_keeps : (now : Time) (k : ℕ) (t : SocketsRecord) (w : Wanted) → Rests t → Rests (closes_tcp now k t w).0
unfolding closes_tcp
close_keeps now k t w h = keep_at k (closed now k) t w (λ s keeps. closed_keeps now k s.listen s w) h

bind_keeps : (k : ℕ) (at : Addr) (t : SocketsRecord) → Rests t → Rests (left_by (binds_tcp k at t) t)
unfolding binds_tcp
bind_keeps k at t h =
    left_asked Rests (bind_asked k at t) (λ end. (tt, changes_at k (with_bound end) t)) t (λ end e. keep_changed k (with_bound end) t (λ s keeps. keeps) h) h

listened_keeps : (at : Addr) (n : ℤ) (o : Option Listen) → KeepsIn o → Keeps (listen_to at n o)
listened_keeps at n None h = keeps_fresh at n
listened_keeps at n (Some l) h = record { records = h.records; queue = h.queue }

listen_keeps : (k : ℕ) (n : ℤ) (t : SocketsRecord) → Rests t → Rests (left_by (listens_tcp k n t) t)
unfolding listens_tcp
listen_keeps k n t h =
    left_asked Rests (listen_asked k t) (λ at. (tt, changes_at k (listening at n) t)) t
    (λ at e. keep_changed k (listening at n) t (λ s keeps. listened_keeps at n s.listen keeps) h) h

-- accept(2)
left_keeps : (l : Listen) (r : Tcb) (rest : Listen) → Keeps l → accepts l ≡ Some (r, rest) → Keeps rest
left_keeps l r rest h e = subst Keeps (ap (λ o. after_accept o l) e) (keeps_accept l h)

given_keeps_in : (o : Option Listen) (r : Tcb) (rest : Listen) → KeepsIn o → accepts_in o ≡ Some (r, rest) → Keeps rest
given_keeps_in None r rest h e = cc
given_keeps_in (Some l) r rest h e = left_keeps l r rest h e

given_keeps : (k : ℕ) (o : Option TcpSocket) (t : SocketsRecord) (r : Tcb) (rest : Listen) → slice_get t.tcp k ≡ o → accepts_of o ≡ Some (r, rest) → Rests t → Rests (changes_in k (given_up r rest) o t)
given_keeps k None t r rest at e h = h
given_keeps k (Some s) t r rest at e h = keep_set t.tcp k (given_up r rest s) h (given_keeps_in s.listen r rest (h k s at) e)

accepted_keeps : (k : ℕ) (asked : Result (Unit {0}) Refusal) (a : Option (Tcb × Listen)) (t : SocketsRecord) → a ≡ accepts_at k t → Rests t → Rests (left_by (asked >> (or_refuse a (refusal.Wait None) >>= λ (r, rest). Ok (placed r (changes_at k (given_up r rest) t)))) t)
accepted_keeps k (Err why) a t e h = h
accepted_keeps k (Ok u) None t e h = h
accepted_keeps k (Ok u) (Some (r, rest)) t e h =
    keep_put (accepted r) (changes_at k (given_up r rest) t) (given_keeps k (slice_get t.tcp k) t r rest refl (sym e) h) tt

accept_keeps : (k : ℕ) (t : SocketsRecord) → Rests t → Rests (left_by (accepts_tcp k t) t)
unfolding accepts_tcp
accept_keeps k t h = accepted_keeps k (accept_asked k t) (accepts_at k t) t refl h

-- UDP sockets have no listeners
udp_keeps : {A : Type 0} (act : UdpState → Result (A × UdpState) Refusal) (k : ℕ) (o : Option UdpState) (t : SocketsRecord) → Rests t → Rests (left_by (acted_udp act k o t) t)
udp_keeps act k None t h = h
udp_keeps {A} act k (Some u) t h = by_answer (act u)
  where
    by_answer : (answer : Result (A × UdpState) Refusal) → Rests (left_by (answer >>= λ (a, after). Ok (a, with_udp k u after t)) t)
    by_answer (Ok (a, after)) = h
    by_answer (Err why) = h

-- alarms and arrivals
heard_keeps : (now : Time) (k : ℕ) (local peer : Addr) (h : Heard) (gone : List Tcb) (s : TcpSocket) (w : Wanted) → Keeps h.listen → KeepsIn (heard now k local peer h gone s w).socket.listen
unfolding heard
heard_keeps now k local peer h gone s w keeps = keeps

timer_keeps : (now : Time) (k : ℕ) (timer : KeptTimer) (o : Option Listen) (s : TcpSocket) (w : Wanted) → KeepsIn o → KeepsIn s.listen → KeepsIn (kept_expires now k timer o s w).socket.listen
timer_keeps now k timer None s w h keeps = keeps
timer_keeps now k timer (Some l) s w h keeps =
    heard_keeps now k timer.own timer.other (hears_timer timer.own timer.other l) (dropped expires timer.own timer.other l) s w (keeps_timer timer.own timer.other l h)

kept_keeps : (now : Time) (k : ℕ) (o : Option KeptTimer) (s : TcpSocket) (w : Wanted) → KeepsIn s.listen → KeepsIn (timer_expires now k o s w).socket.listen
kept_keeps now k None s w h = h
kept_keeps now k (Some timer) s w h = timer_keeps now k timer s.listen s w h h

socket_keeps : (now : Time) (k serial : ℕ) (s : TcpSocket) (w : Wanted) → KeepsIn s.listen → KeepsIn (socket_expires now k serial s w).socket.listen
socket_keeps now k serial s w h =
    by_test (λ (a : Acted). KeepsIn a.socket.listen) (s.serial == serial) _ _
    (λ e. record_keeps_in now k (λ r. expires (begin r)) s.tcb s w h) (λ e. kept_keeps now k (kept_timer serial s.timers) s w h)

alarm_keeps : (now : Time) (k serial : ℕ) (t : SocketsRecord) (w : Wanted) → Rests t → Rests (alarm_comes now k serial t w).0
unfolding alarm_comes
alarm_keeps now k serial t w h =
    keep_at k (socket_expires now k serial) t w (λ s keeps. socket_keeps now k serial s w keeps) h

hearing_keeps : (now : Time) (p : Packet) (k : ℕ) (o : Option Listen) (s : TcpSocket) (w : Wanted) → KeepsIn o → KeepsIn s.listen → KeepsIn (hears_in now p k o s w).socket.listen
hearing_keeps now p k None s w h keeps = keeps
hearing_keeps now p k (Some l) s w h keeps =
    heard_keeps now k p.to p.from (hears p (draws_word w).0 l) (dropped (takes_packet p) p.to p.from l) s (word_drawn p l w) (keeps_hears p (draws_word w).0 l h)

listener_keeps : (now : Time) (p : Packet) (o : Option ℕ) (t : SocketsRecord) (w : Wanted) → Rests t → Rests (heard_at now p o t w).1.0
listener_keeps now p None t w h = h
listener_keeps now p (Some k) t w h = keep_at k (listener_hears now p k) t w (λ s keeps. hearing_keeps now p k s.listen s w keeps keeps) h

segment_keeps_at : (now : Time) (p : Packet) (o : Option ℕ) (t : SocketsRecord) (w : Wanted) → Rests t → Rests (segment_at now p o t w).1.0
segment_keeps_at now p None t w h = listener_keeps now p (hearer p t) t w h
segment_keeps_at now p (Some k) t w h = keep_record now k (λ r. takes_packet p (begin r)) t w h

segment_keeps : (now : Time) (p : Packet) (t : SocketsRecord) (w : Wanted) → Rests t → Rests (segment_arrives now p t w).1.0
unfolding segment_arrives
segment_keeps now p t w h = segment_keeps_at now p (position (has_record p.to p.from) t.tcp) t w h

slot_keeps : (from : Addr) (bytes : List ℕ) (k : ℕ) (o : Option UdpState) (t : SocketsRecord) → Rests t → Rests (datagram_in from bytes k o t).1
slot_keeps from bytes k None t h = h
slot_keeps from bytes k (Some u) t h = h

taker_keeps : (from : Addr) (bytes : List ℕ) (o : Option ℕ) (t : SocketsRecord) → Rests t → Rests (datagram_at from bytes o t).1
taker_keeps from bytes None t h = h
taker_keeps from bytes (Some k) t h = slot_keeps from bytes k (udp_in k t) t h

datagram_keeps : (from to : Addr) (bytes : List ℕ) (t : SocketsRecord) → Rests t → Rests (datagram_arrives from to bytes t).1
unfolding datagram_arrives
datagram_keeps from to bytes t h = taker_keeps from bytes (position (takes_in from to) t.udp) t h

load_keeps : (load : Load) (now : Time) (p : Packet) (t : SocketsRecord) (w : Wanted) → Rests t → Rests (arrives_by load now p t w).1.0
load_keeps (Udp bytes) now p t w h = datagram_keeps p.from p.to bytes t h
load_keeps (Tcp flags seq ack window text) now p t w h = segment_keeps now p t w h

-- every act
acted_keeps : (hosts : List Ip) (now : Time) (act : SocketsAct) (t : SocketsRecord) (w : Wanted) → Rests t → Rests (sockets_acted hosts now act t w).0
unfolding new_udp binds_udp connects_udp sends_udp receives_udp closes_udp
acted_keeps hosts now make_udp t w h = h
acted_keeps hosts now (bind_udp k at) t w h = udp_keeps _ k (udp_in k t) t h
acted_keeps hosts now (connect_udp k to) t w h = udp_keeps _ k (udp_in k t) t h
acted_keeps hosts now (send_udp k bytes to) t w h = udp_keeps _ k (udp_in k t) t h
acted_keeps hosts now (recv_udp k n) t w h = udp_keeps _ k (udp_in k t) t h
acted_keeps hosts now (close_udp k) t w h = h
acted_keeps hosts now make_tcp t w h = keep_put (fresh true) t h tt
acted_keeps hosts now (bind_tcp k at) t w h = bind_keeps k at t h
acted_keeps hosts now (listen_tcp k n) t w h = listen_keeps k n t h
acted_keeps hosts now (accept_tcp k) t w h = accept_keeps k t h
acted_keeps hosts now (connect_tcp k to) t w h = connect_keeps hosts now k to t w h
acted_keeps hosts now (connect_again k) t w h = again_keeps now k t w h
acted_keeps hosts now (send_tcp k bytes to quiet) t w h = send_keeps hosts now k bytes to quiet t w h
acted_keeps hosts now (recv_tcp k n) t w h = recv_keeps now k n t w h
acted_keeps hosts now (shut_tcp k how) t w h = shut_keeps now k how t w h
acted_keeps hosts now (take_error k) t w h = error_keeps now k t w h
acted_keeps hosts now (close_tcp k) t w h = close_keeps now k t w h
acted_keeps hosts now (arrival p) t w h = load_keeps p.load now p t w h
acted_keeps hosts now (alarm k serial) t w h = alarm_keeps now k serial t w h
acted_keeps hosts now (elsewhere after) t w h = h

after_keeps : (hosts : List Ip) (acts : List (Time × SocketsAct)) (t : SocketsRecord) (w : Wanted) → Rests t → Rests (sockets_after hosts acts (t, w)).0
after_keeps hosts [] t w h = h
after_keeps hosts ((now, act) ∷ acts) t w h =
    let after = sockets_acted hosts now act t w in
    after_keeps hosts acts after.0 after.1 (acted_keeps hosts now act t w h)

-- what is accepted
rests_in : (o : Option Listen) (r : Tcb) (rest : Listen) → KeepsIn o → accepts_in o ≡ Some (r, rest) → r.control.timer ≡ false
rests_in None r rest h e = cc
rests_in (Some l) r rest h e = rests_accepted l r rest h e

rests_at : (k : ℕ) (o : Option TcpSocket) (t : SocketsRecord) (r : Tcb) (rest : Listen) → slice_get t.tcp k ≡ o → accepts_of o ≡ Some (r, rest) → Rests t → r.control.timer ≡ false
rests_at k None t r rest at e h = cc
rests_at k (Some s) t r rest at e h = rests_in s.listen r rest (h k s at) e

pub history_rests : (hosts : List Ip) (host : Ip) (draws : List ℕ) (acts : List (Time × SocketsAct)) (k : ℕ) (r : Tcb) (rest : Listen) → accepts_at k (sockets_of hosts host draws acts) ≡ Some (r, rest) → r.control.timer ≡ false
history_rests hosts host draws acts k r rest e =
    rests_at k (slice_get (sockets_of hosts host draws acts).tcp k) (sockets_of hosts host draws acts) r rest refl e
    (after_keeps hosts acts (no_sockets host) (nothing_wanted draws) (λ j s at. absurd (cc)))
