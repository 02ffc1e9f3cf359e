-- a listener listens on the end that its socket is bound to
use Rattle.std.proofs.Common.{◌≡◌, ℕ, zero, suc, ◌==◌, List, [], ◌∷◌, ◌++◌, length, set, Bool, true, false, nat_lt, if◌then◌else◌, Option, Some, None, is_some, slice_get, Result, Ok, Err, refl, sym, ap, subst, ◌∙◌}
use Rattle.std.specs.Prelude.{ℤ}
use Rattle.sim_base.specs.declared.address.Addr.{Addr}
use Rattle.sim_base.specs.declared.errno.Errno.TheVariants.{Ebadf, Einval, Eaddrnotavail}
use Rattle.sim_base.specs.declared.packet.Packet.{Packet}
use Rattle.sim_base.specs.declared.time.Time.{Time}
use Rattle.sim_base.specs.Addresses.{any, at_free_port}
use Rattle.sim_base.specs.Refusals.{◌>>=◌, ◌>>◌, refuse_if, or_refuse}
use Rattle.sim_base.proofs.RefusalLemmas.{then_ok}
use Rattle.sock_udp.specs.Socket.{or_else}
use Rattle.sock_tcp.specs.declared.segment.header.Header.{Header}
use Rattle.sock_tcp.specs.segment.State.{is_over}
use Rattle.sock_tcp.specs.connection.Arrival.{takes_packet}
use Rattle.sock_tcp.specs.connection.Begin.{begin}
use Rattle.sock_tcp.specs.connection.Process.{closes, expires}
use Rattle.sock_tcp.specs.connection.Tcb.{Tcb, Turn}
use Rattle.sock_tcp.specs.connection.Timer.{timer_of}
use Rattle.sock_tcp.specs.listener.Listen as listener
use Rattle.sock_tcp.specs.listener.Listen.{Listen, Heard}
use Rattle.host_wants.specs.declared.error.Refusal.{Refusal}
use Rattle.host_wants.specs.declared.error.Refusal.TheVariants as refusal
use Rattle.host_sockets.specs.declared.tcp_sock.KeptTimer.{KeptTimer}
use Rattle.host_wants.specs.Wanted.{Wanted, sends, draws_word}
use Rattle.host_sockets.specs.TcpSocket.{TcpSocket, with_tcb, with_bound}
use Rattle.host_sockets.specs.Sockets.{SocketsRecord, put_at, changes_at, changes_in, tcp_ends, tcp_place, put_tcp}
use Rattle.host_sockets.specs.TcpActs.{Acted, unacted, is_let_go, fresh_again, starts, turned, turned_in, record_acts, acts_in, acts_at}
use Rattle.host_sockets.specs.ListenerActs.{heard}
use Rattle.host_sockets.specs.Accepting.{given_up, accepts_in, accepts_of, accepts_at, accepted}
use Rattle.host_sockets.specs.Alarms.{kept_timer, kept_expires, timer_expires, socket_expires, alarm_comes}
use Rattle.host_sockets.specs.Arriving.{hears_in}
use Rattle.host_sockets.specs.Binding.{bind_begins, bind_begun, bind_asked, end_to_use, listening, listen_begun, listen_asked}
use Rattle.host_sockets.specs.Closing.{unheld, closes_in, closed, closes_tcp}
use Rattle.host_sockets.specs.Connecting.{opens}

abbrev pub ListensBound : TcpSocket → Type 0
ListensBound s = (l : Listen) → s.listen ≡ Some l → s.bound ≡ Some l.local

abbrev pub AllListen : List TcpSocket → Type 0
AllListen xs = (i : ℕ) (s : TcpSocket) → slice_get xs i ≡ Some s → ListensBound s

all_set : (xs : List TcpSocket) (k : ℕ) (new : TcpSocket) → AllListen xs → ListensBound new → AllListen (set xs k new)
all_set [] k new h p i s e = h i s e
all_set (x ∷ xs) zero new h p zero s e = let same : new ≡ s = cc in subst (λ (y : TcpSocket). ListensBound y) same p
all_set (x ∷ xs) zero new h p (suc i) s e = h (suc i) s e
all_set (x ∷ xs) (suc k) new h p zero s e = h zero s e
all_set (x ∷ xs) (suc k) new h p (suc i) s e = all_set xs k new (λ n y f. h (suc n) y f) p i s e

all_push : (xs : List TcpSocket) (new : TcpSocket) → AllListen xs → ListensBound new → AllListen (xs ++ new ∷ [])
all_push [] new h p zero s e = let same : new ≡ s = cc in subst (λ (y : TcpSocket). ListensBound y) same p
all_push [] new h p (suc i) s e = cc
all_push (x ∷ xs) new h p zero s e = h zero s e
all_push (x ∷ xs) new h p (suc i) s e = all_push xs new (λ n y f. h (suc n) y f) p i s e

all_by : (within : Bool) (xs : List TcpSocket) (k : ℕ) (new : TcpSocket) → AllListen xs → ListensBound new → AllListen (if within then set xs k new else xs ++ new ∷ [])
all_by true xs k new h p = all_set xs k new h p
all_by false xs k new h p = all_push xs new h p

pub put_all : (s : TcpSocket) (t : SocketsRecord) → AllListen t.tcp → ListensBound s → AllListen (put_at (tcp_place t) s t.tcp)
put_all s t h p = all_by (nat_lt (tcp_place t) (length t.tcp)) t.tcp (tcp_place t) s h p

-- an act at a place
abbrev pub KeepsBound : (TcpSocket → Wanted → Acted) → Type 0
KeepsBound act = (s : TcpSocket) (w : Wanted) → ListensBound s → ListensBound (act s w).socket

acts_there : (k : ℕ) (act : TcpSocket → Wanted → Acted) → KeepsBound act → (o : Option TcpSocket) (t : SocketsRecord) (w : Wanted) → slice_get t.tcp k ≡ o → AllListen t.tcp → AllListen (let after : SocketsRecord = (acts_in k act o t w).0 in after.tcp)
acts_there k act keeps None t w there h = h
acts_there k act keeps (Some s) t w there h = all_set t.tcp k (act s w).socket h (keeps s w (h k s there))

pub acts_all : (k : ℕ) (act : TcpSocket → Wanted → Acted) → KeepsBound act → (t : SocketsRecord) (w : Wanted) → AllListen t.tcp → AllListen (let after : SocketsRecord = (acts_at k act t w).0 in after.tcp)
acts_all k act keeps t w h = acts_there k act keeps (slice_get t.tcp k) t w refl h

changes_there : (k : ℕ) (f : TcpSocket → TcpSocket) (o : Option TcpSocket) (t : SocketsRecord) → AllListen t.tcp → ((s : TcpSocket) → o ≡ Some s → ListensBound (f s)) → AllListen (let after : SocketsRecord = changes_in k f o t in after.tcp)
changes_there k f None t h p = h
changes_there k f (Some s) t h p = all_set t.tcp k (f s) h (p s refl)

pub changes_all : (k : ℕ) (f : TcpSocket → TcpSocket) (t : SocketsRecord) → AllListen t.tcp → ((s : TcpSocket) → slice_get t.tcp k ≡ Some s → ListensBound (f s)) → AllListen (let after : SocketsRecord = changes_at k f t in after.tcp)
changes_all k f t h p = changes_there k f (slice_get t.tcp k) t h p

-- acts on records
starts_bound : (now : Time) (k : ℕ) (timer : Option Time) (s : TcpSocket) (w : Wanted) → ListensBound s → ListensBound (starts now k timer s w).0
starts_bound now k None s w p = p
starts_bound now k (Some length) s w p = p

let_go_by : (b : Bool) (r : Tcb) (s : TcpSocket) (w : Wanted) → ListensBound s → ListensBound (let after : Acted = if b then record { socket = fresh_again s; wanted = w; gone = r ∷ [] } else unacted s w in after.socket)
let_go_by true r s w p = λ l e. cc
let_go_by false r s w p = p

turned_bound : (now : Time) (k : ℕ) (t : Turn) (s : TcpSocket) (w : Wanted) → ListensBound s → ListensBound (turned now k t s w).socket
unfolding turned
turned_bound now k t s w p =
    let started = starts now k (timer_of t) (with_tcb t.tcb s) (sends t.sent w) in
    let_go_by (is_let_go t.tcb started.0) t.tcb started.0 started.1 (starts_bound now k (timer_of t) (with_tcb t.tcb s) (sends t.sent w) p)

turned_in_bound : (now : Time) (k : ℕ) (act : Tcb → Turn) (o : Option Tcb) (s : TcpSocket) (w : Wanted) → ListensBound s → ListensBound (turned_in now k act o s w).socket
turned_in_bound now k act None s w p = p
turned_in_bound now k act (Some r) s w p = turned_bound now k (act r) s w p

pub record_bound : (now : Time) (k : ℕ) (act : Tcb → Turn) → KeepsBound (record_acts now k act)
record_bound now k act s w p = turned_in_bound now k act s.tcb s w p

pub opens_bound : (now : Time) (k : ℕ) (own other : Addr) → KeepsBound (opens now k own other)
opens_bound now k own other s w p = turned_bound now k _ s (draws_word w).1 p

-- what a listener hears leaves its end
listen_by : (b : Bool) (x y : Listen) (at : Addr) → x.local ≡ at → y.local ≡ at → (let after : Listen = if b then x else y in after.local) ≡ at
listen_by true x y at ex ey = ex
listen_by false x y at ex ey = ey

without_local : (place : ℕ) (l : Listen) → (listener.without place l).local ≡ l.local
unfolding listener.without
without_local place l = refl

requeued_local : (place : ℕ) (before : Bool) (r : Tcb) (l : Listen) → (listener.requeued place before r l).local ≡ l.local
unfolding listener.requeued
requeued_local place before r l =
    listen_by r.control.was_established _ _ l.local (listen_by before l (listener.waits place l) l.local refl refl)
    (listen_by (is_over r.control.state) (listener.without place l) l l.local (without_local place l) refl)

acts_local : (act : Turn → Turn) (place : ℕ) (o : Option Tcb) (l : Listen) (otherwise : Heard) → otherwise.listen.local ≡ l.local → (listener.record_acts act place o l otherwise).listen.local ≡ l.local
acts_local act place None l otherwise e = e
acts_local act place (Some r) l otherwise e = requeued_local place r.control.was_established (act (begin r)).tcb (listener.replaced place (act (begin r)).tcb l)

kept_local : (act : Turn → Turn) (own other : Addr) (l : Listen) (otherwise : Heard) → otherwise.listen.local ≡ l.local → (listener.kept_acts act own other l otherwise).listen.local ≡ l.local
unfolding listener.kept_acts
kept_local act own other l otherwise e = acts_local act _ _ l otherwise e

made_local : (t : Turn) (l : Listen) → (listener.record_made t l).listen.local ≡ l.local
unfolding listener.record_made
made_local t l = refl

heard_by : (b : Bool) (x y : Heard) (at : Addr) → x.listen.local ≡ at → y.listen.local ≡ at → (let after : Heard = if b then x else y in after.listen.local) ≡ at
heard_by true x y at ex ey = ex
heard_by false x y at ex ey = ey

asked_local : (p : Packet) (h : Header) (word : ℕ) (l : Listen) → (listener.asked p h word l).listen.local ≡ l.local
unfolding listener.asked
asked_local p h word l = heard_by (listener.makes_record h l) _ (listener.nothing_heard l) l.local (made_local _ l) refl

new_local : (p : Packet) (o : Option Header) (word : ℕ) (l : Listen) → (listener.new_heard p o word l).listen.local ≡ l.local
new_local p None word l = refl
new_local p (Some h) word l = asked_local p h word l

hears_local : (p : Packet) (word : ℕ) (l : Listen) → (listener.hears p word l).listen.local ≡ l.local
unfolding listener.hears
hears_local p word l = kept_local (takes_packet p) p.to p.from l _ (new_local p (listener.load_header p.load) word l)

timer_local : (own other : Addr) (l : Listen) → (listener.hears_timer own other l).listen.local ≡ l.local
unfolding listener.hears_timer
timer_local own other l = kept_local expires own other l (listener.nothing_heard l) refl

accepted_at_local : (place : ℕ) (o : Option Tcb) (l : Listen) (r : Tcb) (rest : Listen) → listener.accepted_at place o l ≡ Some (r, rest) → rest.local ≡ l.local
accepted_at_local place None l r rest e = cc
accepted_at_local place (Some x) l r rest e =
    let same : (x, listener.without place l) ≡ (r, rest) = cc in
    sym (ap (λ (y : Tcb × Listen). y.1.local) same) ∙ without_local place l

accepted_local : (queue : List ℕ) (l : Listen) (r : Tcb) (rest : Listen) → listener.accepted_from queue l ≡ Some (r, rest) → rest.local ≡ l.local
accepted_local [] l r rest e = cc
accepted_local (place ∷ behind) l r rest e = accepted_at_local place (slice_get l.records place) l r rest e

accepts_local : (l : Listen) (r : Tcb) (rest : Listen) → listener.accepts l ≡ Some (r, rest) → rest.local ≡ l.local
unfolding listener.accepts
accepts_local l r rest e = accepted_local l.accept_queue l r rest e

-- a socket whose listener keeps its end
listens_still : (s new : TcpSocket) (l after : Listen) → s.listen ≡ Some l → ListensBound s → after.local ≡ l.local → new.bound ≡ s.bound → new.listen ≡ Some after → ListensBound new
listens_still s new l after is p local bound listen = λ m e.
    let same : after ≡ m = cc in
    bound ∙ (p l is ∙ ap (λ (x : Addr). Some x) (sym local ∙ ap (λ (x : Listen). x.local) same))

heard_bound : (now : Time) (k : ℕ) (own other : Addr) (h : Heard) (gone : List Tcb) (s : TcpSocket) (w : Wanted) (l : Listen) → s.listen ≡ Some l → h.listen.local ≡ l.local → ListensBound s → ListensBound (heard now k own other h gone s w).socket
unfolding heard
heard_bound now k own other h gone s w l is local p = listens_still s (heard now k own other h gone s w).socket l h.listen is p local refl refl

hears_in_bound : (now : Time) (p : Packet) (k : ℕ) (o : Option Listen) (s : TcpSocket) (w : Wanted) → s.listen ≡ o → ListensBound s → ListensBound (hears_in now p k o s w).socket
hears_in_bound now p k None s w is b = b
hears_in_bound now p k (Some l) s w is b = heard_bound now k p.to p.from (listener.hears p (draws_word w).0 l) _ s _ l is (hears_local p (draws_word w).0 l) b

pub hears_bound : (now : Time) (p : Packet) (k : ℕ) → KeepsBound (λ s w. hears_in now p k s.listen s w)
hears_bound now p k s w b = hears_in_bound now p k s.listen s w refl b

kept_expires_bound : (now : Time) (k : ℕ) (timer : KeptTimer) (o : Option Listen) (s : TcpSocket) (w : Wanted) → s.listen ≡ o → ListensBound s → ListensBound (kept_expires now k timer o s w).socket
kept_expires_bound now k timer None s w is b = b
kept_expires_bound now k timer (Some l) s w is b = heard_bound now k timer.own timer.other (listener.hears_timer timer.own timer.other l) _ s w l is (timer_local timer.own timer.other l) b

timer_expires_bound : (now : Time) (k : ℕ) (o : Option KeptTimer) (s : TcpSocket) (w : Wanted) → ListensBound s → ListensBound (timer_expires now k o s w).socket
timer_expires_bound now k None s w b = b
timer_expires_bound now k (Some timer) s w b = kept_expires_bound now k timer s.listen s w refl b

either_bound : (b : Bool) (x y : Acted) → ListensBound x.socket → ListensBound y.socket → ListensBound (let after : Acted = if b then x else y in after.socket)
either_bound true x y hx hy = hx
either_bound false x y hx hy = hy

pub alarm_all : (now : Time) (k serial : ℕ) (t : SocketsRecord) (w : Wanted) → AllListen t.tcp → AllListen (let after : SocketsRecord = (alarm_comes now k serial t w).0 in after.tcp)
unfolding alarm_comes
alarm_all now k serial t w h =
    acts_all k (socket_expires now k serial)
    (λ s v p. either_bound (s.serial == serial) _ _ (record_bound now k _ s v p) (timer_expires_bound now k (kept_timer serial s.timers) s v p)) t w h

-- close(2)
closes_in_bound : (now : Time) (k : ℕ) (o : Option Listen) (s : TcpSocket) (w : Wanted) → ListensBound (closes_in now k o s w).socket
closes_in_bound now k None s w = record_bound now k (λ r. closes (begin r)) (unheld s) w (λ l e. cc)
closes_in_bound now k (Some l) s w = λ m e. cc

pub closes_all : (now : Time) (k : ℕ) (t : SocketsRecord) (w : Wanted) → AllListen t.tcp → AllListen (let after : SocketsRecord = (closes_tcp now k t w).0 in after.tcp)
unfolding closes_tcp
closes_all now k t w h = acts_all k (closed now k) (λ s v p. closes_in_bound now k s.listen s v) t w h

-- bind(2): an unbound socket doesn't listen
then_first : {A B E : Type 0} (r : Result A E) (s : Result B E) (b : B) → (r >> s) ≡ Ok b → (a : A) × (r ≡ Ok a)
then_first (Ok a) s b e = (a, refl)
then_first (Err x) s b e = cc

unbound : (o : Option Addr) (rest : Result (Unit {0}) Refusal) (u : Unit {0}) → (refuse_if (is_some o) (refusal.Errno Einval) >> rest) ≡ Ok u → o ≡ None
unbound None rest u e = refl
unbound (Some a) rest u e = cc

begun_at : (own : SocketsRecord) (at : Addr) (o : Option TcpSocket) (u : Unit {0}) → (or_refuse o (refusal.Errno Ebadf) >>= bind_begins own.own at) ≡ Ok u → (s : TcpSocket) → o ≡ Some s → s.bound ≡ None
begun_at own at None u e s is = cc
begun_at own at (Some x) u e s is = let same : x ≡ s = cc in ap (λ (y : TcpSocket). y.bound) (sym same) ∙ unbound x.bound _ u e

pub bound_all : (k : ℕ) (at end : Addr) (t : SocketsRecord) → AllListen t.tcp → bind_asked k at t ≡ Ok end → AllListen (let after : SocketsRecord = changes_at k (with_bound end) t in after.tcp)
bound_all k at end t h e =
    let begun = then_first (bind_begun k at t) _ end e in
    changes_all k (with_bound end) t h
    (λ s there l is. let none = begun_at t at (slice_get t.tcp k) begun.0 begun.1 s there in let bound = h k s there l is in cc)

-- listen(2)
fresh_local : (at : Addr) (count : ℤ) (l : Listen) → (let made : Option Listen = Some (listener.fresh_listen at count) in made ≡ Some l) → at ≡ l.local
unfolding listener.fresh_listen
fresh_local at count l same =
    let made : listener.fresh_listen at count ≡ l = cc in ap (λ (x : Listen). x.local) made

listen_bound : (t : SocketsRecord) (at : Addr) (count : ℤ) (o : Option Listen) (s : TcpSocket) → s.listen ≡ o → ListensBound s → end_to_use t s ≡ Ok at → (l : Listen) → (listening at count (record s { listen = o })).listen ≡ Some l → (listening at count s).bound ≡ Some l.local
listen_bound t at count None s is p e l same = ap (λ (x : Addr). Some x) (fresh_local at count l same)
listen_bound t at count (Some old) s is p e l same =
    let bound = p old is in
    let used : or_refuse (or_else (Some old.local) (at_free_port (tcp_ends t) any)) (refusal.Errno Eaddrnotavail) ≡ Ok at =
    subst (λ (o : Option Addr). or_refuse (or_else o (at_free_port (tcp_ends t) any)) (refusal.Errno Eaddrnotavail) ≡ Ok at) bound e in
    let here : old.local ≡ at = cc in
    let after : (let made : Listen = record old { limit = listener.queue_limit count } in made) ≡ l = cc in
    ap (λ (x : Addr). Some x) (sym here ∙ ap (λ (x : Listen). x.local) after)

used_at : (t : SocketsRecord) (at : Addr) (o : Option TcpSocket) → (or_refuse o (refusal.Errno Ebadf) >>= end_to_use t) ≡ Ok at → (s : TcpSocket) → o ≡ Some s → end_to_use t s ≡ Ok at
used_at t at None e s is = cc
used_at t at (Some x) e s is = let same : x ≡ s = cc in subst (λ (y : TcpSocket). end_to_use t y ≡ Ok at) same e

pub listens_all : (k : ℕ) (at : Addr) (count : ℤ) (t : SocketsRecord) → AllListen t.tcp → listen_asked k t ≡ Ok at → AllListen (let after : SocketsRecord = changes_at k (listening at count) t in after.tcp)
listens_all k at count t h e =
    changes_all k (listening at count) t h
    (λ s there. listen_bound t at count s.listen s refl (h k s there) (used_at t at (slice_get t.tcp k) (then_ok (listen_begun k t) _ at e) s there))

-- accept(2)
given_bound : (r : Tcb) (rest : Listen) (o : Option Listen) (s : TcpSocket) → s.listen ≡ o → accepts_in o ≡ Some (r, rest) → ListensBound s → ListensBound (given_up r rest s)
given_bound r rest None s is e p = cc
given_bound r rest (Some l) s is e p = listens_still s (given_up r rest s) l rest is p (accepts_local l r rest e) refl refl

given_at : (r : Tcb) (rest : Listen) (o : Option TcpSocket) → accepts_of o ≡ Some (r, rest) → (s : TcpSocket) → o ≡ Some s → accepts_in s.listen ≡ Some (r, rest)
given_at r rest None e s is = cc
given_at r rest (Some x) e s is = let same : x ≡ s = cc in ap (λ (y : TcpSocket). accepts_in y.listen) (sym same) ∙ e

pub accepted_all : (r : Tcb) (rest : Listen) (k : ℕ) (t : SocketsRecord) → AllListen t.tcp → accepts_at k t ≡ Some (r, rest) → AllListen (let after : SocketsRecord = put_tcp (accepted r) (changes_at k (given_up r rest) t) in after.tcp)
accepted_all r rest k t h e =
    put_all (accepted r) (changes_at k (given_up r rest) t)
    (changes_all k (given_up r rest) t h (λ s there. given_bound r rest s.listen s refl (given_at r rest (slice_get t.tcp k) e s there) (h k s there)))
    (λ l is. cc)
