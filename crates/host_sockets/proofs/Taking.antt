-- acts on the connections that a listener keeps, and a connection that it gives
use Rattle.std.proofs.Common.{◌≡◌, ℕ, ◌<◌, ◌≤◌, List, length, get_or, set, Option, Some, None, slice_get, Result, Ok, Err, OnOk, refl, sym, ap, subst, ◌∙◌}
use Rattle.sim_base.specs.declared.address.Addr.{Addr}
use Rattle.sim_base.specs.declared.time.Time.{Time}
use Rattle.sim_base.specs.Refusals.{◌>>=◌, ◌>>◌, or_refuse}
use Rattle.sock_tcp.specs.declared.connection.conn.Conn.{Conn}
use Rattle.sock_tcp.specs.declared.listener.Listener.{Listener}
use Rattle.sock_tcp.specs.declared.segment.control.Control.{Control}
use Rattle.sock_tcp.specs.declared.connection.carried.Carried.{Carried}
use Rattle.sock_tcp.specs.connection.Carried.{with_gone}
use Rattle.sock_tcp.specs.connection.Tcb.{Tcb}
use Rattle.sock_tcp.specs.connection.StandsFor.{StandsFor}
use Rattle.sock_tcp.specs.listener.Listen.{Listen, Heard, accepts, hears, hears_timer}
use Rattle.sock_tcp.specs.listener.ListensFor.{ListensFor, AcceptsAs, Hears}
use Rattle.sim_base.specs.declared.packet.Packet.{Packet}
use Rattle.sock_tcp.specs.declared.connection.effects.Effects.{Effects}
use Rattle.sock_tcp.specs.connection.Arrival.{takes_packet}
use Rattle.sock_tcp.specs.connection.Process.{expires}
use Rattle.sock_tcp.specs.listener.Dropped.{dropped}
use Rattle.host_sockets.specs.Alarms.{kept_expires}
use Rattle.host_sockets.specs.Arriving.{word_drawn, hears_in, listener_hears}
use Rattle.host_wants.specs.declared.error.Refusal.{Refusal}
use Rattle.host_wants.specs.declared.error.Refusal.TheVariants as refusal
use Rattle.host_sockets.specs.declared.reply.Accepted.{Accepted}
use Rattle.host_sockets.specs.declared.sockets.Sockets.{Sockets}
use Rattle.host_sockets.specs.declared.tcp_sock.KeptTimer.{KeptTimer}
use Rattle.host_sockets.specs.declared.tcp_sock.TcpSock.{TcpSock}
use Rattle.host_sockets.specs.declared.glance.Glance.{Glance}
use Rattle.host_sockets.specs.Rises.{tcp_glance}
use Rattle.host_wants.specs.Wanted.{Wanted, sends, draws_word}
use Rattle.host_sockets.specs.TcpSocket.{TcpSocket}
use Rattle.host_sockets.specs.Sockets.{SocketsRecord, changes_at, changes_in}
use Rattle.host_sockets.specs.ListenerActs.{with_listen, with_timers, timers_kept, timer_starts, heard}
use Rattle.host_sockets.specs.Accepting.{accepts_in, accepts_of, accepts_at, given_up, placed}
use Rattle.host_sockets.specs.inside.Accepting.{TakesConn, TakesAt}
use Rattle.host_sockets.specs.StandsFor.{SocketStands, ListenerStands, AllStand, Stand, Becomes}
use Rattle.host_sockets.specs.inside.StandsFor.{Brings}
use Rattle.host_sockets.proofs.Endings.{ActEnds}
use Rattle.host_sockets.proofs.Places.{no_socket_at, socket_same, stands_set}
use Rattle.host_sockets.proofs.SocketActs.{socket_there, stand_with}

-- an act on a record that a listener keeps: what it started and left
pub brings_heard : (now : Time) (k : ℕ) (own other : Addr) (h : Heard) (gone : List Tcb) (s : TcpSocket) (w w1 v : Wanted) (timer : Option Time) (new : TcpSock) (before kept : List Carried) → w1 ≡ sends h.sent w → timer ≡ h.timer → SocketStands new (with_timers (timers_kept own other h.listen (timer_starts now k own other timer s.timers w1).0) (with_listen h.listen s)) → v ≡ (timer_starts now k own other timer s.timers w1).1 → kept ≡ with_gone gone before → Brings new v before kept (heard now k own other h gone s w)
unfolding heard
brings_heard now k own other h gone s w w1 v timer new before kept sent started stands e left =
    let same : timer_starts now k own other timer s.timers w1 ≡ timer_starts now k own other h.timer s.timers (sends h.sent w) =
    ap (λ (x : Wanted). timer_starts now k own other timer s.timers x) sent ∙ ap (λ (o : Option Time). timer_starts now k own other o s.timers (sends h.sent w)) started in
    record {
      socket = subst (λ (p : List KeptTimer × Wanted). SocketStands new (with_timers (timers_kept own other h.listen p.0) (with_listen h.listen s))) same stands;
      wanted = e ∙ ap (λ (p : List KeptTimer × Wanted). p.1) same;
      gone = left;
    }

-- a listener that took a segment, and what its socket brings about
hears_there : (now : Time) (p : Packet) (k : ℕ) (old new : TcpSock) (s : TcpSocket) (o : Option Listen) (before' after' : Listener) (w w1 v : Wanted) (effects : Effects) (before left : List Carried) → SocketStands old s → ListenerStands (Some before') o → Hears (hears p (draws_word w).0) before' after' effects → ((l : Listen) → ListensFor before' l → w1 ≡ word_drawn p l w) → ((l : Listen) → ListensFor before' l → left ≡ with_gone (dropped (takes_packet p) p.to p.from l) before) → ((s : TcpSocket) (h : Heard) (gone : List Tcb) (before left : List Carried) → SocketStands (record old { listener = Some after' }) (with_listen h.listen s) → effects.segments.items ≡ h.sent → effects.timer ≡ h.timer → left ≡ with_gone gone before → Brings new v before left (heard now k p.to p.from h gone s w1)) → Brings new v before left (hears_in now p k o s w)
hears_there now p k old new s None before' after' w w1 v effects before left h stands told drawn kept brings = absurd stands
hears_there now p k old new s (Some l) before' after' w w1 v effects before left h stands told drawn kept brings =
    let heard_is = hears p (draws_word w).0 l in
    let gone = dropped (takes_packet p) p.to p.from l in
    let tells = told l stands in
    let there : SocketStands (record old { listener = Some after' }) (with_listen heard_is.listen s) =
    record { held = h.held; bound = h.bound; conn = h.conn; listener = tells.listen; serial = h.serial; timers = h.timers } in
    subst (λ (x : Wanted). Brings new v before left (heard now k p.to p.from heard_is gone s x)) (drawn l stands)
    (brings s heard_is gone before left there tells.segments tells.timer (kept l stands))

pub hears_then : {A E : Type 0} (now : Time) (p : Packet) (k : ℕ) (old new : TcpSock) (before' after' : Listener) (w w1 v : Wanted) (effects : Effects) (before left : List Carried) (answer : Result A E) → old.listener ≡ Some before' → Hears (hears p (draws_word w).0) before' after' effects → ((l : Listen) → ListensFor before' l → w1 ≡ word_drawn p l w) → ((l : Listen) → ListensFor before' l → left ≡ with_gone (dropped (takes_packet p) p.to p.from l) before)
    → OnOk answer ((s : TcpSocket) (h : Heard) (gone : List Tcb) (before left : List Carried) → SocketStands (record old { listener = Some after' }) (with_listen h.listen s) → effects.segments.items ≡ h.sent → effects.timer ≡ h.timer → left ≡ with_gone gone before → Brings new v before left (heard now k p.to p.from h gone s w1))
    → OnOk answer ((s : TcpSocket) → SocketStands old s → Brings new v before left (listener_hears now p k s w))
hears_then now p k old new before' after' w w1 v effects before left (Err e) is told drawn kept brings = tt
hears_then now p k old new before' after' w w1 v effects before left (Ok a) is told drawn kept brings = λ s h.
    hears_there now p k old new s s.listen before' after' w w1 v effects before left h (subst (λ (o : Option Listener). ListenerStands o s.listen) is h.listener) told drawn kept brings

-- the same of a timer
expires_there : (now : Time) (k : ℕ) (timer : KeptTimer) (old new : TcpSock) (s : TcpSocket) (o : Option Listen) (before' after' : Listener) (w v : Wanted) (effects : Effects) (before left : List Carried) → SocketStands old s → ListenerStands (Some before') o → Hears (hears_timer timer.own timer.other) before' after' effects → ((l : Listen) → ListensFor before' l → left ≡ with_gone (dropped expires timer.own timer.other l) before) → ((s : TcpSocket) (h : Heard) (gone : List Tcb) (before left : List Carried) → SocketStands (record old { listener = Some after' }) (with_listen h.listen s) → effects.segments.items ≡ h.sent → effects.timer ≡ h.timer → left ≡ with_gone gone before → Brings new v before left (heard now k timer.own timer.other h gone s w)) → Brings new v before left (kept_expires now k timer o s w)
expires_there now k timer old new s None before' after' w v effects before left h stands told kept brings = absurd stands
expires_there now k timer old new s (Some l) before' after' w v effects before left h stands told kept brings =
    let heard_is = hears_timer timer.own timer.other l in
    let tells = told l stands in
    let there : SocketStands (record old { listener = Some after' }) (with_listen heard_is.listen s) =
    record { held = h.held; bound = h.bound; conn = h.conn; listener = tells.listen; serial = h.serial; timers = h.timers } in
    brings s heard_is (dropped expires timer.own timer.other l) before left there tells.segments tells.timer (kept l stands)

pub expires_then : {A E : Type 0} (now : Time) (k : ℕ) (timer : KeptTimer) (old new : TcpSock) (before' after' : Listener) (w v : Wanted) (effects : Effects) (before left : List Carried) (answer : Result A E) → old.listener ≡ Some before' → Hears (hears_timer timer.own timer.other) before' after' effects → ((l : Listen) → ListensFor before' l → left ≡ with_gone (dropped expires timer.own timer.other l) before)
    → OnOk answer ((s : TcpSocket) (h : Heard) (gone : List Tcb) (before left : List Carried) → SocketStands (record old { listener = Some after' }) (with_listen h.listen s) → effects.segments.items ≡ h.sent → effects.timer ≡ h.timer → left ≡ with_gone gone before → Brings new v before left (heard now k timer.own timer.other h gone s w))
    → OnOk answer ((s : TcpSocket) → SocketStands old s → Brings new v before left (kept_expires now k timer s.listen s w))
expires_then now k timer old new before' after' w v effects before left (Err e) is told kept brings = tt
expires_then now k timer old new before' after' w v effects before left (Ok a) is told kept brings = λ s h.
    expires_there now k timer old new s s.listen before' after' w v effects before left h (subst (λ (o : Option Listener). ListenerStands o s.listen) is h.listener) told kept brings

-- what a listener gives, and its timers without that of the connection
gives_up : (old new : TcpSock) (s : TcpSocket) (k' : Listener) (conn : Conn) (control : Control) (l : Listen) (a : Option (Tcb × Listen)) → SocketStands old s → AcceptsAs a l (Some conn) k' → ((r : Tcb) → StandsFor conn r → control ≡ r.control) → ((s : TcpSocket) (l : Listen) → SocketStands (record old { listener = Some k' }) s → s.listen ≡ Some l → SocketStands new (with_timers (timers_kept control.local control.peer l s.timers) s)) → TakesConn a s (Some conn) new
gives_up old new s k' conn control l None h given told keeps = absurd given
gives_up old new s k' conn control l (Some (r, rest)) h given told keeps =
    let left : SocketStands (record old { listener = Some k' }) (with_listen rest s) =
    record { held = h.held; bound = h.bound; conn = h.conn; listener = given.1; serial = h.serial; timers = h.timers } in
    (given.0, subst (λ (c : Control). SocketStands new (with_timers (timers_kept c.local c.peer rest s.timers) (with_listen rest s))) (told r given.0) (keeps (with_listen rest s) rest left refl))

pub takes_conn : (old new : TcpSock) (s : TcpSocket) (o : Option Listen) (k k' : Listener) (conn : Conn) (control : Control) → SocketStands old s → ListenerStands (Some k) o → ((l : Listen) → ListensFor k l → AcceptsAs (accepts l) l (Some conn) k') → ((r : Tcb) → StandsFor conn r → control ≡ r.control) → ((s : TcpSocket) (l : Listen) → SocketStands (record old { listener = Some k' }) s → s.listen ≡ Some l → SocketStands new (with_timers (timers_kept control.local control.peer l s.timers) s)) → TakesConn (accepts_in o) s (Some conn) new
takes_conn old new s None k k' conn control h stands accepted told keeps = absurd stands
takes_conn old new s (Some l) k k' conn control h stands accepted told keeps =
    gives_up old new s k' conn control l (accepts l) h (accepted l stands) told keeps

-- of the socket with a number
takes_from : (c c' : Sockets) (t : SocketsRecord) (k : ℕ) (new : TcpSock) (before : Glance) (s : TcpSocket) (a : Option (Tcb × Listen)) (conn : Conn) → Stand c t → slice_get t.tcp k ≡ Some s → TakesConn a s (Some conn) new → before ≡ tcp_glance s → ActEnds c c' k before new c.gone.items → TakesAt a k t (Some conn) c'
takes_from c c' t k new before s None conn h at takes seen ends = absurd takes
takes_from c c' t k new before s (Some (r, rest)) conn h at takes seen ends =
    (takes.0, subst (λ (o : Option TcpSocket). Stand c' (changes_in k (given_up r rest) o t)) (sym at) (stand_with c c' t k new before s (given_up r rest s) c.gone.items t.gone h takes.1 seen ends h.gone))

pub takes_at : (c c' : Sockets) (t : SocketsRecord) (k : ℕ) (old new : TcpSock) (before : Glance) (conn : Conn) → Stand c t → k < length c.tcp.items → old ≡ get_or c.tcp.items k old → ((s : TcpSocket) → SocketStands old s → TakesConn (accepts_in s.listen) s (Some conn) new) → ((s : TcpSocket) → slice_get t.tcp k ≡ Some s → before ≡ tcp_glance s) → ActEnds c c' k before new c.gone.items → TakesAt (accepts_at k t) k t (Some conn) c'
takes_at c c' t k old new before conn h b is takes seen ends =
    let found = socket_there c t k old h b is in
    subst (λ (o : Option TcpSocket). TakesAt (accepts_of o) k t (Some conn) c') (sym found.1.0)
    (takes_from c c' t k new before found.0 (accepts_in found.0.listen) conn h found.1.0 (takes found.0 found.1.1) (seen found.0 found.1.0) ends)

-- where none waits nothing changes
none_from : (c c' : Sockets) (t : SocketsRecord) (k : ℕ) (new : TcpSock) (s : TcpSocket) (a : Option (Tcb × Listen)) → Stand c t → slice_get t.tcp k ≡ Some s → TakesConn a s None new → c'.own ≡ c.own → c'.udp.slots.items ≡ c.udp.slots.items → c'.tcp.items ≡ set c.tcp.items k new → c'.udp_risen.items ≡ c.udp_risen.items → c'.tcp_risen.items ≡ c.tcp_risen.items → c'.gone.items ≡ c.gone.items → TakesAt a k t None c'
none_from c c' t k new s (Some (r, rest)) h at takes own udp tcp udp_risen tcp_risen gone = absurd takes
none_from c c' t k new s None h at takes own udp tcp udp_risen tcp_risen gone = record {
  own = own ∙ h.own;
  udp = udp ∙ h.udp;
  tcp = subst (λ (xs : List TcpSock). AllStand xs t.tcp) (sym tcp) (subst (AllStand (set c.tcp.items k new)) (socket_same t.tcp k s at) (stands_set c.tcp.items t.tcp k new s h.tcp takes));
  udp_risen = udp_risen ∙ h.udp_risen;
  tcp_risen = tcp_risen ∙ h.tcp_risen;
  gone = gone ∙ h.gone;
}

pub none_at : (c c' : Sockets) (t : SocketsRecord) (k : ℕ) (old new : TcpSock) → Stand c t → k < length c.tcp.items → old ≡ get_or c.tcp.items k old → ((s : TcpSocket) → SocketStands old s → TakesConn (accepts_in s.listen) s None new) → c'.own ≡ c.own → c'.udp.slots.items ≡ c.udp.slots.items → c'.tcp.items ≡ set c.tcp.items k new → c'.udp_risen.items ≡ c.udp_risen.items → c'.tcp_risen.items ≡ c.tcp_risen.items → c'.gone.items ≡ c.gone.items → TakesAt (accepts_at k t) k t None c'
none_at c c' t k old new h b is takes own udp tcp udp_risen tcp_risen gone =
    let found = socket_there c t k old h b is in
    subst (λ (o : Option TcpSocket). TakesAt (accepts_of o) k t None c') (sym found.1.0)
    (none_from c c' t k new found.0 (accepts_in found.0.listen) h found.1.0 (takes found.0 found.1.1) own udp tcp udp_risen tcp_risen gone)

pub takes_none : (c : Sockets) (t : SocketsRecord) (k : ℕ) → Stand c t → length c.tcp.items ≤ k → TakesAt (accepts_at k t) k t None c
takes_none c t k h b = subst (λ (o : Option TcpSocket). TakesAt (accepts_of o) k t None c) (sym (no_socket_at c.tcp.items t.tcp k h.tcp b)) h

-- the row: it is asked, given and placed
abbrev pub accept_row : ℕ → Result (Unit {0}) Refusal → Option (Tcb × Listen) → SocketsRecord → Result (Accepted × SocketsRecord) Refusal
accept_row k asked a t = do
  asked
  (r, rest) ← or_refuse a (refusal.Wait None)
  Ok (placed r (changes_at k (given_up r rest) t))

pub accepts_row : (c c' : Sockets) (t : SocketsRecord) (k : ℕ) (conn : Conn) (answer : Accepted) (asked : Result (Unit {0}) Refusal) (a : Option (Tcb × Listen)) → Ok tt ≡ asked → TakesAt a k t (Some conn) c → ((t : SocketsRecord) (r : Tcb) → Stand c t → StandsFor conn r → answer ≡ (placed r t).0) → ((t : SocketsRecord) (r : Tcb) → Stand c t → StandsFor conn r → Stand c' (placed r t).1) → Becomes (accept_row k asked a t) t c' (Ok answer)
accepts_row c c' t k conn answer asked None e takes answers stands = absurd takes
accepts_row c c' t k conn answer asked (Some (r, rest)) e takes answers stands =
    let after : SocketsRecord = changes_at k (given_up r rest) t in (
      (placed r after).1,
      (
        ap (λ (x : Result (Unit {0}) Refusal). accept_row k x (Some (r, rest)) t) (sym e) ∙ ap (λ (x : Accepted). Ok (x, (placed r after).1)) (sym (answers after r takes.1 takes.0)),
        stands after r takes.1 takes.0,
      ),
    )
