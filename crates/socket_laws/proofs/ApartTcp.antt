-- the acts on TCP sockets keep those that are bound apart
use Rattle.std.proofs.Common.{◌≡◌, ℕ, ◌==◌, List, [], ◌∷◌, Bool, true, false, if◌then◌else◌, Option, Some, None, slice_get, Ok, refl, sym, ap, subst, ◌∙◌}
use Rattle.std.specs.Prelude.{ℤ}
use Rattle.sim_base.specs.declared.address.Addr.{Addr}
use Rattle.sim_base.specs.declared.errno.Errno.TheVariants.{Ebadf, Eaddrinuse, Eaddrnotavail}
use Rattle.sim_base.specs.declared.time.Time.{Time}
use Rattle.sim_base.specs.Addresses.{any, is_taken, meets, with_port, at_free_port}
use Rattle.sim_base.specs.Refusals.{◌>>=◌, ◌>>◌, refuse_if, or_refuse}
use Rattle.sim_base.proofs.RefusalLemmas.{bind_ok, then_ok}
use Rattle.sock_udp.specs.Socket.{or_else}
use Rattle.sock_tcp.specs.connection.Begin.{begin}
use Rattle.sock_tcp.specs.connection.Process.{closes}
use Rattle.sock_tcp.specs.connection.Tcb.{Tcb, Turn}
use Rattle.sock_tcp.specs.connection.Timer.{timer_of}
use Rattle.sock_tcp.specs.listener.Listen.{Listen, Heard}
use Rattle.host_wants.specs.declared.error.Refusal.TheVariants as refusal
use Rattle.host_sockets.specs.declared.tcp_sock.KeptTimer.{KeptTimer}
use Rattle.host_wants.specs.Wanted.{Wanted, sends}
use Rattle.host_sockets.specs.TcpSocket.{TcpSocket, bound_end, record_end, ends_of, with_tcb, with_bound}
use Rattle.host_sockets.specs.Sockets.{SocketsRecord, changes_at, changes_in, tcp_place, put_tcp, bound_ends, tcp_ends}
use Rattle.host_sockets.specs.TcpActs.{Acted, unacted, is_let_go, fresh_again, let_go, starts, turned, turned_in, record_acts, acts_in, acts_at}
use Rattle.host_sockets.specs.ListenerActs.{heard}
use Rattle.host_sockets.specs.Accepting.{given_up, accepted, placed}
use Rattle.host_sockets.specs.Alarms.{kept_timer, kept_expires, timer_expires, socket_expires, alarm_comes}
use Rattle.host_sockets.specs.Binding.{bind_begun, bind_asked, end_to_use, listening, listen_begun, listen_asked}
use Rattle.host_sockets.specs.Closing.{unheld, closes_in, closed, closes_tcp}
use Rattle.udp_slots.specs.Slots.{local_in}
use Rattle.socket_laws.specs.Apart.{AreApart, tcp_end, BoundApart}
use Rattle.socket_laws.proofs.Apart.{Loses, apart_loses, loses_set, loses_put, IsFree, apart_set, first_of_ends, free_among, free_port_is_taken}

-- the host has its address, and what is bound afterwards was bound so before
pub record Kept (t t' : SocketsRecord) : Type 0 where
  pub own : t'.own ≡ t.own
  pub tcp : Loses tcp_end t.tcp t'.tcp
  pub udp : Loses local_in t.udp t'.udp

pub kept_all : (t : SocketsRecord) → Kept t t
kept_all t = record { own = refl; tcp = λ k a e. e; udp = λ k a e. e }

pub kept_twice : (t u v : SocketsRecord) → Kept t u → Kept u v → Kept t v
kept_twice t u v h k = record { own = k.own ∙ h.own; tcp = λ n a e. h.tcp n a (k.tcp n a e); udp = λ n a e. h.udp n a (k.udp n a e) }

pub apart_kept : (t t' : SocketsRecord) → BoundApart t → Kept t t' → BoundApart t'
apart_kept t t' h k = record { tcp = apart_loses tcp_end t.tcp t'.tcp h.tcp k.tcp; udp = apart_loses local_in t.udp t'.udp h.udp k.udp }

abbrev pub AsBefore : TcpSocket → TcpSocket → Type 0
AsBefore s s' = (a : Addr) → s'.bound ≡ Some a → s.bound ≡ Some a

-- an act at a place
acts_there : (k : ℕ) (act : TcpSocket → Wanted → Acted) → ((s : TcpSocket) (w : Wanted) → AsBefore s (act s w).socket) → (o : Option TcpSocket) (t : SocketsRecord) (w : Wanted) → slice_get t.tcp k ≡ o → Kept t (acts_in k act o t w).0
acts_there k act keeps None t w at = kept_all t
acts_there k act keeps (Some s) t w at = record { own = refl; tcp = loses_set tcp_end t.tcp k s (act s w).socket at (keeps s w); udp = λ j a e. e }

pub acts_kept : (k : ℕ) (act : TcpSocket → Wanted → Acted) → ((s : TcpSocket) (w : Wanted) → AsBefore s (act s w).socket) → (t : SocketsRecord) (w : Wanted) → Kept t (acts_at k act t w).0
acts_kept k act keeps t w = acts_there k act keeps (slice_get t.tcp k) t w refl

changes_there : (k : ℕ) (f : TcpSocket → TcpSocket) → ((s : TcpSocket) → AsBefore s (f s)) → (o : Option TcpSocket) (t : SocketsRecord) → slice_get t.tcp k ≡ o → Kept t (changes_in k f o t)
changes_there k f keeps None t at = kept_all t
changes_there k f keeps (Some s) t at = record { own = refl; tcp = loses_set tcp_end t.tcp k s (f s) at (keeps s); udp = λ j a e. e }

pub changes_kept : (k : ℕ) (f : TcpSocket → TcpSocket) → ((s : TcpSocket) → AsBefore s (f s)) → (t : SocketsRecord) → Kept t (changes_at k f t)
changes_kept k f keeps t = changes_there k f keeps (slice_get t.tcp k) t refl

pub put_kept : (s : TcpSocket) (t : SocketsRecord) → s.bound ≡ None → Kept t (put_tcp s t)
put_kept s t none = record { own = refl; tcp = loses_put tcp_end t.tcp (tcp_place t) s none; udp = λ j a e. e }

-- what acts do to a socket
starts_as : (now : Time) (k : ℕ) (timer : Option Time) (s : TcpSocket) (w : Wanted) → AsBefore s (starts now k timer s w).0
starts_as now k None s w = λ a e. e
starts_as now k (Some length) s w = λ a e. e

let_go_by : (b : Bool) (r : Tcb) (s : TcpSocket) (w : Wanted) → AsBefore s (let after : Acted = if b then record { socket = fresh_again s; wanted = w; gone = r ∷ [] } else unacted s w in after.socket)
let_go_by true r s w = λ a e. e
let_go_by false r s w = λ a e. e

let_go_as : (r : Tcb) (s : TcpSocket) (w : Wanted) → AsBefore s (let_go r s w).socket
let_go_as r s w = let_go_by (is_let_go r s) r s w

turned_as : (now : Time) (k : ℕ) (t : Turn) (s : TcpSocket) (w : Wanted) → AsBefore s (turned now k t s w).socket
unfolding turned
turned_as now k t s w = λ a e.
    let started = starts now k (timer_of t) (with_tcb t.tcb s) (sends t.sent w) in
    starts_as now k (timer_of t) (with_tcb t.tcb s) (sends t.sent w) a (let_go_as t.tcb started.0 started.1 a e)

turned_in_as : (now : Time) (k : ℕ) (act : Tcb → Turn) (o : Option Tcb) (s : TcpSocket) (w : Wanted) → AsBefore s (turned_in now k act o s w).socket
turned_in_as now k act None s w = λ a e. e
turned_in_as now k act (Some r) s w = turned_as now k (act r) s w

pub record_as : (now : Time) (k : ℕ) (act : Tcb → Turn) (s : TcpSocket) (w : Wanted) → AsBefore s (record_acts now k act s w).socket
record_as now k act s w = turned_in_as now k act s.tcb s w

pub turned_anew : (now : Time) (k : ℕ) (t : Turn) (s : TcpSocket) (w : Wanted) → AsBefore s (turned now k t s w).socket
turned_anew now k t s w = turned_as now k t s w

pub heard_as : (now : Time) (k : ℕ) (own other : Addr) (h : Heard) (gone : List Tcb) (s : TcpSocket) (w : Wanted) → AsBefore s (heard now k own other h gone s w).socket
unfolding heard
heard_as now k own other h gone s w = λ a e. e

-- close(2)
closes_in_as : (now : Time) (k : ℕ) (o : Option Listen) (s : TcpSocket) (w : Wanted) → AsBefore s (closes_in now k o s w).socket
closes_in_as now k None s w = λ a e. let none = record_as now k (λ r. closes (begin r)) (unheld s) w a e in cc
closes_in_as now k (Some l) s w = λ a e. cc

pub closes_kept : (now : Time) (k : ℕ) (t : SocketsRecord) (w : Wanted) → Kept t (closes_tcp now k t w).0
unfolding closes_tcp
closes_kept now k t w = acts_kept k (closed now k) (λ s v. closes_in_as now k s.listen s v) t w

-- an alarm
kept_expires_as : (now : Time) (k : ℕ) (timer : KeptTimer) (o : Option Listen) (s : TcpSocket) (w : Wanted) → AsBefore s (kept_expires now k timer o s w).socket
kept_expires_as now k timer None s w = λ a e. e
kept_expires_as now k timer (Some l) s w = heard_as now k timer.own timer.other _ _ s w

timer_expires_as : (now : Time) (k : ℕ) (o : Option KeptTimer) (s : TcpSocket) (w : Wanted) → AsBefore s (timer_expires now k o s w).socket
timer_expires_as now k None s w = λ a e. e
timer_expires_as now k (Some timer) s w = kept_expires_as now k timer s.listen s w

either_as : (b : Bool) (s : TcpSocket) (x y : Acted) → AsBefore s x.socket → AsBefore s y.socket → AsBefore s (let after : Acted = if b then x else y in after.socket)
either_as true s x y hx hy = hx
either_as false s x y hx hy = hy

pub alarm_kept : (now : Time) (k serial : ℕ) (t : SocketsRecord) (w : Wanted) → Kept t (alarm_comes now k serial t w).0
unfolding alarm_comes
alarm_kept now k serial t w =
    acts_kept k (socket_expires now k serial)
    (λ s v. either_as (s.serial == serial) s _ _ (record_as now k _ s v) (timer_expires_as now k (kept_timer serial s.timers) s v)) t w

-- accept(2)
accepts_tcp_kept : (r : Tcb) (rest : Listen) (k : ℕ) (t : SocketsRecord) → Kept t (placed r (changes_at k (given_up r rest) t)).1
accepts_tcp_kept r rest k t =
    kept_twice t (changes_at k (given_up r rest) t) _ (changes_kept k (given_up r rest) (λ s a e. e) t) (put_kept (accepted r) (changes_at k (given_up r rest) t) refl)

-- bind(2)
not_refused : {E : Type 0} (test : Bool) (x : E) (at end : Addr) → (refuse_if test x >> Ok at) ≡ Ok end → (test ≡ false) × (at ≡ end)
not_refused true x at end e = cc
not_refused false x at end e = (refl, cc)

asked_free : (k : ℕ) (at end : Addr) (t : SocketsRecord) → bind_asked k at t ≡ Ok end → is_taken (bound_ends t) end ≡ false
asked_free k at end t e =
    let found = bind_ok (or_refuse (with_port (tcp_ends t) at) (refusal.Errno Eaddrnotavail)) (λ (x : Addr). refuse_if (is_taken (bound_ends t) x) (refusal.Errno Eaddrinuse) >> Ok x) end (then_ok (bind_begun k at t) _ end e) in
    let free = not_refused (is_taken (bound_ends t) found.0) (refusal.Errno Eaddrinuse) found.0 end found.1.1 in
    ap (is_taken (bound_ends t)) (sym free.1) ∙ free.0

set_apart : (t : SocketsRecord) (k : ℕ) (new : TcpSocket) (at : Addr) → BoundApart t → IsFree tcp_end t.tcp k at → new.bound ≡ Some at → AreApart tcp_end (let after : SocketsRecord = changes_in k (λ s. new) (Some new) t in after.tcp)
set_apart t k new at h free is = apart_set tcp_end t.tcp k new at h.tcp free is

bound_free : (t : SocketsRecord) (k : ℕ) (at : Addr) → is_taken (bound_ends t) at ≡ false → IsFree tcp_end t.tcp k at
bound_free t k at e =
    free_among tcp_end (λ (s : TcpSocket). bound_end s.bound) at
    (λ s none b is. bound_alone s.bound at none b is) t.tcp k e
  where
    bound_alone : (o : Option Addr) (at : Addr) → is_taken (bound_end o) at ≡ false → (b : Addr) → o ≡ Some b → meets at b ≡ false
    bound_alone None at e b is = cc
    bound_alone (Some a) at e b is = first_of_ends (Some a) [] at e b is

all_free : (t : SocketsRecord) (k : ℕ) (at : Addr) → is_taken (tcp_ends t) at ≡ false → IsFree tcp_end t.tcp k at
all_free t k at e =
    free_among tcp_end ends_of at (λ s none b is. first_of_ends s.bound (record_end s.tcb) at none b is) t.tcp k e

binds_there : (k : ℕ) (at : Addr) (o : Option TcpSocket) (t : SocketsRecord) → slice_get t.tcp k ≡ o → BoundApart t → is_taken (bound_ends t) at ≡ false → BoundApart (changes_in k (with_bound at) o t)
binds_there k at None t there h e = h
binds_there k at (Some s) t there h e = record { tcp = apart_set tcp_end t.tcp k (with_bound at s) at h.tcp (bound_free t k at e) refl; udp = h.udp }

-- listen(2)
uses : (t : SocketsRecord) (k : ℕ) (s : TcpSocket) (o : Option Addr) (at : Addr) (new : TcpSocket) → slice_get t.tcp k ≡ Some s → s.bound ≡ o → or_refuse (or_else o (at_free_port (tcp_ends t) any)) (refusal.Errno Eaddrnotavail) ≡ Ok at → new.bound ≡ Some at → BoundApart t → AreApart tcp_end (let after : SocketsRecord = changes_in k (λ s. new) (Some s) t in after.tcp)
uses t k s (Some b) at new there is e bound h =
    let same : b ≡ at = cc in
    apart_loses tcp_end t.tcp _ h.tcp (loses_set tcp_end t.tcp k s new there (λ a f. let here : s.bound ≡ Some at = is ∙ ap (λ (x : Addr). Some x) same in here ∙ (sym bound ∙ f)))
uses t k s None at new there is e bound h =
    apart_set tcp_end t.tcp k new at h.tcp (all_free t k at (free_port_is_taken (tcp_ends t) at (found (at_free_port (tcp_ends t) any) e))) bound
  where
    found : (o : Option Addr) → or_refuse o (refusal.Errno Eaddrnotavail) ≡ Ok at → o ≡ Some at
    found None e = cc
    found (Some x) e = cc

listens_there : (k : ℕ) (at : Addr) (count : ℤ) (o : Option TcpSocket) (t : SocketsRecord) → slice_get t.tcp k ≡ o → BoundApart t → ((s : TcpSocket) → o ≡ Some s → end_to_use t s ≡ Ok at) → BoundApart (changes_in k (listening at count) o t)
listens_there k at count None t there h e = h
listens_there k at count (Some s) t there h e = record { tcp = uses t k s s.bound at (listening at count s) there refl (e s refl) refl h; udp = h.udp }

used_there : (t : SocketsRecord) (at : Addr) (o : Option TcpSocket) → (or_refuse o (refusal.Errno Ebadf) >>= end_to_use t) ≡ Ok at → (s : TcpSocket) → o ≡ Some s → end_to_use t s ≡ Ok at
used_there t at None e s is = cc
used_there t at (Some x) e s is = let same : x ≡ s = cc in subst (λ (y : TcpSocket). end_to_use t y ≡ Ok at) same e

pub bound_after : (k : ℕ) (at : Addr) (end : Addr) (t : SocketsRecord) → BoundApart t → bind_asked k at t ≡ Ok end → BoundApart (changes_at k (with_bound end) t)
bound_after k at end t h e = binds_there k end (slice_get t.tcp k) t refl h (asked_free k at end t e)

pub listening_after : (k : ℕ) (at : Addr) (count : ℤ) (t : SocketsRecord) → BoundApart t → listen_asked k t ≡ Ok at → BoundApart (changes_at k (listening at count) t)
listening_after k at count t h e =
    listens_there k at count (slice_get t.tcp k) t refl h (used_there t at (slice_get t.tcp k) (then_ok (listen_begun k t) _ at e))

pub accepted_after : (r : Tcb) (rest : Listen) (k : ℕ) (t : SocketsRecord) → Kept t (placed r (changes_at k (given_up r rest) t)).1
accepted_after r rest k t = accepts_tcp_kept r rest k t
