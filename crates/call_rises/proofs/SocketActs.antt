-- which sockets are there after each act
use Rattle.std.proofs.Common.{◌≡◌, ℕ, ◌==◌, Bool, true, false, List, length, Option, Some, None, slice_get, if◌then◌else◌, ◌++◌, Result, Ok, Err, refl, sym, ap, subst, ◌∙◌}
use Rattle.std.specs.List.{position}
use Rattle.sim_base.specs.declared.address.Ip.{Ip}
use Rattle.sim_base.specs.declared.address.Addr.{Addr}
use Rattle.sim_base.specs.declared.packet.Load.{Load}
use Rattle.sim_base.specs.declared.packet.Load.TheVariants.{Udp, Tcp}
use Rattle.sim_base.specs.declared.packet.Packet.{Packet}
use Rattle.sim_base.specs.declared.time.Time.{Time}
use Rattle.sim_base.specs.Refusals.{◌>>=◌, ◌>>◌, or_refuse}
use Rattle.sock_udp.specs.Socket.{UdpState, new_socket, arrive, bind, connect, send}
use Rattle.sock_tcp.specs.connection.Begin.{begin}
use Rattle.sock_tcp.specs.connection.Process.{shuts}
use Rattle.sock_tcp.specs.connection.Tcb.{Tcb, Turn}
use Rattle.sock_tcp.specs.connection.Timer.{timer_of}
use Rattle.sock_tcp.specs.listener.Listen.{Listen}
use Rattle.host_wants.specs.declared.error.Refusal.{Refusal}
use Rattle.host_wants.specs.declared.error.Refusal.TheVariants as refusal
use Rattle.host_wants.specs.Refusals.{by_errno}
use Rattle.host_wants.specs.Wanted.{Wanted, sends, draws_word}
use Rattle.host_sockets.specs.declared.reply.Accepted.{Accepted}
use Rattle.host_sockets.specs.declared.tcp_sock.KeptTimer.{KeptTimer}
use Rattle.host_sockets.specs.TcpSocket.{TcpSocket, fresh, with_bound, with_tcb, has_record}
use Rattle.host_sockets.specs.Sockets.{SocketsRecord, tcb_at, changes_at, changes_in, tcp_place, new_tcp}
use Rattle.host_sockets.specs.TcpActs.{Acted, is_let_go, let_go, starts, turned, turned_in, record_acts, acts_in, acts_at}
use Rattle.host_sockets.specs.ListenerActs.{heard}
use Rattle.udp_slots.specs.Slots.{only_state, oldest_datagram}
use Rattle.host_sockets.specs.Udp.{udp_in, udp_around, with_udp, acted_udp, udp_acts, closes_udp, binds_udp, connects_udp, sends_udp, receives_udp, new_udp}
use Rattle.host_sockets.specs.Binding.{bind_asked, binds_tcp, listen_asked, listening, listens_tcp}
use Rattle.host_sockets.specs.Accepting.{accept_asked, accepts_at, accepted, given_up, placed, accepts_tcp}
use Rattle.host_sockets.specs.Connecting.{connect_asked, opens, connects, connects_taking, taking, error_takes, connect_waited, connect_answers, without_change}
use Rattle.host_sockets.specs.Moving.{send_asked, count_taken, takes_written, sends_taking, recv_asked, bytes_given, gives_read, receives_taking, may_shut, shuts_tcp}
use Rattle.host_sockets.specs.Names.{error_asked, takes_error}
use Rattle.host_sockets.specs.Closing.{unheld, closes_in, closed, closes_tcp}
use Rattle.host_sockets.specs.Arriving.{takes_in, datagram_in, datagram_at, datagram_arrives, record_takes, hears_in, listener_hears, hearer, heard_at, segment_at, segment_arrives, arrives_by}
use Rattle.host_sockets.specs.Alarms.{kept_timer, kept_expires, timer_expires, socket_expires, alarm_comes}
use Rattle.socket_laws.specs.Histories.{SocketsAct, left_by, sockets_acted, make_udp, bind_udp, connect_udp, send_udp, recv_udp, close_udp, make_tcp, bind_tcp, listen_tcp, accept_tcp, connect_tcp, connect_again, send_tcp, recv_tcp, shut_tcp, take_error, close_tcp, arrival, alarm, elsewhere}
use Rattle.socket_laws.proofs.LivePairs.{left_asked, left_after, left_told, taken_row, after_ok, change_ok}
use Rattle.call_rises.specs.Sockets.{has_udp, is_held, has_tcp}
use Rattle.call_rises.proofs.There.{SameThere, same_there, same_tcp, same_udp, OneGone, gone_tcp, gone_udp, OneMade, made_tcp, made_udp}

-- ---- an act on a TCP socket leaves it held or not

abbrev KeepsHeld : (TcpSocket → Wanted → Acted) → Type 0
KeepsHeld act = (s : TcpSocket) (w : Wanted) → s.held ≡ (act s w).socket.held

abbrev acted_if : Bool → Acted → Acted → Acted
acted_if b x y = if b then x else y

either_held : (b : Bool) (x y : Acted) (held : Bool) → held ≡ x.socket.held → held ≡ y.socket.held → held ≡ (acted_if b x y).socket.held
either_held true x y held e k = e
either_held false x y held e k = k

let_go_held : (r : Tcb) → KeepsHeld (let_go r)
let_go_held r s w = either_held (is_let_go r s) _ _ s.held refl refl

starts_held : (now : Time) (k : ℕ) (length : Option Time) (s : TcpSocket) (w : Wanted) → s.held ≡ (starts now k length s w).0.held
starts_held now k None s w = refl
starts_held now k (Some length) s w = refl

turned_held : (now : Time) (k : ℕ) (t : Turn) → KeepsHeld (turned now k t)
unfolding turned
turned_held now k t s w =
    let started = starts now k (timer_of t) (with_tcb t.tcb s) (sends t.sent w) in
    starts_held now k (timer_of t) (with_tcb t.tcb s) (sends t.sent w) ∙ let_go_held t.tcb started.0 started.1

turned_in_held : (now : Time) (k : ℕ) (act : Tcb → Turn) (o : Option Tcb) → KeepsHeld (turned_in now k act o)
turned_in_held now k act None s w = refl
turned_in_held now k act (Some r) s w = turned_held now k (act r) s w

record_held : (now : Time) (k : ℕ) (act : Tcb → Turn) → KeepsHeld (record_acts now k act)
record_held now k act s w = turned_in_held now k act s.tcb s w

hears_held : (now : Time) (p : Packet) (k : ℕ) (o : Option Listen) → KeepsHeld (hears_in now p k o)
unfolding heard
hears_held now p k None s w = refl
hears_held now p k (Some l) s w = refl

kept_held : (now : Time) (k : ℕ) (timer : KeptTimer) (o : Option Listen) → KeepsHeld (kept_expires now k timer o)
unfolding heard
kept_held now k timer None s w = refl
kept_held now k timer (Some l) s w = refl

timer_held : (now : Time) (k : ℕ) (o : Option KeptTimer) → KeepsHeld (timer_expires now k o)
timer_held now k None s w = refl
timer_held now k (Some timer) s w = kept_held now k timer s.listen s w

expires_held : (now : Time) (k serial : ℕ) → KeepsHeld (socket_expires now k serial)
expires_held now k serial s w =
    either_held (s.serial == serial) _ _ s.held (record_held now k _ s w) (timer_held now k (kept_timer serial s.timers) s w)

-- close(2) leaves it held no more
closes_held : (now : Time) (k : ℕ) (o : Option Listen) (s : TcpSocket) (w : Wanted) → (closes_in now k o s w).socket.held ≡ false
closes_held now k None s w = sym (record_held now k _ (unheld s) w)
closes_held now k (Some l) s w = refl

-- ---- acts that make and close none

abbrev pub Stays : SocketsAct → Type 0
Stays make_udp = ⊥
Stays make_tcp = ⊥
Stays (accept_tcp k) = ⊥
Stays (close_udp k) = ⊥
Stays (close_tcp k) = ⊥
Stays _ = Unit {0}

module _ (t : SocketsRecord) where
  abbrev P : SocketsRecord → Type 0
  P u = SameThere t u

  acts_go_in : (k : ℕ) (act : TcpSocket → Wanted → Acted) (o : Option TcpSocket) (w : Wanted) → slice_get t.tcp k ≡ o → KeepsHeld act → P (acts_in k act o t w).0
  acts_go_in k act None w at keeps = same_there t
  acts_go_in k act (Some s) w at keeps = same_tcp k s (act s w).socket (t.gone ++ (act s w).gone) t at (keeps s w)

  acts_go : (k : ℕ) (act : TcpSocket → Wanted → Acted) (w : Wanted) → KeepsHeld act → P (acts_at k act t w).0
  acts_go k act w keeps = acts_go_in k act (slice_get t.tcp k) w refl keeps

  records_go : (now : Time) (k : ℕ) (act : Tcb → Turn) (w : Wanted) → P (acts_at k (record_acts now k act) t w).0
  records_go now k act w = acts_go k (record_acts now k act) w (record_held now k act)

  errors_go : (now : Time) (k : ℕ) (w : Wanted) → P (acts_at k (error_takes now k) t w).0
  errors_go now k w = acts_go k (error_takes now k) w (λ s v. record_held now k _ s v)

  changes_go_in : (k : ℕ) (f : TcpSocket → TcpSocket) (o : Option TcpSocket) → slice_get t.tcp k ≡ o → ((s : TcpSocket) → s.held ≡ (f s).held) → P (changes_in k f o t)
  changes_go_in k f None at keeps = same_there t
  changes_go_in k f (Some s) at keeps = same_tcp k s (f s) t.gone t at (keeps s)

  changes_go : (k : ℕ) (f : TcpSocket → TcpSocket) → ((s : TcpSocket) → s.held ≡ (f s).held) → P (changes_at k f t)
  changes_go k f keeps = changes_go_in k f (slice_get t.tcp k) refl keeps

  -- calls on UDP sockets
  slot_goes : {A : Type 0} (k : ℕ) (act : UdpState → Result (A × UdpState) Refusal) (o : Option UdpState) → udp_in k t ≡ o → P (left_by (acted_udp act k o t) t)
  slot_goes k act None at = same_there t
  slot_goes {A} k act (Some u) at = by_answer (act u)
    where
      by_answer : (answer : Result (A × UdpState) Refusal) → P (left_by (answer >>= λ (a, after). Ok (a, with_udp k u after t)) t)
      by_answer (Ok (a, after)) = same_udp k u after t at
      by_answer (Err why) = same_there t

  udp_goes : {A : Type 0} (k : ℕ) (act : UdpState → Result (A × UdpState) Refusal) → P (left_by (udp_acts act k t) t)
  udp_goes k act = slot_goes k act (udp_in k t) refl

  -- rows that ask first
  taken_goes : {A : Type 0} (now : Time) (k : ℕ) (asked : Result (Unit {0}) Refusal) (a : A) (act : TcpSocket → Wanted → Acted) (w : Wanted) → KeepsHeld act → P (left_by (taking now k (asked >> Ok (a, acts_at k act t w)) t w) (t, w)).0
  taken_goes now k asked a act w keeps =
      taken_row (λ (x : SocketsRecord × Wanted). P x.0) now k (asked >> Ok (a, acts_at k act t w)) t w
      (λ b left e. subst (λ (x : SocketsRecord × Wanted). P x.0) (after_ok asked a b (acts_at k act t w) left e) (acts_go k act w keeps))
      (errors_go now k w) (same_there t)

  opened_ok : (asked : Result Addr Refusal) (f : Addr → SocketsRecord × Wanted) (b : Unit {0}) (left : SocketsRecord × Wanted) → ((at : Addr) → P (f at).0) → ◌>>=◌ {B = Unit {0} × (SocketsRecord × Wanted)} asked (λ at. Ok (tt, f at)) ≡ Ok (b, left) → P left.0
  opened_ok (Err why) f b left goes e = cc
  opened_ok (Ok at) f b left goes e =
      let same : (tt, f at) ≡ (b, left) = cc in
      subst (λ (x : SocketsRecord × Wanted). P x.0) (ap (λ (y : Unit {0} × (SocketsRecord × Wanted)). y.1) same) (goes at)

  connects_go : (hosts : List Ip) (now : Time) (k : ℕ) (to : Addr) (w : Wanted) → P (left_by (connects_taking hosts now k to t w) (t, w)).0
  unfolding connects_taking connects
  connects_go hosts now k to w =
      taken_row (λ (x : SocketsRecord × Wanted). P x.0) now k (connects hosts now k to t w) t w
      (λ b left e.
      opened_ok (connect_asked hosts k to t) (λ own. acts_at k (opens now k own to) t w) b left
      (λ own. acts_go k (opens now k own to) w (λ s v. turned_held now k _ s (draws_word v).1)) e)
      (errors_go now k w) (same_there t)

  again_goes : (now : Time) (k : ℕ) (w : Wanted) → P (left_by (connect_answers now k t w) (t, w)).0
  unfolding connect_answers
  again_goes now k w =
      taken_row (λ (x : SocketsRecord × Wanted). P x.0) now k (without_change t w (connect_waited k t)) t w
      (λ b left e. subst (λ (x : SocketsRecord × Wanted). P x.0) (change_ok t w (connect_waited k t) b left e) (same_there t))
      (errors_go now k w) (same_there t)

  -- what arrives
  heard_goes : (now : Time) (p : Packet) (o : Option ℕ) (w : Wanted) → P (heard_at now p o t w).1.0
  heard_goes now p None w = same_there t
  heard_goes now p (Some k) w = acts_go k (listener_hears now p k) w (λ s v. hears_held now p k s.listen s v)

  segment_goes_at : (now : Time) (p : Packet) (o : Option ℕ) (w : Wanted) → P (segment_at now p o t w).1.0
  segment_goes_at now p None w = heard_goes now p (hearer p t) w
  segment_goes_at now p (Some k) w = acts_go k (record_takes now p k) w (λ s v. record_held now k _ s v)

  segment_goes : (now : Time) (p : Packet) (w : Wanted) → P (segment_arrives now p t w).1.0
  unfolding segment_arrives
  segment_goes now p w = segment_goes_at now p (position (has_record p.to p.from) t.tcp) w

  datagram_goes_in : (from : Addr) (bytes : List ℕ) (k : ℕ) (o : Option UdpState) → udp_in k t ≡ o → P (datagram_in from bytes k o t).1
  datagram_goes_in from bytes k None at = same_there t
  datagram_goes_in from bytes k (Some u) at = same_udp k u (arrive from bytes u).1 t at

  datagram_goes_at : (from : Addr) (bytes : List ℕ) (o : Option ℕ) → P (datagram_at from bytes o t).1
  datagram_goes_at from bytes None = same_there t
  datagram_goes_at from bytes (Some k) = datagram_goes_in from bytes k (udp_in k t) refl

  datagram_goes : (from to : Addr) (bytes : List ℕ) → P (datagram_arrives from to bytes t).1
  unfolding datagram_arrives
  datagram_goes from to bytes = datagram_goes_at from bytes (position (takes_in from to) t.udp)

  arrival_goes : (load : Load) (now : Time) (p : Packet) (w : Wanted) → P (arrives_by load now p t w).1.0
  arrival_goes (Udp bytes) now p w = datagram_goes p.from p.to bytes
  arrival_goes (Tcp flags seq ack window text) now p w = segment_goes now p w

  alarm_goes : (now : Time) (k serial : ℕ) (w : Wanted) → P (alarm_comes now k serial t w).0
  unfolding alarm_comes
  alarm_goes now k serial w =
      acts_go k (socket_expires now k serial) w (expires_held now k serial)

  pub stays_there : (hosts : List Ip) (now : Time) (act : SocketsAct) (w : Wanted) → Stays act → P (sockets_acted hosts now act t w).0
  unfolding binds_udp connects_udp sends_udp receives_udp binds_tcp listens_tcp sends_taking receives_taking shuts_tcp takes_error
  stays_there hosts now make_udp w none = absurd none
  stays_there hosts now (bind_udp k at) w none = udp_goes k (λ u. only_state (by_errno (bind (udp_around hosts t) at u)))
  stays_there hosts now (connect_udp k to) w none = udp_goes k (λ u. only_state (by_errno (connect (udp_around hosts t) to u)))
  stays_there hosts now (send_udp k bytes to) w none = udp_goes k (λ u. by_errno (send (udp_around hosts t) bytes to u))
  stays_there hosts now (recv_udp k count) w none = udp_goes k (λ u. oldest_datagram u u.waiting count)
  stays_there hosts now (close_udp k) w none = absurd none
  stays_there hosts now make_tcp w none = absurd none
  stays_there hosts now (bind_tcp k at) w none =
      left_asked P (bind_asked k at t) (λ end. (tt, changes_at k (with_bound end) t)) t (λ end e. changes_go k (with_bound end) (λ s. refl)) (same_there t)
  stays_there hosts now (listen_tcp k count) w none =
      left_asked P (listen_asked k t) (λ at. (tt, changes_at k (listening at count) t)) t (λ at e. changes_go k (listening at count) (λ s. refl)) (same_there t)
  stays_there hosts now (accept_tcp k) w none = absurd none
  stays_there hosts now (connect_tcp k to) w none = connects_go hosts now k to w
  stays_there hosts now (connect_again k) w none = again_goes now k w
  stays_there hosts now (send_tcp k bytes to quiet) w none =
      taken_goes now k (send_asked hosts k (length bytes) to quiet t) (count_taken bytes (tcb_at k t)) (takes_written now k bytes) w (λ s v. record_held now k _ s v)
  stays_there hosts now (recv_tcp k count) w none =
      taken_goes now k (recv_asked k t) (bytes_given count (tcb_at k t)) (gives_read now k count) w (λ s v. record_held now k _ s v)
  stays_there hosts now (shut_tcp k how) w none =
      left_after (λ (x : SocketsRecord × Wanted). P x.0) (may_shut k t) tt (acts_at k (record_acts now k (λ r. shuts how (begin r))) t w) (t, w)
      (records_go now k (λ r. shuts how (begin r)) w) (same_there t)
  stays_there hosts now (take_error k) w none =
      left_told (λ (x : SocketsRecord × Wanted). P x.0) (error_asked k t) (λ error. error) (acts_at k (error_takes now k) t w) (t, w)
      (errors_go now k w) (same_there t)
  stays_there hosts now (close_tcp k) w none = absurd none
  stays_there hosts now (arrival p) w none = arrival_goes p.load now p w
  stays_there hosts now (alarm k serial) w none = alarm_goes now k serial w
  stays_there hosts now (elsewhere after) w none = same_there t

  -- ---- one is closed
  closed_in : (now : Time) (k : ℕ) (o : Option TcpSocket) (w : Wanted) → slice_get t.tcp k ≡ o → OneGone k has_tcp has_udp t (acts_in k (closed now k) o t w).0
  closed_in now k None w at = record { gone = ap is_held at; apart = λ j apart. refl; same = λ j. refl }
  closed_in now k (Some s) w at =
      gone_tcp k s (closed now k s w).socket (t.gone ++ (closed now k s w).gone) t (closes_held now k s.listen s w)

  pub closes_tcp_there : (now : Time) (k : ℕ) (w : Wanted) → OneGone k has_tcp has_udp t (closes_tcp now k t w).0
  unfolding closes_tcp
  closes_tcp_there now k w = closed_in now k (slice_get t.tcp k) w refl

  pub closes_udp_there : (k : ℕ) → OneGone k has_udp has_tcp t (closes_udp k t)
  closes_udp_there k = gone_udp k t

  -- ---- one is made
  pub new_tcp_there : OneMade (new_tcp t).0 has_tcp has_udp t (new_tcp t).1
  new_tcp_there = made_tcp (fresh true) t refl

  pub new_udp_there : OneMade (new_udp t).0 has_udp has_tcp t (new_udp t).1
  unfolding new_udp
  new_udp_there = made_udp new_socket t

  -- accept(2): its listener stays as it is
  pub accepted_there : (k : ℕ) (r : Tcb) (rest : Listen) → OneMade (tcp_place (changes_at k (given_up r rest) t)) has_tcp has_udp t (placed r (changes_at k (given_up r rest) t)).1
  accepted_there k r rest =
      let same = changes_go k (given_up r rest) (λ s. refl) in
      let v = changes_at k (given_up r rest) t in
      let made = made_tcp (accepted r) v refl in
      record {
        is_new = same.tcp (tcp_place v) ∙ made.is_new;
        is_here = made.is_here;
        apart = λ j apart. same.tcp j ∙ made.apart j apart;
        same = λ j. same.udp j ∙ made.same j;
      }

-- what accept(2) answers
abbrev pub accept_row : ℕ → Result (Unit {0}) Refusal → Option (Tcb × Listen) → SocketsRecord → Result (Accepted × SocketsRecord) Refusal
accept_row k asked a t = do
  asked
  (r, rest) ← or_refuse a (refusal.Wait None)
  Ok (placed r (changes_at k (given_up r rest) t))

abbrev MadeBy : SocketsRecord → Accepted × SocketsRecord → Type 0
MadeBy t b = OneMade b.0.socket has_tcp has_udp t b.1

answered_there : (k : ℕ) (asked : Result (Unit {0}) Refusal) (a : Option (Tcb × Listen)) (t : SocketsRecord) (b : Accepted × SocketsRecord) → accept_row k asked a t ≡ Ok b → MadeBy t b
answered_there k (Err why) a t b e = let no : ⊥ = cc in absurd no
answered_there k (Ok u) None t b e = let no : ⊥ = cc in absurd no
answered_there k (Ok u) (Some (r, rest)) t b e =
    let same : placed r (changes_at k (given_up r rest) t) ≡ b = cc in subst (MadeBy t) same (accepted_there t k r rest)

pub accepts_there : (k : ℕ) (t : SocketsRecord) (b : Accepted × SocketsRecord) → accepts_tcp k t ≡ Ok b → OneMade b.0.socket has_tcp has_udp t b.1
unfolding accepts_tcp
accepts_there k t b e = answered_there k (accept_asked k t) (accepts_at k t) t b e
