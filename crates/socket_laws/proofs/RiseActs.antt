-- whatever happens at a host but that a socket is made, it leaves the sockets as they are, or one put back, or one closed
use Rattle.std.proofs.Common.{◌≡◌, ℕ, List, length, Option, Some, None, slice_get, Result, Ok, Err, refl, ap, subst}
use Rattle.std.specs.List.{position}
use Rattle.sim_base.specs.declared.address.Ip.{Ip}
use Rattle.sim_base.specs.declared.address.Addr.{Addr}
use Rattle.sim_base.specs.declared.packet.Load.{Load}
use Rattle.sim_base.specs.declared.packet.Load.TheVariants.{Udp, Tcp}
use Rattle.sim_base.specs.declared.packet.Packet.{Packet}
use Rattle.sim_base.specs.declared.time.Time.{Time}
use Rattle.sim_base.specs.Refusals.{◌>>=◌, ◌>>◌}
use Rattle.sock_udp.specs.Socket.{UdpState, arrive, bind, connect, send}
use Rattle.sock_tcp.specs.connection.Begin.{begin}
use Rattle.sock_tcp.specs.connection.Process.{shuts}
use Rattle.sock_tcp.specs.connection.Tcb.{Tcb}
use Rattle.host_wants.specs.declared.error.Refusal.{Refusal}
use Rattle.host_wants.specs.Refusals.{by_errno}
use Rattle.host_wants.specs.Wanted.{Wanted}
use Rattle.host_sockets.specs.TcpSocket.{TcpSocket, with_bound, has_record}
use Rattle.host_sockets.specs.Sockets.{SocketsRecord, tcb_at, with_tcp, changes_at, changes_in}
use Rattle.host_sockets.specs.TcpActs.{Acted, record_acts, acts_in, acts_at}
use Rattle.udp_slots.specs.Slots.{only_state, oldest_datagram}
use Rattle.host_sockets.specs.Udp.{udp_in, udp_around, with_udp, acted_udp, udp_acts, closes_udp, binds_udp, connects_udp, sends_udp, receives_udp}
use Rattle.host_sockets.specs.Binding.{bind_asked, binds_tcp, listen_asked, listening, listens_tcp}
use Rattle.host_sockets.specs.Connecting.{connect_asked, opens, connects, connects_taking, taking, error_takes, connect_waited, connect_answers, without_change}
use Rattle.host_sockets.specs.Moving.{send_asked, count_taken, takes_written, sends_taking, recv_asked, bytes_given, gives_read, receives_taking, may_shut, shuts_tcp}
use Rattle.host_sockets.specs.Names.{error_asked, takes_error}
use Rattle.host_sockets.specs.Closing.{closed, closes_tcp}
use Rattle.host_sockets.specs.Arriving.{takes_in, datagram_in, datagram_at, datagram_arrives, record_takes, listener_hears, hearer, heard_at, segment_at, segment_arrives, arrives_by}
use Rattle.host_sockets.specs.Alarms.{socket_expires, alarm_comes}
use Rattle.socket_laws.specs.Histories.{SocketsAct, left_by, sockets_acted, make_udp, bind_udp, connect_udp, send_udp, recv_udp, close_udp, make_tcp, bind_tcp, listen_tcp, accept_tcp, connect_tcp, connect_again, send_tcp, recv_tcp, shut_tcp, take_error, close_tcp, arrival, alarm, elsewhere}
use Rattle.socket_laws.proofs.LivePairs.{left_asked, left_after, left_told, taken_row, after_ok, change_ok}

-- what holds of them as they are, and after each such end of an act
pub record Steps (P : SocketsRecord → Type 0) (t : SocketsRecord) : Type 0 where
  pub same : P t
  pub tcp : (k : ℕ) (old new : TcpSocket) (gone : List Tcb) → slice_get t.tcp k ≡ Some old → P (record (with_tcp k old new t) { gone = gone })
  pub udp : (k : ℕ) (old new : UdpState) → udp_in k t ≡ Some old → P (with_udp k old new t)
  pub closes : (k : ℕ) → P (closes_udp k t)

abbrev pub MakesNone : SocketsAct → Type 0
MakesNone make_udp = ⊥
MakesNone make_tcp = ⊥
MakesNone (accept_tcp k) = ⊥
MakesNone _ = Unit {0}

module _ (P : SocketsRecord → Type 0) (t : SocketsRecord) (h : Steps P t) where
  acts_go_in : (k : ℕ) (act : TcpSocket → Wanted → Acted) (o : Option TcpSocket) (w : Wanted) → slice_get t.tcp k ≡ o → P (acts_in k act o t w).0
  acts_go_in k act None w at = h.same
  acts_go_in k act (Some s) w at = h.tcp k s (act s w).socket _ at

  acts_go : (k : ℕ) (act : TcpSocket → Wanted → Acted) (w : Wanted) → P (acts_at k act t w).0
  acts_go k act w = acts_go_in k act (slice_get t.tcp k) w refl

  changes_go_in : (k : ℕ) (f : TcpSocket → TcpSocket) (o : Option TcpSocket) → slice_get t.tcp k ≡ o → P (changes_in k f o t)
  changes_go_in k f None at = h.same
  changes_go_in k f (Some s) at = h.tcp k s (f s) t.gone at

  pub changes_go : (k : ℕ) (f : TcpSocket → TcpSocket) → P (changes_at k f t)
  changes_go k f = changes_go_in k f (slice_get t.tcp k) refl

  -- calls on UDP sockets
  slot_goes : {A : Type 0} (k : ℕ) (act : UdpState → Result (A × UdpState) Refusal) (o : Option UdpState) → udp_in k t ≡ o → P (left_by (acted_udp act k o t) t)
  slot_goes k act None at = h.same
  slot_goes {A} k act (Some u) at = by_answer (act u)
    where
      by_answer : (answer : Result (A × UdpState) Refusal) → P (left_by (answer >>= λ (a, after). Ok (a, with_udp k u after t)) t)
      by_answer (Ok (a, after)) = h.udp k u after at
      by_answer (Err why) = h.same

  udp_goes : {A : Type 0} (k : ℕ) (act : UdpState → Result (A × UdpState) Refusal) → P (left_by (udp_acts act k t) t)
  udp_goes k act = slot_goes k act (udp_in k t) refl

  -- rows that ask first
  taken_goes : {A : Type 0} (now : Time) (k : ℕ) (asked : Result (Unit {0}) Refusal) (a : A) (act : TcpSocket → Wanted → Acted) (w : Wanted) → P (left_by (taking now k (asked >> Ok (a, acts_at k act t w)) t w) (t, w)).0
  taken_goes now k asked a act w =
      taken_row (λ (x : SocketsRecord × Wanted). P x.0) now k (asked >> Ok (a, acts_at k act t w)) t w
      (λ b left e. subst (λ (x : SocketsRecord × Wanted). P x.0) (after_ok asked a b (acts_at k act t w) left e) (acts_go k act w))
      (acts_go k (error_takes now k) w) h.same

  opened_ok : (asked : Result Addr Refusal) (f : Addr → SocketsRecord × Wanted) (b : Unit {0}) (left : SocketsRecord × Wanted) → ((at : Addr) → P (f at).0) → ◌>>=◌ {B = Unit {0} × (SocketsRecord × Wanted)} asked (λ at. Ok (tt, f at)) ≡ Ok (b, left) → P left.0
  opened_ok (Err why) f b left goes e = cc
  opened_ok (Ok at) f b left goes e =
      let same : (tt, f at) ≡ (b, left) = cc in
      subst (λ (x : SocketsRecord × Wanted). P x.0) (ap (λ (y : Unit {0} × (SocketsRecord × Wanted)). y.1) same) (goes at)

  connects_go : (hosts : List Ip) (now : Time) (k : ℕ) (to : Addr) (w : Wanted) → P (left_by (connects_taking hosts now k to t w) (t, w)).0
  unfolding connects_taking connects
  connects_go hosts now k to w =
      taken_row (λ (x : SocketsRecord × Wanted). P x.0) now k (connects hosts now k to t w) t w
      (λ b left e. opened_ok (connect_asked hosts k to t) (λ own. acts_at k (opens now k own to) t w) b left (λ own. acts_go k (opens now k own to) w) e)
      (acts_go k (error_takes now k) w) h.same

  again_goes : (now : Time) (k : ℕ) (w : Wanted) → P (left_by (connect_answers now k t w) (t, w)).0
  unfolding connect_answers
  again_goes now k w =
      taken_row (λ (x : SocketsRecord × Wanted). P x.0) now k (without_change t w (connect_waited k t)) t w
      (λ b left e. subst (λ (x : SocketsRecord × Wanted). P x.0) (change_ok t w (connect_waited k t) b left e) h.same)
      (acts_go k (error_takes now k) w) h.same

  -- what arrives
  heard_goes : (now : Time) (p : Packet) (o : Option ℕ) (w : Wanted) → P (heard_at now p o t w).1.0
  heard_goes now p None w = h.same
  heard_goes now p (Some k) w = acts_go k (listener_hears now p k) w

  segment_goes_at : (now : Time) (p : Packet) (o : Option ℕ) (w : Wanted) → P (segment_at now p o t w).1.0
  segment_goes_at now p None w = heard_goes now p (hearer p t) w
  segment_goes_at now p (Some k) w = acts_go k (record_takes now p k) w

  segment_goes : (now : Time) (p : Packet) (w : Wanted) → P (segment_arrives now p t w).1.0
  unfolding segment_arrives
  segment_goes now p w = segment_goes_at now p (position (has_record p.to p.from) t.tcp) w

  datagram_goes_in : (from : Addr) (bytes : List ℕ) (k : ℕ) (o : Option UdpState) → udp_in k t ≡ o → P (datagram_in from bytes k o t).1
  datagram_goes_in from bytes k None at = h.same
  datagram_goes_in from bytes k (Some u) at = h.udp k u (arrive from bytes u).1 at

  datagram_goes_at : (from : Addr) (bytes : List ℕ) (o : Option ℕ) → P (datagram_at from bytes o t).1
  datagram_goes_at from bytes None = h.same
  datagram_goes_at from bytes (Some k) = datagram_goes_in from bytes k (udp_in k t) refl

  datagram_goes : (from to : Addr) (bytes : List ℕ) → P (datagram_arrives from to bytes t).1
  unfolding datagram_arrives
  datagram_goes from to bytes = datagram_goes_at from bytes (position (takes_in from to) t.udp)

  arrival_goes : (load : Load) (now : Time) (p : Packet) (w : Wanted) → P (arrives_by load now p t w).1.0
  arrival_goes (Udp bytes) now p w = datagram_goes p.from p.to bytes
  arrival_goes (Tcp flags seq ack window text) now p w = segment_goes now p w

  alarm_goes : (now : Time) (k serial : ℕ) (w : Wanted) → P (alarm_comes now k serial t w).0
  unfolding alarm_comes
  alarm_goes now k serial w = acts_go k (socket_expires now k serial) w

  close_goes : (now : Time) (k : ℕ) (w : Wanted) → P (closes_tcp now k t w).0
  unfolding closes_tcp
  close_goes now k w = acts_go k (closed now k) w

  -- acts that make no socket
  pub others_go : (hosts : List Ip) (now : Time) (act : SocketsAct) (w : Wanted) → MakesNone act → P (sockets_acted hosts now act t w).0
  unfolding binds_udp connects_udp sends_udp receives_udp binds_tcp listens_tcp sends_taking receives_taking shuts_tcp takes_error
  others_go hosts now make_udp w none = absurd none
  others_go hosts now (bind_udp k at) w none = udp_goes k (λ u. only_state (by_errno (bind (udp_around hosts t) at u)))
  others_go hosts now (connect_udp k to) w none = udp_goes k (λ u. only_state (by_errno (connect (udp_around hosts t) to u)))
  others_go hosts now (send_udp k bytes to) w none = udp_goes k (λ u. by_errno (send (udp_around hosts t) bytes to u))
  others_go hosts now (recv_udp k count) w none = udp_goes k (λ u. oldest_datagram u u.waiting count)
  others_go hosts now (close_udp k) w none = h.closes k
  others_go hosts now make_tcp w none = absurd none
  others_go hosts now (bind_tcp k at) w none =
      left_asked P (bind_asked k at t) (λ end. (tt, changes_at k (with_bound end) t)) t (λ end e. changes_go k (with_bound end)) h.same
  others_go hosts now (listen_tcp k count) w none =
      left_asked P (listen_asked k t) (λ at. (tt, changes_at k (listening at count) t)) t (λ at e. changes_go k (listening at count)) h.same
  others_go hosts now (accept_tcp k) w none = absurd none
  others_go hosts now (connect_tcp k to) w none = connects_go hosts now k to w
  others_go hosts now (connect_again k) w none = again_goes now k w
  others_go hosts now (send_tcp k bytes to quiet) w none =
      taken_goes now k (send_asked hosts k (length bytes) to quiet t) (count_taken bytes (tcb_at k t)) (takes_written now k bytes) w
  others_go hosts now (recv_tcp k count) w none =
      taken_goes now k (recv_asked k t) (bytes_given count (tcb_at k t)) (gives_read now k count) w
  others_go hosts now (shut_tcp k how) w none =
      left_after (λ (x : SocketsRecord × Wanted). P x.0) (may_shut k t) tt (acts_at k (record_acts now k (λ r. shuts how (begin r))) t w) (t, w)
      (acts_go k (record_acts now k (λ r. shuts how (begin r))) w) h.same
  others_go hosts now (take_error k) w none =
      left_told (λ (x : SocketsRecord × Wanted). P x.0) (error_asked k t) (λ error. error) (acts_at k (error_takes now k) t w) (t, w)
      (acts_go k (error_takes now k) w) h.same
  others_go hosts now (close_tcp k) w none = close_goes now k w
  others_go hosts now (arrival p) w none = arrival_goes p.load now p w
  others_go hosts now (alarm k serial) w none = alarm_goes now k serial w
  others_go hosts now (elsewhere after) w none = h.same
