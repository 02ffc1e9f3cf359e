-- what is done with the TCP sockets of a host leaves them, and what is wanted, fitting
use Rattle.run_fits.proofs.Steps.{Gives, knows, steps, tries, given}
use Rattle.std.proofs.Common.{Bool, Err, IfSome, List, length, None, Ok, Option, Result, Some, [], arith, map, mod-lt, nat_lt, option_map, position, refl, slice_get, true, ℕ, ℤ, ◌%◌, ◌==◌, ◌^◌, ◌∷◌, ◌≡◌}
use Rattle.std.specs.List.{AllByRecursion}
use Rattle.sock_tcp.specs.listener.Listen.{hears, Heard, Listen, hears_close, hears_timer, takes_word}
use Rattle.sock_tcp.specs.connection.Arrival.{takes_packet}
use Rattle.sock_tcp.specs.connection.Begin.{begin}
use Rattle.sock_tcp.specs.connection.Process.{closes, expires, flows, opened, reads, shuts, writes, error_taken}
use Rattle.sock_tcp.specs.connection.Tcb.{Turn, changed, Tcb}
use Rattle.sock_tcp.specs.declared.connection.effects.Shut.{Shut}
use Rattle.host_sockets.specs.Accepting.{accept_asked, accepted, accepts_at, accepts_in, accepts_of, accepts_tcp, given_up, placed}
use Rattle.host_sockets.specs.Alarms.{alarm_comes, kept_expires, kept_timer, socket_expires, timer_expires}
use Rattle.host_sockets.specs.Arriving.{heard_at, hearer, hears_in, listener_hears, refusal_sent, segment_arrives, segment_at, word_drawn}
use Rattle.host_sockets.specs.Binding.{bind_asked, bind_begun, binds_tcp, bound_to_use, end_to_use, listen_asked, listen_begun, listen_to, listening, listens_tcp}
use Rattle.host_sockets.specs.Closing.{closed, closes_in, closes_tcp, unheld}
use Rattle.host_sockets.specs.Connecting.{connect_answers, connect_asked, connect_begun, connect_waited, connects, connects_taking, error_takes, opens, source_end, taking, without_change}
use Rattle.host_sockets.specs.ListenerActs.{heard, timer_starts}
use Rattle.host_sockets.specs.Moving.{bytes_given, may_shut, receives_bytes, receives_taking, recv_asked, send_asked, sends_bytes, sends_taking, shuts_tcp}
use Rattle.host_sockets.specs.Names.{error_asked, takes_error}
use Rattle.host_sockets.specs.Sockets.{SocketsRecord, changes_at, changes_in, new_tcp, put_tcp, tcb_in, tcp_ends, tcp_place}
use Rattle.host_sockets.specs.TcpActs.{Acted, acts_at, acts_in, is_let_go, let_go, record_acts, starts, turned, turned_in}
use Rattle.host_sockets.specs.TcpSocket.{fresh, has_record, with_bound, with_tcb, TcpSocket}
use Rattle.host_sockets.specs.declared.reply.Reply.{Reply}
use Rattle.host_sockets.specs.declared.reply.Reply.TheVariants.{Done, Failed}
use Rattle.host_sockets.specs.declared.tcp_sock.KeptTimer.{KeptTimer}
use Rattle.host_wants.specs.Wanted.{Wanted, draws_word, due_after, next_serial, sends, wants_alarm}
use Rattle.pcap_text.specs.Laws.{IsWhole}
use Rattle.pcap_text.specs.Packets.{FitsAddr}
use Rattle.run_fits.proofs.Bytes.{all_append, all_set, got}
use Rattle.run_fits.proofs.Listeners.{GivenFits, HeardFits, accepts_fits, fresh_fits, hears_close_fits, hears_fits, hears_timer_fits}
use Rattle.run_fits.proofs.Records.{MayBeWhole, TurnFits, begin_fits, closes_fits, error_taken_fits, expires_fits, flows_fits, opened_fits, read_are, reads_fits, refusal_whole, shuts_fits, takes_packet_fits, writes_fits}
use Rattle.run_fits.specs.Bytes.{AreBytes}
use Rattle.run_fits.specs.Packets.{AreWhole, WantFits, WantsFit}
use Rattle.run_fits.specs.Sockets.{FitsIp, ListenFits, MayFit, SocketsFit, TcbFits, TcpFits}
use Rattle.sim_base.specs.AddressLaws.{first_free_port_IsLeastFree}
use Rattle.sim_base.specs.Addresses.{any, at_free_port, at_port, is_same_ip, least_free_port, loopback, with_port}
use Rattle.sim_base.specs.Refusals.{or_refuse, ◌>>=◌}
use Rattle.sim_base.specs.declared.address.Addr.{Addr}
use Rattle.sim_base.specs.declared.address.Ip.{Ip}
use Rattle.sim_base.specs.declared.alarm.AlarmTarget.{AlarmTarget}
use Rattle.sim_base.specs.declared.alarm.AlarmTarget.TheVariants.{Socket}
use Rattle.sim_base.specs.declared.packet.Packet.{Packet}
use Rattle.sim_base.specs.declared.time.Time.{Time}
use Rattle.sock_tcp.specs.connection.Timer.{timer_of}
use Rattle.sock_tcp.specs.segment.Refusal.{refusal_of}
use Rattle.sock_udp.specs.Socket.{or_else}
use Rattle.tcp_laws.proofs.Tests.{by_test}
use Rattle.host_wants.specs.declared.outlet.Want.TheVariants as want
use Rattle.host_wants.specs.declared.error.Refusal.TheVariants as refusal
use Rattle.host_wants.specs.declared.error.Refusal.{Refusal}
use Rattle.sim_base.specs.declared.errno.Errno.TheVariants.{Ebadf}

-- ---- what is wanted

sends_want : (packets : List Packet) → AreWhole packets → AllByRecursion WantFits (map want.Send packets)
sends_want [] h = tt
sends_want (p ∷ packets) h = (h.0, sends_want packets h.1)

pub sends_fit : (packets : List Packet) (w : Wanted) → AreWhole packets → WantsFit w → WantsFit (sends packets w)
sends_fit packets w whole h = all_append WantFits w.wants (map want.Send packets) h (sends_want packets whole)

pub alarm_fits : (target : AlarmTarget) (due : Time) (w : Wanted) → WantsFit w → WantsFit (wants_alarm target due w).1
alarm_fits target due w h =
    all_append WantFits w.wants (want.Alarm target (next_serial w) due ∷ []) h (tt, tt)

-- ---- acts on a socket

-- what an act leaves: the socket, and what is wanted
abbrev pub ActedFits : Acted → Type 0
ActedFits a = TcpFits a.socket × WantsFit a.wanted

abbrev SocketWants : TcpSocket × Wanted → Type 0
SocketWants t = TcpFits t.0 × WantsFit t.1

-- the sockets of a host, and what is wanted
abbrev pub BothFit : SocketsRecord × Wanted → Type 0
BothFit t = SocketsFit t.0 × WantsFit t.1

let_go_fits : (r : Tcb) (s : TcpSocket) (w : Wanted) → SocketWants (s, w) → ActedFits (let_go r s w)
let_go_fits r s w h = by_test ActedFits (is_let_go r s) _ _ (λ e. ((h.0.0, tt, tt), h.1)) (λ e. h)

starts_fit : (now : Time) (k : ℕ) (length : Option Time) (s : TcpSocket) (w : Wanted) → SocketWants (s, w) → SocketWants (starts now k length s w)
starts_fit now k None s w h = h
starts_fit now k (Some length) s w h = (h.0, alarm_fits (Socket k) (due_after now length) w h.1)

turned_fits : (now : Time) (k : ℕ) (t : Turn) (s : TcpSocket) (w : Wanted) → TurnFits t → SocketWants (s, w) → ActedFits (turned now k t s w)
unfolding turned
turned_fits now k t s w fits h =
    let put = with_tcb t.tcb s in
    let started = starts now k (timer_of t) put (sends t.sent w) in
    let_go_fits t.tcb started.0 started.1
    (starts_fit now k (timer_of t) put (sends t.sent w) ((h.0.0, fits.0, h.0.2), sends_fit t.sent w fits.1 h.1))

abbrev pub KeepsRecords : (Tcb → Turn) → Type 0
KeepsRecords act = (r : Tcb) → TcbFits r → TurnFits (act r)

turned_in_fits : (now : Time) (k : ℕ) (act : Tcb → Turn) (found : Option Tcb) (s : TcpSocket) (w : Wanted) → KeepsRecords act → IfSome found TcbFits → SocketWants (s, w) → ActedFits (turned_in now k act found s w)
turned_in_fits now k act None s w keeps there h = h
turned_in_fits now k act (Some r) s w keeps there h = turned_fits now k (act r) s w (keeps r there) h

pub record_fits : (now : Time) (k : ℕ) (act : Tcb → Turn) (s : TcpSocket) (w : Wanted) → KeepsRecords act → SocketWants (s, w) → ActedFits (record_acts now k act s w)
record_fits now k act s w keeps h = turned_in_fits now k act s.tcb s w keeps h.0.1 h

-- the socket with a number acts
abbrev KeepsSockets : (TcpSocket → Wanted → Acted) → Type 0
KeepsSockets act = (s : TcpSocket) (w : Wanted) → SocketWants (s, w) → ActedFits (act s w)

acts_in_fit : (k : ℕ) (act : TcpSocket → Wanted → Acted) (found : Option TcpSocket) (t : SocketsRecord) (w : Wanted) → KeepsSockets act → IfSome found TcpFits → BothFit (t, w) → BothFit (acts_in k act found t w)
acts_in_fit k act None t w keeps there h = h
acts_in_fit k act (Some s) t w keeps there h =
    let a = keeps s w (there, h.1) in
    ((h.0.0, h.0.1, all_set TcpFits t.tcp k (act s w).socket h.0.2 a.0), a.1)

pub acts_fit : (k : ℕ) (act : TcpSocket → Wanted → Acted) (t : SocketsRecord) (w : Wanted) → KeepsSockets act → BothFit (t, w) → BothFit (acts_at k act t w)
acts_fit k act t w keeps h = acts_in_fit k act (slice_get t.tcp k) t w keeps (got TcpFits t.tcp k h.0.2) h

records_fit : (now : Time) (k : ℕ) (act : Tcb → Turn) (t : SocketsRecord) (w : Wanted) → KeepsRecords act → BothFit (t, w) → BothFit (acts_at k (record_acts now k act) t w)
records_fit now k act t w keeps h = acts_fit k (record_acts now k act) t w (λ s v g. record_fits now k act s v keeps g) h

changed_fit : (k : ℕ) (f : TcpSocket → TcpSocket) (found : Option TcpSocket) (t : SocketsRecord) → ((s : TcpSocket) → TcpFits s → TcpFits (f s)) → IfSome found TcpFits → SocketsFit t → SocketsFit (changes_in k f found t)
changed_fit k f None t keeps there h = h
changed_fit k f (Some s) t keeps there h = (h.0, h.1, all_set TcpFits t.tcp k (f s) h.2 (keeps s there))

pub changes_fit : (k : ℕ) (f : TcpSocket → TcpSocket) (t : SocketsRecord) → ((s : TcpSocket) → TcpFits s → TcpFits (f s)) → SocketsFit t → SocketsFit (changes_at k f t)
changes_fit k f t keeps h = changed_fit k f (slice_get t.tcp k) t keeps (got TcpFits t.tcp k h.2) h

-- a new socket
put_fits : (s : TcpSocket) (t : SocketsRecord) → TcpFits s → SocketsFit t → SocketsFit (put_tcp s t)
put_fits s t here h = (
  h.0,
  h.1,
  by_test (λ (xs : List TcpSocket). AllByRecursion TcpFits xs) (nat_lt (tcp_place t) (length t.tcp)) _ _
      (λ e. all_set TcpFits t.tcp (tcp_place t) s h.2 here)
      (λ e. all_append TcpFits t.tcp (s ∷ []) h.2 (here, tt)),
)

pub new_tcp_fits : (t : SocketsRecord) → SocketsFit t → SocketsFit (new_tcp t).1
new_tcp_fits t h = put_fits (fresh true) t (tt, tt, tt) h

-- ---- listeners

timer_starts_fit : (now : Time) (k : ℕ) (own other : Addr) (length : Option Time) (timers : List KeptTimer) (w : Wanted) → WantsFit w → WantsFit (timer_starts now k own other length timers w).1
timer_starts_fit now k own other None timers w h = h
timer_starts_fit now k own other (Some length) timers w h = alarm_fits (Socket k) (due_after now length) w h

heard_acted : (now : Time) (k : ℕ) (own other : Addr) (h : Heard) (gone : List Tcb) (s : TcpSocket) (w : Wanted) → HeardFits h → SocketWants (s, w) → ActedFits (heard now k own other h gone s w)
unfolding heard
heard_acted now k own other h gone s w fits both =
    ((both.0.0, both.0.1, fits.0), timer_starts_fit now k own other h.timer s.timers (sends h.sent w) (sends_fit h.sent w fits.1 both.1))

-- ---- bind(2) and listen(2)

-- an end at a port that is given, or at a free one
free_fits : (bound : List Addr) (ip : Ip) (found : Option ℕ) → least_free_port bound ≡ found → FitsIp ip → MayFit (option_map (at_port ip) found)
free_fits bound ip None e fits = tt
free_fits bound ip (Some port) e fits =
    let within = (first_free_port_IsLeastFree bound 10000 55536 port e).within in (fits, omega (arith, within))

pub free_end : (bound : List Addr) (ip : Ip) → FitsIp ip → MayFit (at_free_port bound ip)
free_end bound ip fits = free_fits bound ip (least_free_port bound) refl fits

pub port_fits : (bound : List Addr) (at : Addr) → FitsAddr at → MayFit (with_port bound at)
port_fits bound at fits = by_test MayFit (at.port == 0) _ _ (λ e. free_end bound at.ip fits.0) (λ e. fits)

pub any_fits : FitsIp any
any_fits = omega arith

pub either_fits : (own other : Option Addr) → MayFit own → MayFit other → MayFit (or_else own other)
either_fits None other h k = k
either_fits (Some at) other h k = h

-- of the sockets that a row leaves
abbrev pub Left : {A : Type 0} → A × SocketsRecord → Type 0
Left b = SocketsFit b.1

abbrev pub LeftBoth : {A : Type 0} → A × (SocketsRecord × Wanted) → Type 0
LeftBoth b = BothFit b.1

bound_at : (k : ℕ) (at : Addr) (t : SocketsRecord) → FitsAddr at → Gives FitsAddr (bind_asked k at t)
bound_at k at t fits =
    tries FitsAddr (bind_begun k at t) _
    (knows FitsAddr FitsAddr (or_refuse (with_port (tcp_ends t) at) _) _ (given FitsAddr (with_port (tcp_ends t) at) _ (port_fits (tcp_ends t) at fits))
    (λ end k. tries FitsAddr _ (Ok end) k))

pub binds_tcp_fits : (k : ℕ) (at : Addr) (t : SocketsRecord) → FitsAddr at → SocketsFit t → Gives Left (binds_tcp k at t)
unfolding binds_tcp
binds_tcp_fits k at t fits h =
    knows FitsAddr Left (bind_asked k at t) _ (bound_at k at t fits)
    (λ end there. changes_fit k (with_bound end) t (λ s g. (there, g.1, g.2)) h)

used_end : (k : ℕ) (t : SocketsRecord) → SocketsFit t → Gives FitsAddr (bound_to_use k t)
used_end k t h =
    by_found (slice_get t.tcp k) (got TcpFits t.tcp k h.2)
  where
    by_found : (found : Option TcpSocket) → IfSome found TcpFits → Gives FitsAddr (or_refuse found (refusal.Errno Ebadf) >>= λ s. end_to_use t s)
    by_found None there = tt
    by_found (Some s) there = given FitsAddr (or_else s.bound (at_free_port (tcp_ends t) any)) _ (either_fits s.bound (at_free_port (tcp_ends t) any) there.0 (free_end (tcp_ends t) any any_fits))

listening_fits : (at : Addr) (backlog : ℤ) (l : Option Listen) → FitsAddr at → IfSome l ListenFits → ListenFits (listen_to at backlog l)
listening_fits at backlog None fits h = fresh_fits at backlog fits
listening_fits at backlog (Some l) fits h = h

pub listens_tcp_fits : (k : ℕ) (backlog : ℤ) (t : SocketsRecord) → SocketsFit t → Gives Left (listens_tcp k backlog t)
unfolding listens_tcp
listens_tcp_fits k backlog t h =
    knows FitsAddr Left (listen_asked k t) _ (tries FitsAddr (listen_begun k t) (bound_to_use k t) (used_end k t h))
    (λ at fits.
    changes_fit k (listening at backlog) t (λ s g. (fits, g.1, listening_fits at backlog s.listen fits g.2)) h)

-- ---- accept(2)

accepts_in_fit : (l : Option Listen) → IfSome l ListenFits → GivenFits (accepts_in l)
accepts_in_fit None h = tt
accepts_in_fit (Some l) h = accepts_fits l h

accepts_of_fit : (s : Option TcpSocket) → IfSome s TcpFits → GivenFits (accepts_of s)
accepts_of_fit None h = tt
accepts_of_fit (Some s) h = accepts_in_fit s.listen h.2

taken_fits : (k : ℕ) (found : Option (Tcb × Listen)) (t : SocketsRecord) → GivenFits found → SocketsFit t
    → Gives Left (or_refuse found (refusal.Wait None) >>= λ (r, rest). Ok (placed r (changes_at k (given_up r rest) t)))
taken_fits k None t given h = tt
taken_fits k (Some (r, rest)) t given h =
    let left = changes_at k (given_up r rest) t in
    put_fits (accepted r) left (tt, given.0, tt) (changes_fit k (given_up r rest) t (λ s g. (g.0, g.1, given.1)) h)

pub accepts_tcp_fits : (k : ℕ) (t : SocketsRecord) → SocketsFit t → Gives Left (accepts_tcp k t)
unfolding accepts_tcp
accepts_tcp_fits k t h =
    tries Left (accept_asked k t) _ (taken_fits k (accepts_at k t) t (accepts_of_fit (slice_get t.tcp k) (got TcpFits t.tcp k h.2)) h)

-- ---- connect(2)

source_fits : (own : Ip) (bound to : Addr) → FitsIp own → FitsAddr bound → FitsAddr (source_end own bound to)
source_fits own bound to home fits =
    (by_test FitsIp (is_same_ip bound.ip any) _ _ (λ e. by_test FitsIp (is_same_ip to.ip loopback) _ _ (λ k. omega arith) (λ k. home)) (λ e. fits.0), fits.1)

own_end : (hosts : List Ip) (k : ℕ) (to : Addr) (t : SocketsRecord) → SocketsFit t → Gives FitsAddr (connect_asked hosts k to t)
own_end hosts k to t h =
    tries FitsAddr (connect_begun hosts k to t) _
    (knows FitsAddr FitsAddr (bound_to_use k t) _ (used_end k t h)
    (λ bound fits. tries FitsAddr _ (Ok (source_end t.own bound to)) (source_fits t.own bound to h.0 fits)))

connects_fit : (hosts : List Ip) (now : Time) (k : ℕ) (to : Addr) (t : SocketsRecord) (w : Wanted) → FitsAddr to → BothFit (t, w) → Gives LeftBoth (connects hosts now k to t w)
unfolding connects
connects_fit hosts now k to t w fits h =
    knows FitsAddr LeftBoth (connect_asked hosts k to t) _ (own_end hosts k to t h.0)
    (λ own from.
    acts_fit k (opens now k own to) t w
    (λ s v g. turned_fits now k (opened own to ((draws_word v).0 % 2 ^ 32)) s (draws_word v).1 (opened_fits own to ((draws_word v).0 % 2 ^ 32) from fits (mod-lt (draws_word v).0 (omega arith))) g) h)

error_fits : (now : Time) (k : ℕ) (t : SocketsRecord) (w : Wanted) → BothFit (t, w) → BothFit (acts_at k (error_takes now k) t w)
error_fits now k t w h =
    records_fit now k (λ r. changed error_taken (begin r)) t w (λ r g. (error_taken_fits r g, tt)) h

taking_fits : {A : Type 0} (now : Time) (k : ℕ) (r : Result (A × (SocketsRecord × Wanted)) Refusal) (t : SocketsRecord) (w : Wanted) → Gives LeftBoth r → BothFit (t, w) → Gives LeftBoth (taking now k r t w)
taking_fits now k (Ok (a, after)) t w g h = g
taking_fits now k (Err (refusal.Kept errno)) t w g h = error_fits now k t w h
taking_fits now k (Err (refusal.Errno errno)) t w g h = tt
taking_fits now k (Err (refusal.Wait until)) t w g h = tt
taking_fits now k (Err (refusal.End state)) t w g h = tt

pub connects_taking_fits : (hosts : List Ip) (now : Time) (k : ℕ) (to : Addr) (t : SocketsRecord) (w : Wanted) → FitsAddr to → BothFit (t, w) → Gives LeftBoth (connects_taking hosts now k to t w)
unfolding connects_taking
connects_taking_fits hosts now k to t w fits h =
    taking_fits now k (connects hosts now k to t w) t w (connects_fit hosts now k to t w fits h) h

unchanged_fits : {A : Type 0} (t : SocketsRecord) (w : Wanted) (r : Result A Refusal) → BothFit (t, w) → Gives LeftBoth (without_change t w r)
unchanged_fits t w (Ok a) h = h
unchanged_fits t w (Err why) h = tt

pub connect_answers_fit : (now : Time) (k : ℕ) (t : SocketsRecord) (w : Wanted) → BothFit (t, w) → Gives LeftBoth (connect_answers now k t w)
unfolding connect_answers
connect_answers_fit now k t w h =
    taking_fits now k (without_change t w (connect_waited k t)) t w (unchanged_fits t w (connect_waited k t) h) h

-- ---- send(2), recv(2) and shutdown(2)

pub sends_taking_fits : (hosts : List Ip) (now : Time) (k : ℕ) (bytes : List ℕ) (to : Option Addr) (quiet : Bool) (t : SocketsRecord) (w : Wanted) → AreBytes bytes → BothFit (t, w) → Gives LeftBoth (sends_taking hosts now k bytes to quiet t w)
unfolding sends_taking
sends_taking_fits hosts now k bytes to quiet t w are h =
    taking_fits now k (sends_bytes hosts now k bytes to quiet t w) t w
    (tries LeftBoth (send_asked hosts k (length bytes) to quiet t) _
    (records_fit now k (λ r. flows (changed (writes bytes) (begin r))) t w
    (λ r g. flows_fits (changed (writes bytes) (begin r)) (writes_fits bytes r are g, tt)) h))
    h

-- what is read are bytes
abbrev pub ReadBytes : Reply (List ℕ) × (SocketsRecord × Wanted) → Type 0
ReadBytes (Done bytes, both) = AreBytes bytes × BothFit both
ReadBytes (Failed errno, both) = BothFit both

given_are : (count : ℕ) (found : Option TcpSocket) → IfSome found TcpFits → AreBytes (bytes_given count (tcb_in found))
given_are count None there = tt
given_are count (Some s) there = by_record s.tcb there.1
  where
    by_record : (found : Option Tcb) → IfSome found TcbFits → AreBytes (bytes_given count found)
    by_record None h = tt
    by_record (Some r) h = read_are count r h

abbrev GivenBytes : List ℕ × (SocketsRecord × Wanted) → Type 0
GivenBytes b = AreBytes b.0 × BothFit b.1

taking_bytes : (now : Time) (k : ℕ) (r : Result (List ℕ × (SocketsRecord × Wanted)) Refusal) (t : SocketsRecord) (w : Wanted) → Gives GivenBytes r → BothFit (t, w) → Gives ReadBytes (taking now k r t w)
taking_bytes now k (Ok (bytes, both)) t w g h = g
taking_bytes now k (Err (refusal.Kept errno)) t w g h = error_fits now k t w h
taking_bytes now k (Err (refusal.Errno errno)) t w g h = tt
taking_bytes now k (Err (refusal.Wait until)) t w g h = tt
taking_bytes now k (Err (refusal.End state)) t w g h = tt

pub receives_taking_fits : (now : Time) (k count : ℕ) (t : SocketsRecord) (w : Wanted) → BothFit (t, w) → Gives ReadBytes (receives_taking now k count t w)
unfolding receives_taking
receives_taking_fits now k count t w h =
    taking_bytes now k (receives_bytes now k count t w) t w
    (tries GivenBytes (recv_asked k t) _ (
      given_are count (slice_get t.tcp k) (got TcpFits t.tcp k h.0.2),
      records_fit now k (λ r. flows (changed (reads count) (begin r))) t w
          (λ r g. flows_fits (changed (reads count) (begin r)) (reads_fits count r g, tt)) h,
    ))
    h

pub shuts_tcp_fits : (now : Time) (k : ℕ) (how : Shut) (t : SocketsRecord) (w : Wanted) → BothFit (t, w) → Gives LeftBoth (shuts_tcp now k how t w)
unfolding shuts_tcp
shuts_tcp_fits now k how t w h =
    tries LeftBoth (may_shut k t) _
    (records_fit now k (λ r. shuts how (begin r)) t w (λ r g. shuts_fits how (begin r) (begin_fits r g)) h)

pub takes_error_fits : (now : Time) (k : ℕ) (t : SocketsRecord) (w : Wanted) → BothFit (t, w) → Gives LeftBoth (takes_error now k t w)
unfolding takes_error
takes_error_fits now k t w h = steps LeftBoth (error_asked k t) _ (λ error e. error_fits now k t w h)

-- ---- close(2)

closes_in_fits : (now : Time) (k : ℕ) (l : Option Listen) (s : TcpSocket) (w : Wanted) → IfSome l ListenFits → SocketWants (s, w) → ActedFits (closes_in now k l s w)
closes_in_fits now k None s w there h =
    record_fits now k (λ r. closes (begin r)) (unheld s) w (λ r g. closes_fits (begin r) (begin_fits r g)) ((tt, h.0.1, tt), h.1)
closes_in_fits now k (Some l) s w there h = ((tt, tt, tt), sends_fit (hears_close l).sent w (hears_close_fits l there).1 h.1)

pub closes_tcp_fits : (now : Time) (k : ℕ) (t : SocketsRecord) (w : Wanted) → BothFit (t, w) → BothFit (closes_tcp now k t w)
unfolding closes_tcp
closes_tcp_fits now k t w h = acts_fit k (closed now k) t w (λ s v g. closes_in_fits now k s.listen s v g.0.2 g) h

-- ---- alarms

kept_expires_fits : (now : Time) (k : ℕ) (timer : KeptTimer) (l : Option Listen) (s : TcpSocket) (w : Wanted) → IfSome l ListenFits → SocketWants (s, w) → ActedFits (kept_expires now k timer l s w)
kept_expires_fits now k timer None s w there h = h
kept_expires_fits now k timer (Some l) s w there h =
    heard_acted now k timer.own timer.other (hears_timer timer.own timer.other l) _ s w (hears_timer_fits timer.own timer.other l there) h

timer_expires_fits : (now : Time) (k : ℕ) (found : Option KeptTimer) (s : TcpSocket) (w : Wanted) → SocketWants (s, w) → ActedFits (timer_expires now k found s w)
timer_expires_fits now k None s w h = h
timer_expires_fits now k (Some timer) s w h = kept_expires_fits now k timer s.listen s w h.0.2 h

pub alarm_comes_fits : (now : Time) (k serial : ℕ) (t : SocketsRecord) (w : Wanted) → BothFit (t, w) → BothFit (alarm_comes now k serial t w)
unfolding alarm_comes
alarm_comes_fits now k serial t w h =
    acts_fit k (socket_expires now k serial) t w
    (λ s v g. by_test ActedFits (s.serial == serial) _ _
    (λ e. record_fits now k (λ r. expires (begin r)) s v (λ r f. expires_fits (begin r) (begin_fits r f)) g)
    (λ e. timer_expires_fits now k (kept_timer serial s.timers) s v g)) h

-- ---- arrivals

hears_in_fits : (now : Time) (p : Packet) (k : ℕ) (l : Option Listen) (s : TcpSocket) (w : Wanted) → IsWhole p → IfSome l ListenFits → SocketWants (s, w) → ActedFits (hears_in now p k l s w)
hears_in_fits now p k None s w whole there h = h
hears_in_fits now p k (Some l) s w whole there h =
    heard_acted now k p.to p.from (hears p (draws_word w).0 l) _ s (word_drawn p l w) (hears_fits p (draws_word w).0 l whole there)
    (h.0, by_test WantsFit (takes_word p l) _ _ (λ e. h.1) (λ e. h.1))

refusal_fits : (found : Option Packet) (w : Wanted) → MayBeWhole found → WantsFit w → WantsFit (refusal_sent found w)
refusal_fits None w whole h = h
refusal_fits (Some p) w whole h = sends_fit (p ∷ []) w (whole, tt) h

heard_at_fits : (now : Time) (p : Packet) (found : Option ℕ) (t : SocketsRecord) (w : Wanted) → IsWhole p → BothFit (t, w) → BothFit (heard_at now p found t w).1
heard_at_fits now p None t w whole h = (h.0, refusal_fits (refusal_of p) w (refusal_whole p whole) h.1)
heard_at_fits now p (Some k) t w whole h = acts_fit k (listener_hears now p k) t w (λ s v g. hears_in_fits now p k s.listen s v whole g.0.2 g) h

segment_at_fits : (now : Time) (p : Packet) (found : Option ℕ) (t : SocketsRecord) (w : Wanted) → IsWhole p → BothFit (t, w) → BothFit (segment_at now p found t w).1
segment_at_fits now p None t w whole h = heard_at_fits now p (hearer p t) t w whole h
segment_at_fits now p (Some k) t w whole h =
    records_fit now k (λ r. takes_packet p (begin r)) t w (λ r g. takes_packet_fits p (begin r) whole (begin_fits r g)) h

pub segment_fits : (now : Time) (p : Packet) (t : SocketsRecord) (w : Wanted) → IsWhole p → BothFit (t, w) → BothFit (segment_arrives now p t w).1
unfolding segment_arrives
segment_fits now p t w whole h = segment_at_fits now p (position (has_record p.to p.from) t.tcp) t w whole h
