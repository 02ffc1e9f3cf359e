-- whatever happens, sockets that are bound are apart
use Rattle.std.proofs.Common.{◌≡◌, ℕ, List, [], ◌∷◌, length, Bool, true, Option, Some, None, Result, Ok, Err, position, refl}
use Rattle.std.specs.Prelude.{ℤ}
use Rattle.sim_base.specs.declared.address.Ip.{Ip}
use Rattle.sim_base.specs.declared.address.Addr.{Addr}
use Rattle.sim_base.specs.declared.errno.Errno.{Errno}
use Rattle.sim_base.specs.declared.packet.Load.{Load}
use Rattle.sim_base.specs.declared.packet.Load.TheVariants.{Udp, Tcp}
use Rattle.sim_base.specs.declared.packet.Packet.{Packet}
use Rattle.sim_base.specs.declared.time.Time.{Time}
use Rattle.sim_base.specs.Refusals.{◌>>=◌, ◌>>◌, or_refuse}
use Rattle.sock_tcp.specs.connection.Begin.{begin}
use Rattle.sock_tcp.specs.connection.Process.{shuts}
use Rattle.sock_tcp.specs.connection.Tcb.{Tcb}
use Rattle.sock_tcp.specs.listener.Listen.{Listen}
use Rattle.host_wants.specs.declared.error.Refusal.{Refusal}
use Rattle.host_wants.specs.declared.error.Refusal.TheVariants as refusal
use Rattle.host_wants.specs.Wanted.{Wanted, draws_word, nothing_wanted}
use Rattle.host_sockets.specs.TcpSocket.{TcpSocket, fresh, with_bound, has_record}
use Rattle.host_sockets.specs.Sockets.{SocketsRecord, no_sockets, changes_at}
use Rattle.host_sockets.specs.TcpActs.{acts_at, record_acts}
use Rattle.host_sockets.specs.Binding.{bind_asked, binds_tcp, listen_asked, listening, listens_tcp}
use Rattle.host_sockets.specs.Accepting.{accept_asked, accepts_at, accepts_tcp, given_up, placed}
use Rattle.host_sockets.specs.Connecting.{connect_asked, connects, opens, error_takes, taking, without_change, connect_waited, connects_taking, connect_answers}
use Rattle.host_sockets.specs.Moving.{sends_bytes, send_asked, takes_written, sends_taking, receives_bytes, recv_asked, gives_read, receives_taking, may_shut, shuts_tcp}
use Rattle.host_sockets.specs.Names.{error_asked, takes_error}
use Rattle.host_sockets.specs.Arriving.{hearer, listener_hears, hears_in, record_takes, heard_at, segment_at, segment_arrives, arrives_by}
use Rattle.socket_laws.specs.Apart.{BoundApart}
use Rattle.socket_laws.specs.Histories.{SocketsAct, left_by, sockets_acted, sockets_after, sockets_of, make_udp, bind_udp, connect_udp, send_udp, recv_udp, close_udp, make_tcp, bind_tcp, listen_tcp, accept_tcp, connect_tcp, connect_again, send_tcp, recv_tcp, shut_tcp, take_error, close_tcp, arrival, alarm, elsewhere}
use Rattle.socket_laws.proofs.ApartTcp.{Kept, kept_all, apart_kept, AsBefore, acts_kept, put_kept, record_as, turned_anew, heard_as, closes_kept, alarm_kept, bound_after, listening_after, accepted_after}
use Rattle.socket_laws.proofs.ApartUdp.{makes_kept, closes_udp_kept, datagram_kept, binds_apart, connects_apart, sends_apart, receives_kept}

-- a row keeps what is bound where it is made, and changes nothing where it is refused
abbrev RowKeeps : {A : Type 0} → Result (A × (SocketsRecord × Wanted)) Refusal → SocketsRecord → Type 0
RowKeeps (Ok (a, after)) t = Kept t after.0
RowKeeps (Err why) t = Unit {0}

left_kept : {A : Type 0} (row : Result (A × (SocketsRecord × Wanted)) Refusal) (t : SocketsRecord) (w : Wanted) → RowKeeps row t → Kept t (left_by row (t, w)).0
left_kept (Ok (a, after)) t w h = h
left_kept (Err why) t w h = kept_all t

then_keeps : {A : Type 0} (asked : Result (Unit {0}) Refusal) (a : A) (after : SocketsRecord × Wanted) (t : SocketsRecord) → Kept t after.0 → RowKeeps (asked >> Ok (a, after)) t
then_keeps (Ok u) a after t h = h
then_keeps (Err why) a after t h = tt

error_as : (now : Time) (k : ℕ) (s : TcpSocket) (w : Wanted) → AsBefore s (error_takes now k s w).socket
error_as now k s w = record_as now k _ s w

taking_keeps : {A : Type 0} (now : Time) (k : ℕ) (row : Result (A × (SocketsRecord × Wanted)) Refusal) (t : SocketsRecord) (w : Wanted) → RowKeeps row t → RowKeeps (taking now k row t w) t
taking_keeps now k (Ok (a, after)) t w h = h
taking_keeps now k (Err (refusal.Kept errno)) t w h = acts_kept k (error_takes now k) (error_as now k) t w
taking_keeps now k (Err (refusal.Errno errno)) t w h = tt
taking_keeps now k (Err (refusal.Wait until)) t w h = tt
taking_keeps now k (Err (refusal.End state)) t w h = tt

-- connect(2)
opens_as : (now : Time) (k : ℕ) (own other : Addr) (s : TcpSocket) (w : Wanted) → AsBefore s (opens now k own other s w).socket
opens_as now k own other s w = turned_anew now k _ s (draws_word w).1

opened_keeps : (now : Time) (k : ℕ) (to : Addr) (t : SocketsRecord) (w : Wanted) (asked : Result Addr Refusal) → RowKeeps (asked >>= λ own. Ok (tt {0}, acts_at k (opens now k own to) t w)) t
opened_keeps now k to t w (Ok own) = acts_kept k (opens now k own to) (opens_as now k own to) t w
opened_keeps now k to t w (Err why) = tt

connects_keeps : (hosts : List Ip) (now : Time) (k : ℕ) (to : Addr) (t : SocketsRecord) (w : Wanted) → RowKeeps (connects hosts now k to t w) t
unfolding connects
connects_keeps hosts now k to t w = opened_keeps now k to t w (connect_asked hosts k to t)

unchanged_keeps : {A : Type 0} (t : SocketsRecord) (w : Wanted) (row : Result A Refusal) → RowKeeps (without_change t w row) t
unchanged_keeps t w (Ok a) = kept_all t
unchanged_keeps t w (Err why) = tt

error_keeps : (now : Time) (k : ℕ) (t : SocketsRecord) (w : Wanted) (asked : Result (Option Errno) Refusal) → RowKeeps (asked >>= λ error. Ok (error, acts_at k (error_takes now k) t w)) t
error_keeps now k t w (Ok error) = acts_kept k (error_takes now k) (error_as now k) t w
error_keeps now k t w (Err why) = tt

-- what waits for the process, and what it sends
sends_keeps : (hosts : List Ip) (now : Time) (k : ℕ) (bytes : List ℕ) (to : Option Addr) (quiet : Bool) (t : SocketsRecord) (w : Wanted) → RowKeeps (sends_bytes hosts now k bytes to quiet t w) t
sends_keeps hosts now k bytes to quiet t w =
    then_keeps (send_asked hosts k (length bytes) to quiet t) _ (acts_at k (takes_written now k bytes) t w) t
    (acts_kept k (takes_written now k bytes) (λ s v. record_as now k _ s v) t w)

receives_keeps : (now : Time) (k count : ℕ) (t : SocketsRecord) (w : Wanted) → RowKeeps (receives_bytes now k count t w) t
receives_keeps now k count t w =
    then_keeps (recv_asked k t) _ (acts_at k (gives_read now k count) t w) t
    (acts_kept k (gives_read now k count) (λ s v. record_as now k _ s v) t w)

-- calls that want nothing
bound_row : (k : ℕ) (at : Addr) (t : SocketsRecord) (asked : Result Addr Refusal) → BoundApart t → bind_asked k at t ≡ asked → BoundApart (left_by (asked >>= λ end. Ok (tt {0}, changes_at k (with_bound end) t)) t)
bound_row k at t (Ok end) h e = bound_after k at end t h e
bound_row k at t (Err why) h e = h

binds_row : (k : ℕ) (at : Addr) (t : SocketsRecord) → BoundApart t → BoundApart (left_by (binds_tcp k at t) t)
unfolding binds_tcp
binds_row k at t h = bound_row k at t (bind_asked k at t) h refl

listening_row : (k : ℕ) (count : ℤ) (t : SocketsRecord) (asked : Result Addr Refusal) → BoundApart t → listen_asked k t ≡ asked → BoundApart (left_by (asked >>= λ at. Ok (tt {0}, changes_at k (listening at count) t)) t)
listening_row k count t (Ok at) h e = listening_after k at count t h e
listening_row k count t (Err why) h e = h

listens_row : (k : ℕ) (count : ℤ) (t : SocketsRecord) → BoundApart t → BoundApart (left_by (listens_tcp k count t) t)
unfolding listens_tcp
listens_row k count t h = listening_row k count t (listen_asked k t) h refl

accepted_row : (k : ℕ) (t : SocketsRecord) (asked : Result (Unit {0}) Refusal) (o : Option (Tcb × Listen)) → Kept t (left_by (asked >> (or_refuse o (refusal.Wait None) >>= λ (r, rest). Ok (placed r (changes_at k (given_up r rest) t)))) t)
accepted_row k t (Ok u) (Some (r, rest)) = accepted_after r rest k t
accepted_row k t (Ok u) None = kept_all t
accepted_row k t (Err why) o = kept_all t

accepts_row : (k : ℕ) (t : SocketsRecord) → Kept t (left_by (accepts_tcp k t) t)
unfolding accepts_tcp
accepts_row k t = accepted_row k t (accept_asked k t) (accepts_at k t)

-- what arrives
hears_in_as : (now : Time) (p : Packet) (k : ℕ) (o : Option Listen) (s : TcpSocket) (w : Wanted) → AsBefore s (hears_in now p k o s w).socket
hears_in_as now p k None s w = λ a e. e
hears_in_as now p k (Some l) s w = heard_as now k p.to p.from _ _ s _

heard_kept : (now : Time) (p : Packet) (o : Option ℕ) (t : SocketsRecord) (w : Wanted) → Kept t (heard_at now p o t w).1.0
heard_kept now p None t w = kept_all t
heard_kept now p (Some k) t w = acts_kept k (listener_hears now p k) (λ s v. hears_in_as now p k s.listen s v) t w

segment_kept : (now : Time) (p : Packet) (o : Option ℕ) (t : SocketsRecord) (w : Wanted) → Kept t (segment_at now p o t w).1.0
segment_kept now p None t w = heard_kept now p (hearer p t) t w
segment_kept now p (Some k) t w = acts_kept k (record_takes now p k) (λ s v. record_as now k _ s v) t w

segments_kept : (now : Time) (p : Packet) (t : SocketsRecord) (w : Wanted) → Kept t (segment_arrives now p t w).1.0
unfolding segment_arrives
segments_kept now p t w = segment_kept now p (position (has_record p.to p.from) t.tcp) t w

arrives_kept : (load : Load) (now : Time) (p : Packet) (t : SocketsRecord) (w : Wanted) → Kept t (arrives_by load now p t w).1.0
arrives_kept (Udp bytes) now p t w = datagram_kept p.from p.to bytes t
arrives_kept (Tcp flags seq ack window text) now p t w = segments_kept now p t w

-- acts that bind no socket
abbrev pub BindsNone : SocketsAct → Type 0
BindsNone (bind_udp k at) = ⊥
BindsNone (connect_udp k to) = ⊥
BindsNone (send_udp k bytes to) = ⊥
BindsNone (bind_tcp k at) = ⊥
BindsNone (listen_tcp k count) = ⊥
BindsNone _ = Unit {0}

pub by_binding : (P : SocketsAct → Type 0) → ((k : ℕ) (at : Addr) → P (bind_udp k at)) → ((k : ℕ) (to : Addr) → P (connect_udp k to)) → ((k : ℕ) (bytes : List ℕ) (to : Option Addr) → P (send_udp k bytes to)) → ((k : ℕ) (at : Addr) → P (bind_tcp k at)) → ((k : ℕ) (count : ℤ) → P (listen_tcp k count)) → ((act : SocketsAct) → BindsNone act → P act) → (act : SocketsAct) → P act
by_binding P bu cu su bt lt others (bind_udp k at) = bu k at
by_binding P bu cu su bt lt others (connect_udp k to) = cu k to
by_binding P bu cu su bt lt others (send_udp k bytes to) = su k bytes to
by_binding P bu cu su bt lt others (bind_tcp k at) = bt k at
by_binding P bu cu su bt lt others (listen_tcp k count) = lt k count
by_binding P bu cu su bt lt others make_udp = others make_udp tt
by_binding P bu cu su bt lt others (recv_udp k count) = others (recv_udp k count) tt
by_binding P bu cu su bt lt others (close_udp k) = others (close_udp k) tt
by_binding P bu cu su bt lt others make_tcp = others make_tcp tt
by_binding P bu cu su bt lt others (accept_tcp k) = others (accept_tcp k) tt
by_binding P bu cu su bt lt others (connect_tcp k to) = others (connect_tcp k to) tt
by_binding P bu cu su bt lt others (connect_again k) = others (connect_again k) tt
by_binding P bu cu su bt lt others (send_tcp k bytes to quiet) = others (send_tcp k bytes to quiet) tt
by_binding P bu cu su bt lt others (recv_tcp k count) = others (recv_tcp k count) tt
by_binding P bu cu su bt lt others (shut_tcp k how) = others (shut_tcp k how) tt
by_binding P bu cu su bt lt others (take_error k) = others (take_error k) tt
by_binding P bu cu su bt lt others (close_tcp k) = others (close_tcp k) tt
by_binding P bu cu su bt lt others (arrival p) = others (arrival p) tt
by_binding P bu cu su bt lt others (alarm k serial) = others (alarm k serial) tt
by_binding P bu cu su bt lt others (elsewhere w) = others (elsewhere w) tt

pub acted_kept : (hosts : List Ip) (now : Time) (act : SocketsAct) (t : SocketsRecord) (w : Wanted) → BindsNone act → Kept t (sockets_acted hosts now act t w).0
unfolding connects_taking connect_answers sends_taking receives_taking shuts_tcp takes_error
acted_kept hosts now make_udp t w b = makes_kept t
acted_kept hosts now (bind_udp k at) t w b = absurd b
acted_kept hosts now (connect_udp k to) t w b = absurd b
acted_kept hosts now (send_udp k bytes to) t w b = absurd b
acted_kept hosts now (recv_udp k count) t w b = receives_kept k count t
acted_kept hosts now (close_udp k) t w b = closes_udp_kept k t
acted_kept hosts now make_tcp t w b = put_kept (fresh true) t refl
acted_kept hosts now (bind_tcp k at) t w b = absurd b
acted_kept hosts now (listen_tcp k count) t w b = absurd b
acted_kept hosts now (accept_tcp k) t w b = accepts_row k t
acted_kept hosts now (connect_tcp k to) t w b = left_kept (connects_taking hosts now k to t w) t w (taking_keeps now k (connects hosts now k to t w) t w (connects_keeps hosts now k to t w))
acted_kept hosts now (connect_again k) t w b = left_kept (connect_answers now k t w) t w (taking_keeps now k (without_change t w (connect_waited k t)) t w (unchanged_keeps t w (connect_waited k t)))
acted_kept hosts now (send_tcp k bytes to quiet) t w b = left_kept (sends_taking hosts now k bytes to quiet t w) t w (taking_keeps now k (sends_bytes hosts now k bytes to quiet t w) t w (sends_keeps hosts now k bytes to quiet t w))
acted_kept hosts now (recv_tcp k count) t w b = left_kept (receives_taking now k count t w) t w (taking_keeps now k (receives_bytes now k count t w) t w (receives_keeps now k count t w))
acted_kept hosts now (shut_tcp k how) t w b = left_kept (shuts_tcp now k how t w) t w (then_keeps (may_shut k t) tt _ t (acts_kept k (record_acts now k (λ r. shuts how (begin r))) (λ s v. record_as now k _ s v) t w))
acted_kept hosts now (take_error k) t w b = left_kept (takes_error now k t w) t w (error_keeps now k t w (error_asked k t))
acted_kept hosts now (close_tcp k) t w b = closes_kept now k t w
acted_kept hosts now (arrival p) t w b = arrives_kept p.load now p t w
acted_kept hosts now (alarm k serial) t w b = alarm_kept now k serial t w
acted_kept hosts now (elsewhere after) t w b = kept_all t

-- each act
acted_apart : (hosts : List Ip) (now : Time) (act : SocketsAct) (t : SocketsRecord) (w : Wanted) → BoundApart t → BoundApart (sockets_acted hosts now act t w).0
acted_apart hosts now act t w h =
    by_binding (λ x. BoundApart (sockets_acted hosts now x t w).0)
    (λ k at. binds_apart hosts k at t h) (λ k to. connects_apart hosts k to t h) (λ k bytes to. sends_apart hosts k bytes to t h)
    (λ k at. binds_row k at t h) (λ k count. listens_row k count t h)
    (λ x none. apart_kept t _ h (acted_kept hosts now x t w none)) act

apart_after : (hosts : List Ip) (acts : List (Time × SocketsAct)) (t : SocketsRecord) (w : Wanted) → BoundApart t → BoundApart (sockets_after hosts acts (t, w)).0
apart_after hosts [] t w h = h
apart_after hosts ((now, act) ∷ acts) t w h =
    let after = sockets_acted hosts now act t w in
    apart_after hosts acts after.0 after.1 (acted_apart hosts now act t w h)

pub bound_apart : (hosts : List Ip) (own : Ip) (draws : List ℕ) (acts : List (Time × SocketsAct)) → BoundApart (sockets_of hosts own draws acts)
bound_apart hosts own draws acts =
    apart_after hosts acts (no_sockets own) (nothing_wanted draws)
    (record { tcp = λ i j a b ne ei ej. cc; udp = λ i j a b ne ei ej. cc })
