-- whatever happens, at most one listener listens to an end
use Rattle.std.proofs.Common.{◌≡◌, ◌≢◌, ℕ, List, [], ◌∷◌, length, Bool, true, Option, Some, None, Result, Ok, Err, position, slice_get, ◌⊎◌, inl, inr, refl, sym, ap, ◌∙◌, arith}
use Rattle.std.specs.Prelude.{ℤ}
use Rattle.std.proofs.lemmas.Bool.{cases_eq, false≢true}
use Rattle.std.proofs.lemmas.Bool.Decides.{nat_tests}
use Rattle.sim_base.specs.declared.address.Ip.{Ip}
use Rattle.sim_base.specs.declared.address.Addr.{Addr}
use Rattle.sim_base.specs.declared.errno.Errno.{Errno}
use Rattle.sim_base.specs.declared.packet.Load.{Load}
use Rattle.sim_base.specs.declared.packet.Load.TheVariants.{Udp, Tcp}
use Rattle.sim_base.specs.declared.packet.Packet.{Packet}
use Rattle.sim_base.specs.declared.time.Time.{Time}
use Rattle.sim_base.specs.Addresses.{meets}
use Rattle.sim_base.specs.Refusals.{◌>>=◌, ◌>>◌, or_refuse}
use Rattle.sock_udp.specs.Socket.{UdpState}
use Rattle.sock_tcp.specs.connection.Begin.{begin}
use Rattle.sock_tcp.specs.connection.Process.{shuts}
use Rattle.sock_tcp.specs.connection.Tcb.{Tcb}
use Rattle.sock_tcp.specs.listener.Listen.{Listen, listens_at}
use Rattle.host_wants.specs.declared.error.Refusal.{Refusal}
use Rattle.host_wants.specs.declared.error.Refusal.TheVariants as refusal
use Rattle.host_wants.specs.Wanted.{Wanted, nothing_wanted}
use Rattle.host_sockets.specs.TcpSocket.{TcpSocket, fresh, with_bound, has_record, listens_in, listens_to}
use Rattle.host_sockets.specs.Sockets.{SocketsRecord, no_sockets, changes_at}
use Rattle.host_sockets.specs.TcpActs.{acts_at, record_acts}
use Rattle.host_sockets.specs.Udp.{udp_acts, acted_udp, udp_in, with_udp, binds_udp, connects_udp, sends_udp, receives_udp, new_udp, closes_udp}
use Rattle.host_sockets.specs.Binding.{bind_asked, binds_tcp, listen_asked, listening, listens_tcp}
use Rattle.host_sockets.specs.Accepting.{accept_asked, accepts_at, accepts_tcp, given_up, placed}
use Rattle.host_sockets.specs.Connecting.{connect_asked, connects, opens, error_takes, taking, without_change, connect_waited, connects_taking, connect_answers}
use Rattle.host_sockets.specs.Moving.{sends_bytes, send_asked, takes_written, sends_taking, receives_bytes, recv_asked, gives_read, receives_taking, may_shut, shuts_tcp}
use Rattle.host_sockets.specs.Names.{error_asked, takes_error}
use Rattle.host_sockets.specs.Arriving.{takes_in, datagram_in, datagram_at, datagram_arrives, hearer, listener_hears, record_takes, heard_at, segment_at, segment_arrives, arrives_by}
use Rattle.socket_laws.specs.Apart.{end_of, AreApart, tcp_end}
use Rattle.socket_laws.specs.Histories.{SocketsAct, left_by, sockets_acted, sockets_after, sockets_of, make_udp, bind_udp, connect_udp, send_udp, recv_udp, close_udp, make_tcp, bind_tcp, listen_tcp, accept_tcp, connect_tcp, connect_again, send_tcp, recv_tcp, shut_tcp, take_error, close_tcp, arrival, alarm, elsewhere}
use Rattle.socket_laws.proofs.ApartActs.{bound_apart}
use Rattle.socket_laws.proofs.ListenEnds.{AllListen, put_all, acts_all, record_bound, opens_bound, hears_bound, alarm_all, closes_all, bound_all, listens_all, accepted_all}

abbrev Listening : SocketsRecord → Type 0
Listening t = AllListen t.tcp

-- a row that is made leaves it so
abbrev RowListens : {A : Type 0} → Result (A × (SocketsRecord × Wanted)) Refusal → Type 0
RowListens (Ok (a, after)) = Listening after.0
RowListens (Err why) = Unit {0}

left_listens : {A : Type 0} (row : Result (A × (SocketsRecord × Wanted)) Refusal) (t : SocketsRecord) (w : Wanted) → Listening t → RowListens row → Listening (left_by row (t, w)).0
left_listens (Ok (a, after)) t w h r = r
left_listens (Err why) t w h r = h

then_listens : {A : Type 0} (asked : Result (Unit {0}) Refusal) (a : A) (after : SocketsRecord × Wanted) → Listening after.0 → RowListens (asked >> Ok (a, after))
then_listens (Ok u) a after h = h
then_listens (Err why) a after h = tt

taking_listens : {A : Type 0} (now : Time) (k : ℕ) (row : Result (A × (SocketsRecord × Wanted)) Refusal) (t : SocketsRecord) (w : Wanted) → Listening t → RowListens row → RowListens (taking now k row t w)
taking_listens now k (Ok (a, after)) t w h r = r
taking_listens now k (Err (refusal.Kept errno)) t w h r = acts_all k (error_takes now k) (record_bound now k _) t w h
taking_listens now k (Err (refusal.Errno errno)) t w h r = tt
taking_listens now k (Err (refusal.Wait until)) t w h r = tt
taking_listens now k (Err (refusal.End state)) t w h r = tt

opened_listens : (now : Time) (k : ℕ) (to : Addr) (t : SocketsRecord) (w : Wanted) (asked : Result Addr Refusal) → Listening t → RowListens (asked >>= λ own. Ok (tt {0}, acts_at k (opens now k own to) t w))
opened_listens now k to t w (Ok own) h = acts_all k (opens now k own to) (opens_bound now k own to) t w h
opened_listens now k to t w (Err why) h = tt

connects_listens : (hosts : List Ip) (now : Time) (k : ℕ) (to : Addr) (t : SocketsRecord) (w : Wanted) → Listening t → RowListens (connects hosts now k to t w)
unfolding connects
connects_listens hosts now k to t w h = opened_listens now k to t w (connect_asked hosts k to t) h

unchanged_listens : {A : Type 0} (t : SocketsRecord) (w : Wanted) (row : Result A Refusal) → Listening t → RowListens (without_change t w row)
unchanged_listens t w (Ok a) h = h
unchanged_listens t w (Err why) h = tt

error_listens : (now : Time) (k : ℕ) (t : SocketsRecord) (w : Wanted) (asked : Result (Option Errno) Refusal) → Listening t → RowListens (asked >>= λ error. Ok (error, acts_at k (error_takes now k) t w))
error_listens now k t w (Ok error) h = acts_all k (error_takes now k) (record_bound now k _) t w h
error_listens now k t w (Err why) h = tt

sends_listens : (hosts : List Ip) (now : Time) (k : ℕ) (bytes : List ℕ) (to : Option Addr) (quiet : Bool) (t : SocketsRecord) (w : Wanted) → Listening t → RowListens (sends_bytes hosts now k bytes to quiet t w)
sends_listens hosts now k bytes to quiet t w h =
    then_listens (send_asked hosts k (length bytes) to quiet t) _ (acts_at k (takes_written now k bytes) t w) (acts_all k (takes_written now k bytes) (record_bound now k _) t w h)

receives_listens : (now : Time) (k count : ℕ) (t : SocketsRecord) (w : Wanted) → Listening t → RowListens (receives_bytes now k count t w)
receives_listens now k count t w h =
    then_listens (recv_asked k t) _ (acts_at k (gives_read now k count) t w) (acts_all k (gives_read now k count) (record_bound now k _) t w h)

-- calls that want nothing
bound_row : (k : ℕ) (at : Addr) (t : SocketsRecord) (asked : Result Addr Refusal) → Listening t → bind_asked k at t ≡ asked → Listening (left_by (asked >>= λ end. Ok (tt {0}, changes_at k (with_bound end) t)) t)
bound_row k at t (Ok end) h e = bound_all k at end t h e
bound_row k at t (Err why) h e = h

binds_row : (k : ℕ) (at : Addr) (t : SocketsRecord) → Listening t → Listening (left_by (binds_tcp k at t) t)
unfolding binds_tcp
binds_row k at t h = bound_row k at t (bind_asked k at t) h refl

listening_row : (k : ℕ) (count : ℤ) (t : SocketsRecord) (asked : Result Addr Refusal) → Listening t → listen_asked k t ≡ asked → Listening (left_by (asked >>= λ at. Ok (tt {0}, changes_at k (listening at count) t)) t)
listening_row k count t (Ok at) h e = listens_all k at count t h e
listening_row k count t (Err why) h e = h

listens_row : (k : ℕ) (count : ℤ) (t : SocketsRecord) → Listening t → Listening (left_by (listens_tcp k count t) t)
unfolding listens_tcp
listens_row k count t h = listening_row k count t (listen_asked k t) h refl

accepted_row : (k : ℕ) (t : SocketsRecord) (asked : Result (Unit {0}) Refusal) (o : Option (Tcb × Listen)) → accepts_at k t ≡ o → Listening t → Listening (left_by (asked >> (or_refuse o (refusal.Wait None) >>= λ (r, rest). Ok (placed r (changes_at k (given_up r rest) t)))) t)
accepted_row k t (Ok u) (Some (r, rest)) e h = accepted_all r rest k t h e
accepted_row k t (Ok u) None e h = h
accepted_row k t (Err why) o e h = h

accepts_row : (k : ℕ) (t : SocketsRecord) → Listening t → Listening (left_by (accepts_tcp k t) t)
unfolding accepts_tcp
accepts_row k t h = accepted_row k t (accept_asked k t) (accepts_at k t) refl h

-- calls on UDP sockets leave those of TCP
after_udp : {A : Type 0} (k : ℕ) (t : SocketsRecord) (u : UdpState) (r : Result (A × UdpState) Refusal) → Listening t → Listening (left_by (r >>= λ (answer, after). Ok (answer, with_udp k u after t)) t)
after_udp k t u (Ok (a, after)) h = h
after_udp k t u (Err why) h = h

udp_there : {A : Type 0} (k : ℕ) (t : SocketsRecord) (act : UdpState → Result (A × UdpState) Refusal) (o : Option UdpState) → Listening t → Listening (left_by (acted_udp act k o t) t)
udp_there k t act None h = h
udp_there k t act (Some u) h = after_udp k t u (act u) h

udp_row : {A : Type 0} (k : ℕ) (t : SocketsRecord) (act : UdpState → Result (A × UdpState) Refusal) → Listening t → Listening (left_by (udp_acts act k t) t)
udp_row k t act h = udp_there k t act (udp_in k t) h

-- what arrives
heard_listens : (now : Time) (p : Packet) (o : Option ℕ) (t : SocketsRecord) (w : Wanted) → Listening t → Listening (heard_at now p o t w).1.0
heard_listens now p None t w h = h
heard_listens now p (Some k) t w h = acts_all k (listener_hears now p k) (hears_bound now p k) t w h

segment_listens : (now : Time) (p : Packet) (o : Option ℕ) (t : SocketsRecord) (w : Wanted) → Listening t → Listening (segment_at now p o t w).1.0
segment_listens now p None t w h = heard_listens now p (hearer p t) t w h
segment_listens now p (Some k) t w h = acts_all k (record_takes now p k) (record_bound now k _) t w h

segments_listen : (now : Time) (p : Packet) (t : SocketsRecord) (w : Wanted) → Listening t → Listening (segment_arrives now p t w).1.0
unfolding segment_arrives
segments_listen now p t w h = segment_listens now p (position (has_record p.to p.from) t.tcp) t w h

in_listens : (from : Addr) (bytes : List ℕ) (k : ℕ) (o : Option UdpState) (t : SocketsRecord) → Listening t → Listening (datagram_in from bytes k o t).1
in_listens from bytes k None t h = h
in_listens from bytes k (Some u) t h = h

at_listens : (from : Addr) (bytes : List ℕ) (o : Option ℕ) (t : SocketsRecord) → Listening t → Listening (datagram_at from bytes o t).1
at_listens from bytes None t h = h
at_listens from bytes (Some k) t h = in_listens from bytes k (udp_in k t) t h

datagram_listens : (from to : Addr) (bytes : List ℕ) (t : SocketsRecord) → Listening t → Listening (datagram_arrives from to bytes t).1
unfolding datagram_arrives
datagram_listens from to bytes t h = at_listens from bytes (position (takes_in from to) t.udp) t h

arrives_listen : (load : Load) (now : Time) (p : Packet) (t : SocketsRecord) (w : Wanted) → Listening t → Listening (arrives_by load now p t w).1.0
arrives_listen (Udp bytes) now p t w h = datagram_listens p.from p.to bytes t h
arrives_listen (Tcp flags seq ack window text) now p t w h = segments_listen now p t w h

-- each act
acted_listens : (hosts : List Ip) (now : Time) (act : SocketsAct) (t : SocketsRecord) (w : Wanted) → Listening t → Listening (sockets_acted hosts now act t w).0
unfolding connects_taking connect_answers sends_taking receives_taking shuts_tcp takes_error new_udp closes_udp binds_udp connects_udp sends_udp receives_udp
acted_listens hosts now make_udp t w h = h
acted_listens hosts now (bind_udp k at) t w h = udp_row k t _ h
acted_listens hosts now (connect_udp k to) t w h = udp_row k t _ h
acted_listens hosts now (send_udp k bytes to) t w h = udp_row k t _ h
acted_listens hosts now (recv_udp k count) t w h = udp_row k t _ h
acted_listens hosts now (close_udp k) t w h = h
acted_listens hosts now make_tcp t w h = put_all (fresh true) t h (λ l e. cc)
acted_listens hosts now (bind_tcp k at) t w h = binds_row k at t h
acted_listens hosts now (listen_tcp k count) t w h = listens_row k count t h
acted_listens hosts now (accept_tcp k) t w h = accepts_row k t h
acted_listens hosts now (connect_tcp k to) t w h = left_listens (connects_taking hosts now k to t w) t w h (taking_listens now k (connects hosts now k to t w) t w h (connects_listens hosts now k to t w h))
acted_listens hosts now (connect_again k) t w h = left_listens (connect_answers now k t w) t w h (taking_listens now k (without_change t w (connect_waited k t)) t w h (unchanged_listens t w (connect_waited k t) h))
acted_listens hosts now (send_tcp k bytes to quiet) t w h = left_listens (sends_taking hosts now k bytes to quiet t w) t w h (taking_listens now k (sends_bytes hosts now k bytes to quiet t w) t w h (sends_listens hosts now k bytes to quiet t w h))
acted_listens hosts now (recv_tcp k count) t w h = left_listens (receives_taking now k count t w) t w h (taking_listens now k (receives_bytes now k count t w) t w h (receives_listens now k count t w h))
acted_listens hosts now (shut_tcp k how) t w h = left_listens (shuts_tcp now k how t w) t w h (then_listens (may_shut k t) (tt {0}) _ (acts_all k (record_acts now k (λ r. shuts how (begin r))) (record_bound now k _) t w h))
acted_listens hosts now (take_error k) t w h = left_listens (takes_error now k t w) t w h (error_listens now k t w (error_asked k t) h)
acted_listens hosts now (close_tcp k) t w h = closes_all now k t w h
acted_listens hosts now (arrival p) t w h = arrives_listen p.load now p t w h
acted_listens hosts now (alarm k serial) t w h = alarm_all now k serial t w h
acted_listens hosts now (elsewhere after) t w h = h

listen_after : (hosts : List Ip) (acts : List (Time × SocketsAct)) (t : SocketsRecord) (w : Wanted) → Listening t → Listening (sockets_after hosts acts (t, w)).0
listen_after hosts [] t w h = h
listen_after hosts ((now, act) ∷ acts) t w h =
    let after = sockets_acted hosts now act t w in
    listen_after hosts acts after.0 after.1 (acted_listens hosts now act t w h)

listen_always : (hosts : List Ip) (own : Ip) (draws : List ℕ) (acts : List (Time × SocketsAct)) → Listening (sockets_of hosts own draws acts)
listen_always hosts own draws acts = listen_after hosts acts (no_sockets own) (nothing_wanted draws) (λ i s e. cc)

-- two ends that both listen to an end meet
both_meet : (a b to : Addr) → listens_at to a ≡ true → listens_at to b ≡ true → meets a b ≡ true
both_meet a b to p q = grind (arith, nat_tests)

listener_of : (o : Option Listen) (to : Addr) → listens_in to o ≡ true → (l : Listen) × ((o ≡ Some l) × (listens_at to l.local ≡ true))
listener_of None to e = absurd (false≢true e)
listener_of (Some l) to e = (l, (refl, e))

by_places : (socks : List TcpSocket) (to : Addr) (i j : ℕ) (a b : TcpSocket) → AreApart tcp_end socks → AllListen socks → slice_get socks i ≡ Some a → listens_to to a ≡ true → slice_get socks j ≡ Some b → listens_to to b ≡ true → (i ≡ j) ⊎ (i ≢ j) → i ≡ j
by_places socks to i j a b apart all there first other second (inl same) = same
by_places socks to i j a b apart all there first other second (inr ne) =
    let la = listener_of a.listen to first in
    let lb = listener_of b.listen to second in
    let meet = both_meet la.0.local lb.0.local to la.1.1 lb.1.1 in
    let differ = apart i j la.0.local lb.0.local ne (ap (end_of tcp_end) there ∙ all i a there la.0 la.1.0) (ap (end_of tcp_end) other ∙ all j b other lb.0 lb.1.0) in
    absurd (false≢true (sym differ ∙ meet))

pub one_listens : (hosts : List Ip) (own : Ip) (draws : List ℕ) (acts : List (Time × SocketsAct)) (to : Addr) (i j : ℕ) (a b : TcpSocket) → slice_get (sockets_of hosts own draws acts).tcp i ≡ Some a → listens_to to a ≡ true → slice_get (sockets_of hosts own draws acts).tcp j ≡ Some b → listens_to to b ≡ true → i ≡ j
one_listens hosts own draws acts to i j a b there first other second =
    by_places (sockets_of hosts own draws acts).tcp to i j a b (bound_apart hosts own draws acts).tcp (listen_always hosts own draws acts) there first other second (cases_eq i j)
