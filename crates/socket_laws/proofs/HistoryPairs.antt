-- over every history of a host's sockets two live records never have the same pair of ends
use Rattle.std.proofs.Common.{◌≡◌, ℕ, ◌+◌, ◌≤◌, ◌==◌, List, [], ◌∷◌, true, false, Option, Some, None, refl, sym, ap, ◌∙◌, arith}
use Rattle.std.specs.List.{position}
use Rattle.sim_base.specs.declared.address.Ip.{Ip}
use Rattle.sim_base.specs.declared.address.Addr.{Addr}
use Rattle.sim_base.specs.declared.packet.Load.{Load}
use Rattle.sim_base.specs.declared.packet.Load.TheVariants.{Udp, Tcp}
use Rattle.sim_base.specs.declared.packet.Packet.{Packet}
use Rattle.sim_base.specs.declared.time.Time.{Time}
use Rattle.sock_udp.specs.Socket.{UdpState}
use Rattle.sock_tcp.specs.segment.Refusal.{one_if}
use Rattle.sock_tcp.specs.connection.Begin.{begin}
use Rattle.sock_tcp.specs.connection.Arrival.{takes_packet}
use Rattle.sock_tcp.specs.connection.Process.{expires}
use Rattle.sock_tcp.specs.listener.Listen.{Listen, hears, hears_timer, is_kept}
use Rattle.tcp_laws.proofs.Tests.{by_test}
use Rattle.host_sockets.specs.declared.tcp_sock.KeptTimer.{KeptTimer}
use Rattle.host_wants.specs.Wanted.{Wanted, draws_word, nothing_wanted}
use Rattle.host_sockets.specs.TcpSocket.{TcpSocket, has_record, keeps_record, keeps_record_in}
use Rattle.host_sockets.specs.Sockets.{SocketsRecord, no_sockets}
use Rattle.host_sockets.specs.TcpActs.{Acted, acts_at}
use Rattle.sock_tcp.specs.listener.Dropped.{dropped}
use Rattle.host_sockets.specs.Udp.{udp_in, new_udp, binds_udp, connects_udp, sends_udp, receives_udp, closes_udp}
use Rattle.host_sockets.specs.Arriving.{takes_in, datagram_in, datagram_at, datagram_arrives, word_drawn, hears_in, listener_hears, asked_listener, or_place, heard_at, segment_at, segment_arrives, arrives_by}
use Rattle.host_sockets.specs.Alarms.{kept_timer, kept_expires, timer_expires, socket_expires, alarm_comes}
use Rattle.socket_laws.specs.Pairs.{kept_in, live_of, live_records}
use Rattle.socket_laws.specs.Histories.{SocketsAct, sockets_acted, sockets_after, sockets_of}
use Rattle.socket_laws.specs.Histories.SocketsAct.{make_udp, bind_udp, connect_udp, send_udp, recv_udp, close_udp, make_tcp, bind_tcp, listen_tcp, accept_tcp, connect_tcp, connect_again, send_tcp, recv_tcp, shut_tcp, take_error, close_tcp, arrival, alarm, elsewhere}
use Rattle.socket_laws.proofs.Staying.{packet_stays, expiry_stays}
use Rattle.socket_laws.proofs.Sums.{none_sum_both, none_found, position_holds, at_most_one}
use Rattle.socket_laws.proofs.RecordPairs.{record_lowers, count, Matches, hears_count, timer_count, heard_live, none_live, matching}
use Rattle.socket_laws.proofs.LivePairs.{Single, connect_single, again_single, send_single, recv_single, shut_single, error_single, close_single, bind_single, listen_single, accept_single, udp_single, single_at, single_record, single_made, adds_at}

-- an alarm
timer_lowers : (own other : Addr) (now : Time) (k : ℕ) (timer : KeptTimer) (o : Option Listen) (s : TcpSocket) (w : Wanted) → s.listen ≡ o → live_of own other (kept_expires now k timer o s w).socket ≤ live_of own other s
timer_lowers own other now k timer None s w e = omega arith
timer_lowers own other now k timer (Some l) s w e =
    let a = heard_live own other now k timer.own timer.other (hears_timer timer.own timer.other l) (dropped expires timer.own timer.other l) s w in
    let b = timer_count own other timer.own timer.other l in
    let at : kept_in own other s.listen ≡ count own other l = ap (kept_in own other) e in
    omega (arith, a, b, at)

kept_lowers : (own other : Addr) (now : Time) (k : ℕ) (o : Option KeptTimer) (s : TcpSocket) (w : Wanted) → live_of own other (timer_expires now k o s w).socket ≤ live_of own other s
kept_lowers own other now k None s w = omega arith
kept_lowers own other now k (Some timer) s w = timer_lowers own other now k timer s.listen s w refl

alarm_lowers : (own other : Addr) (now : Time) (k serial : ℕ) (s : TcpSocket) (w : Wanted) → live_of own other (socket_expires now k serial s w).socket ≤ live_of own other s
alarm_lowers own other now k serial s w =
    by_test (λ (a : Acted). live_of own other a.socket ≤ live_of own other s) (s.serial == serial) _ _
    (λ e. record_lowers own other now k (λ r. expires (begin r)) s w expiry_stays)
    (λ e. kept_lowers own other now k (kept_timer serial s.timers) s w)

alarm_single : (own other : Addr) (now : Time) (k serial : ℕ) (t : SocketsRecord) (w : Wanted) → Single own other t → Single own other (alarm_comes now k serial t w).0
unfolding alarm_comes
alarm_single own other now k serial t w h =
    single_at own other k (socket_expires now k serial) t w (λ s. alarm_lowers own other now k serial s w) h

-- a segment at a listener
hears_adds : (own other : Addr) (now : Time) (p : Packet) (k : ℕ) (o : Option Listen) (s : TcpSocket) (w : Wanted) (n : ℕ) → s.listen ≡ o → ((l : Listen) → o ≡ Some l → is_kept p.to p.from l ≡ false → one_if (Matches p own other) ≤ n) → live_of own other (hears_in now p k o s w).socket ≤ live_of own other s + n
hears_adds own other now p k None s w n e fits = omega arith
hears_adds own other now p k (Some l) s w n e fits =
    let word = (draws_word w).0 in
    let a = heard_live own other now k p.to p.from (hears p word l) (dropped (takes_packet p) p.to p.from l) s (word_drawn p l w) in
    let b = hears_count own other p word l n (fits l refl) in
    let at : kept_in own other s.listen ≡ count own other l = ap (kept_in own other) e in
    omega (arith, a, b, at)

-- one that keeps the record of its ends
keeper_keeps : (own other : Addr) (o : Option Listen) (l : Listen) → o ≡ Some l → keeps_record_in own other o ≡ true → is_kept own other l ≡ true
keeper_keeps own other o l e k = ap (keeps_record_in own other) (sym e) ∙ k

keeper_single : (own other : Addr) (now : Time) (p : Packet) (k : ℕ) (t : SocketsRecord) (w : Wanted) → position (keeps_record p.to p.from) t.tcp ≡ Some k → Single own other t → Single own other (acts_at k (listener_hears now p k) t w).0
keeper_single own other now p k t w found h =
    let all = adds_at own other k (listener_hears now p k) t w 0
    (λ s at.
    let keeps : keeps_record_in p.to p.from s.listen ≡ true = position_holds (keeps_record p.to p.from) t.tcp k s found at in
    hears_adds own other now p k s.listen s w 0 refl (λ l e none. let kept = keeper_keeps p.to p.from s.listen l e keeps in cc)) in
    omega (arith, all, h)

-- one that is asked for a connection, where no record of the host has the two ends
nobody_has : (p : Packet) (t : SocketsRecord) → position (has_record p.to p.from) t.tcp ≡ None → position (keeps_record p.to p.from) t.tcp ≡ None → live_records p.to p.from t ≡ 0
nobody_has p t e g =
    none_sum_both (live_of p.to p.from) (has_record p.to p.from) (keeps_record p.to p.from) (none_live p.to p.from) t.tcp
    (none_found (has_record p.to p.from) t.tcp e) (none_found (keeps_record p.to p.from) t.tcp g)

asked_single : (own other : Addr) (now : Time) (p : Packet) (k : ℕ) (t : SocketsRecord) (w : Wanted) → live_records p.to p.from t ≡ 0 → Single own other t → Single own other (acts_at k (listener_hears now p k) t w).0
asked_single own other now p k t w none h =
    at_most_one (live_records own other t) (live_records own other (acts_at k (listener_hears now p k) t w).0) (Matches p own other)
    (adds_at own other k (listener_hears now p k) t w (one_if (Matches p own other)) (λ s at. hears_adds own other now p k s.listen s w (one_if (Matches p own other)) refl (λ l e kept. omega arith)))
    h
    (λ m.
    let ends = matching p.to p.from own other m in
    ap (λ (x : Addr). live_records x other t) (sym ends.0) ∙ (ap (λ (x : Addr). live_records p.to x t) (sym ends.1) ∙ none))

heard_single : (own other : Addr) (now : Time) (p : Packet) (o : Option ℕ) (t : SocketsRecord) (w : Wanted) → live_records p.to p.from t ≡ 0 → Single own other t → Single own other (heard_at now p o t w).1.0
heard_single own other now p None t w none h = h
heard_single own other now p (Some k) t w none h = asked_single own other now p k t w none h

unmatched_single : (own other : Addr) (now : Time) (p : Packet) (o : Option ℕ) (t : SocketsRecord) (w : Wanted) → o ≡ position (keeps_record p.to p.from) t.tcp → position (has_record p.to p.from) t.tcp ≡ None → Single own other t → Single own other (heard_at now p (or_place o (asked_listener p t)) t w).1.0
unmatched_single own other now p None t w found none h = heard_single own other now p (asked_listener p t) t w (nobody_has p t none (sym found)) h
unmatched_single own other now p (Some k) t w found none h = keeper_single own other now p k t w (sym found) h

segment_single_at : (own other : Addr) (now : Time) (p : Packet) (o : Option ℕ) (t : SocketsRecord) (w : Wanted) → o ≡ position (has_record p.to p.from) t.tcp → Single own other t → Single own other (segment_at now p o t w).1.0
segment_single_at own other now p None t w found h = unmatched_single own other now p (position (keeps_record p.to p.from) t.tcp) t w refl (sym found) h
segment_single_at own other now p (Some k) t w found h = single_record own other now k (λ r. takes_packet p (begin r)) t w (packet_stays p) h

segment_single : (own other : Addr) (now : Time) (p : Packet) (t : SocketsRecord) (w : Wanted) → Single own other t → Single own other (segment_arrives now p t w).1.0
unfolding segment_arrives
segment_single own other now p t w h = segment_single_at own other now p (position (has_record p.to p.from) t.tcp) t w refl h

-- a datagram
slot_single : (own other from : Addr) (bytes : List ℕ) (k : ℕ) (o : Option UdpState) (t : SocketsRecord) → Single own other t → Single own other (datagram_in from bytes k o t).1
slot_single own other from bytes k None t h = h
slot_single own other from bytes k (Some u) t h = h

taker_single : (own other from : Addr) (bytes : List ℕ) (o : Option ℕ) (t : SocketsRecord) → Single own other t → Single own other (datagram_at from bytes o t).1
taker_single own other from bytes None t h = h
taker_single own other from bytes (Some k) t h = slot_single own other from bytes k (udp_in k t) t h

datagram_single : (own other from to : Addr) (bytes : List ℕ) (t : SocketsRecord) → Single own other t → Single own other (datagram_arrives from to bytes t).1
unfolding datagram_arrives
datagram_single own other from to bytes t h = taker_single own other from bytes (position (takes_in from to) t.udp) t h

load_single : (own other : Addr) (load : Load) (now : Time) (p : Packet) (t : SocketsRecord) (w : Wanted) → Single own other t → Single own other (arrives_by load now p t w).1.0
load_single own other (Udp bytes) now p t w h = datagram_single own other p.from p.to bytes t h
load_single own other (Tcp flags seq ack window text) now p t w h = segment_single own other now p t w h

-- every act
acted_single : (own other : Addr) (hosts : List Ip) (now : Time) (act : SocketsAct) (t : SocketsRecord) (w : Wanted) → Single own other t → Single own other (sockets_acted hosts now act t w).0
unfolding new_udp binds_udp connects_udp sends_udp receives_udp closes_udp
acted_single own other hosts now make_udp t w h = h
acted_single own other hosts now (bind_udp k at) t w h = udp_single own other _ k (udp_in k t) t h
acted_single own other hosts now (connect_udp k to) t w h = udp_single own other _ k (udp_in k t) t h
acted_single own other hosts now (send_udp k bytes to) t w h = udp_single own other _ k (udp_in k t) t h
acted_single own other hosts now (recv_udp k n) t w h = udp_single own other _ k (udp_in k t) t h
acted_single own other hosts now (close_udp k) t w h = h
acted_single own other hosts now make_tcp t w h = single_made own other t h
acted_single own other hosts now (bind_tcp k at) t w h = bind_single own other k at t h
acted_single own other hosts now (listen_tcp k n) t w h = listen_single own other k n t h
acted_single own other hosts now (accept_tcp k) t w h = accept_single own other k t h
acted_single own other hosts now (connect_tcp k to) t w h = connect_single own other hosts now k to t w h
acted_single own other hosts now (connect_again k) t w h = again_single own other now k t w h
acted_single own other hosts now (send_tcp k bytes to quiet) t w h = send_single own other hosts now k bytes to quiet t w h
acted_single own other hosts now (recv_tcp k n) t w h = recv_single own other now k n t w h
acted_single own other hosts now (shut_tcp k how) t w h = shut_single own other now k how t w h
acted_single own other hosts now (take_error k) t w h = error_single own other now k t w h
acted_single own other hosts now (close_tcp k) t w h = close_single own other now k t w h
acted_single own other hosts now (arrival p) t w h = load_single own other p.load now p t w h
acted_single own other hosts now (alarm k serial) t w h = alarm_single own other now k serial t w h
acted_single own other hosts now (elsewhere after) t w h = h

after_single : (own other : Addr) (hosts : List Ip) (acts : List (Time × SocketsAct)) (t : SocketsRecord) (w : Wanted) → Single own other t → Single own other (sockets_after hosts acts (t, w)).0
after_single own other hosts [] t w h = h
after_single own other hosts ((now, act) ∷ acts) t w h =
    let after = sockets_acted hosts now act t w in
    after_single own other hosts acts after.0 after.1 (acted_single own other hosts now act t w h)

pub history_single : (own other : Addr) (hosts : List Ip) (host : Ip) (draws : List ℕ) (acts : List (Time × SocketsAct)) → live_records own other (sockets_of hosts host draws acts) ≤ 1
history_single own other hosts host draws acts =
    after_single own other hosts acts (no_sockets host) (nothing_wanted draws) (omega arith)
