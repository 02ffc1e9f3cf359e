-- what holds of the two ends of each record that is opened, and of the ends of each packet that comes, holds of all records, and of
-- the ends of all that they send
use Rattle.std.proofs.Common.{◌≡◌, inl, inr, ℕ, ℤ, zero, suc, ◌%◌, ◌^◌, ◌==◌, ◌&&◌, not, nat_lt, List, [], ◌∷◌, ◌++◌, length, flat_map, set, Bool, true, false, Contains, Option, Some, None, unwrap_or, slice_get, Result, Ok, Err, refl, sym, ap, subst}
use Rattle.std.specs.List.{AllByRecursion, remove}
use Rattle.sim_base.specs.Refusals.{◌>>=◌, ◌>>◌, or_refuse}
use Rattle.sim_base.specs.declared.address.Ip.{Ip}
use Rattle.sim_base.specs.declared.address.Addr.{Addr}
use Rattle.sim_base.specs.declared.packet.Load.{Load}
use Rattle.sim_base.specs.declared.packet.Load.TheVariants.{Udp, Tcp}
use Rattle.sim_base.specs.declared.packet.Packet.{Packet}
use Rattle.sim_base.specs.declared.time.Time.{Time}
use Rattle.sock_udp.specs.Socket.{UdpState}
use Rattle.sock_tcp.specs.declared.connection.effects.Shut.{Shut}
use Rattle.sock_tcp.specs.declared.segment.header.Header.{Header}
use Rattle.sock_tcp.specs.segment.State.{is_over}
use Rattle.sock_tcp.specs.connection.Arrival.{takes_packet}
use Rattle.sock_tcp.specs.connection.Begin.{begin}
use Rattle.sock_tcp.specs.connection.Pairs.{place_in}
use Rattle.sock_tcp.specs.connection.Tcb.{Tcb, Turn, changed}
use Rattle.sock_tcp.specs.connection.Timer.{timer_of}
use Rattle.sock_tcp.specs.connection.Process.{opened, answered, writes, reads, flows, shuts, closes, expires, error_taken}
use Rattle.sock_tcp.specs.listener.Listen as listener
use Rattle.sock_tcp.specs.listener.Listen.{Listen, Heard, fresh_listen, without, replaced, requeued, nothing_heard, kept_acts, record_made, makes_record, asked, load_header, new_heard, takes_word, hears, hears_timer, hears_close, accepted_at, accepted_from, accepts}
use Rattle.sock_tcp.specs.listener.Dropped.{dropped_by, dropped}
use Rattle.tcp_laws.proofs.Tests.{by_test}
use Rattle.tcp_streams.proofs.Members.{IsIn, IsIn_from_Contains, Contains_here, Contains_there}
use Rattle.host_fds.specs.declared.rises.Rises.{Rises}
use Rattle.host_wants.specs.declared.error.Refusal.{Refusal}
use Rattle.host_wants.specs.declared.error.Refusal.TheVariants as refusal
use Rattle.host_sockets.specs.declared.tcp_sock.KeptTimer.{KeptTimer}
use Rattle.host_wants.specs.Wanted.{Wanted, draws_word, nothing_wanted, sends}
use Rattle.host_sockets.specs.TcpSocket.{TcpSocket, fresh, with_bound, with_tcb}
use Rattle.host_sockets.specs.Sockets.{SocketsRecord, no_sockets, changes_in, changes_at, tcp_place, put_tcp}
use Rattle.host_sockets.specs.TcpActs.{Acted, is_let_go, starts, turned, turned_in, record_acts, acts_in, acts_at}
use Rattle.host_sockets.specs.Udp.{udp_in, with_udp, acted_udp, new_udp, binds_udp, connects_udp, sends_udp, receives_udp, closes_udp}
use Rattle.host_sockets.specs.Binding.{bind_asked, binds_tcp, listen_to, listening, listen_asked, listens_tcp}
use Rattle.host_sockets.specs.Accepting.{accept_asked, accepts_in, accepts_of, accepts_at, given_up, accepted, placed, accepts_tcp}
use Rattle.host_sockets.specs.Connecting.{connect_asked, opens, connects, error_takes, connect_waited, without_change, connects_taking, connect_answers}
use Rattle.host_sockets.specs.Moving.{send_asked, takes_written, sends_taking, recv_asked, gives_read, receives_taking, may_shut, shuts_tcp}
use Rattle.host_sockets.specs.Names.{error_asked, takes_error}
use Rattle.host_sockets.specs.Closing.{unheld, closes_in, closed, closes_tcp}
use Rattle.host_sockets.specs.Arriving.{hears_in, listener_hears, hearer, refusal_sent, heard_at, segment_at, segment_arrives, datagram_in, datagram_at, datagram_arrives, arrives_by, word_drawn}
use Rattle.host_sockets.specs.Alarms.{kept_timer, kept_expires, timer_expires, socket_expires, alarm_comes}
use Rattle.host_sockets.specs.ListenerActs.{timer_starts, heard}
use Rattle.host_sockets.specs.Records.{own_record, kept_records, records_at, records_of}
use Rattle.socket_laws.specs.Histories.{SocketsAct, left_by, sockets_acted}
use Rattle.socket_laws.specs.Histories.SocketsAct.{make_udp, bind_udp, connect_udp, send_udp, recv_udp, close_udp, make_tcp, bind_tcp, listen_tcp, accept_tcp, connect_tcp, connect_again, send_tcp, recv_tcp, shut_tcp, take_error, close_tcp, arrival, alarm, elsewhere}
use Rattle.socket_streams.specs.Records.{packets_of}
use Rattle.socket_laws.proofs.LivePairs.{left_asked, left_after, left_told, Taken, taken_row, after_ok, change_ok, left_opens}
use Rattle.sim_base.specs.Packet.{rst_flag}
use Rattle.sock_tcp.specs.segment.Control.{without_ack}
use Rattle.sock_tcp.specs.segment.Header.{header_of}
use Rattle.sock_tcp.specs.segment.Number.{wire}
use Rattle.sock_tcp.specs.segment.Refusal.{sent_back, header_refusal, load_refusal, refusal_of}
use Rattle.sock_tcp.specs.connection.Resets.{reset_of, resets_of}
use Rattle.socket_streams.proofs.Wants.{sends_packets, starts_packets, timer_starts_packets}
use Rattle.socket_streams.proofs.Senders.{AllGo, Is, Sends, packet_sends, expiry_sends, write_sends, read_sends, shut_sends, close_sends, error_sends, opened_sends, answered_sends}

-- what a list of records keeps of some property of each
module _ {X : Type 0} (P : X → Type 0) where
  abbrev pub Each : List X → Type 0
  Each xs = AllByRecursion P xs

  each_append : (xs ys : List X) → Each xs → Each ys → Each (xs ++ ys)
  each_append [] ys h k = k
  each_append (x ∷ xs) ys h k = (h.0, each_append xs ys h.1 k)

  each_in : (xs : List X) (x : X) → Each xs → IsIn x xs → P x
  each_in [] x h k = absurd k
  each_in (y ∷ ys) x h (inl e) = subst P (sym e) h.0
  each_in (y ∷ ys) x h (inr k) = each_in ys x h.1 k

  pub each_member : (xs : List X) (x : X) → Each xs → Contains xs x → P x
  each_member xs x h c = each_in xs x h (IsIn_from_Contains x xs c)

  pub each_here : (xs : List X) → ((x : X) → Contains xs x → P x) → Each xs
  each_here [] f = tt
  each_here (x ∷ xs) f = (f x (Contains_here x xs), each_here xs (λ y c. f y (Contains_there x y xs c)))

  each_at : (xs : List X) (k : ℕ) (x : X) → Each xs → slice_get xs k ≡ Some x → P x
  each_at [] k x h e = cc
  each_at (y ∷ ys) zero x h e = let same : y ≡ x = cc in subst P same h.0
  each_at (y ∷ ys) (suc k) x h e = each_at ys k x h.1 e

  each_set : (xs : List X) (k : ℕ) (x : X) → Each xs → P x → Each (set xs k x)
  each_set [] k x h p = h
  each_set (y ∷ ys) zero x h p = (p, h.1)
  each_set (y ∷ ys) (suc k) x h p = (h.0, each_set ys k x h.1 p)

  each_remove : (xs : List X) (k : ℕ) → Each xs → Each (remove xs k)
  each_remove [] zero h = h
  each_remove [] (suc k) h = h
  each_remove (y ∷ ys) zero h = h.1
  each_remove (y ∷ ys) (suc k) h = (h.0, each_remove ys k h.1)

-- of the own end of a record and its peer, and of a packet whose ends are such
module _ (P : Addr → Addr → Type 0) (W : Packet → Type 0) (carries : (p : Packet) → P p.from p.to → W p) where
  abbrev pub Ended : Tcb → Type 0
  Ended r = P r.control.local r.control.peer

  abbrev pub AllEnded : List Tcb → Type 0
  AllEnded rs = AllByRecursion Ended rs

  -- a socket whose records have such ends, all sockets of a host, and what is wanted
  pub record Has (tcb : Option Tcb) (listen : Option Listen) : Type 0 where
    pub single : (r : Tcb) → tcb ≡ Some r → Ended r
    pub kept : (l : Listen) → listen ≡ Some l → AllEnded l.records

  abbrev pub HasEnds : TcpSocket → Type 0
  HasEnds s = Has s.tcb s.listen

  pub record AtEnds (t : SocketsRecord) : Type 0 where
    pub sockets : AllByRecursion HasEnds t.tcp
    pub gone : AllEnded t.gone

  abbrev pub Wants : Wanted → Type 0
  Wants w = AllByRecursion W (packets_of w)

  abbrev pub Fit : SocketsRecord × Wanted → Type 0
  Fit x = AtEnds x.0 × Wants x.1

  -- what an act leaves
  abbrev Leaves : Acted → Type 0
  Leaves a = HasEnds a.socket × (AllEnded a.gone × Wants a.wanted)

  fresh_ends : (held : Bool) → HasEnds (fresh held)
  fresh_ends held = record { single = λ r e. cc; kept = λ l e. cc }

  acts_fit_in : (k : ℕ) (act : TcpSocket → Wanted → Acted) (o : Option TcpSocket) (t : SocketsRecord) (w : Wanted) → slice_get t.tcp k ≡ o → Fit (t, w) → ((s : TcpSocket) → slice_get t.tcp k ≡ Some s → HasEnds s → Leaves (act s w)) → Fit (acts_in k act o t w)
  acts_fit_in k act None t w at h f = h
  acts_fit_in k act (Some s) t w at h f =
      let left = f s at (each_at HasEnds t.tcp k s h.0.sockets at) in
      let a = act s w in (
        record { sockets = each_set HasEnds t.tcp k a.socket h.0.sockets left.0; gone = each_append Ended t.gone a.gone h.0.gone left.1.0 },
        left.1.1,
      )

  acts_fit : (k : ℕ) (act : TcpSocket → Wanted → Acted) (t : SocketsRecord) (w : Wanted) → Fit (t, w) → ((s : TcpSocket) → slice_get t.tcp k ≡ Some s → HasEnds s → Leaves (act s w)) → Fit (acts_at k act t w)
  acts_fit k act t w h f = acts_fit_in k act (slice_get t.tcp k) t w refl h f

  changes_end_in : (k : ℕ) (f : TcpSocket → TcpSocket) (o : Option TcpSocket) (t : SocketsRecord) → slice_get t.tcp k ≡ o → AtEnds t → ((s : TcpSocket) → slice_get t.tcp k ≡ Some s → HasEnds s → HasEnds (f s)) → AtEnds (changes_in k f o t)
  changes_end_in k f None t at h keeps = h
  changes_end_in k f (Some s) t at h keeps =
      record { sockets = each_set HasEnds t.tcp k (f s) h.sockets (keeps s at (each_at HasEnds t.tcp k s h.sockets at)); gone = h.gone }

  changes_end : (k : ℕ) (f : TcpSocket → TcpSocket) (t : SocketsRecord) → AtEnds t → ((s : TcpSocket) → slice_get t.tcp k ≡ Some s → HasEnds s → HasEnds (f s)) → AtEnds (changes_at k f t)
  changes_end k f t h keeps = changes_end_in k f (slice_get t.tcp k) t refl h keeps

  put_end : (s : TcpSocket) (t : SocketsRecord) → HasEnds s → AtEnds t → AtEnds (put_tcp s t)
  put_end s t here h = record {
    sockets = by_test (λ (xs : List TcpSocket). AllByRecursion HasEnds xs) (nat_lt (tcp_place t) (length t.tcp)) (set t.tcp (tcp_place t) s) (t.tcp ++ s ∷ [])
        (λ e. each_set HasEnds t.tcp (tcp_place t) s h.sockets here)
        (λ e. each_append HasEnds t.tcp (s ∷ []) h.sockets (here, tt));
    gone = h.gone;
  }

  -- ---- packets

  -- segments of a record with such ends
  segments_carry : (own other : Addr) (sent : List Packet) → P own other → AllGo own other sent → AllByRecursion W sent
  segments_carry own other [] ends each = tt
  segments_carry own other (p ∷ sent) ends each = (
    carries p (subst (λ (a : Addr). P a p.to) (sym each.0.0) (subst (λ (b : Addr). P own b) (sym each.0.1) ends)),
    segments_carry own other sent ends each.1,
  )

  wants_more : (sent : List Packet) (w : Wanted) → AllByRecursion W sent → Wants w → Wants (sends sent w)
  wants_more sent w each h =
      subst (λ (xs : List Packet). AllByRecursion W xs) (sym (sends_packets sent w)) (each_append W (packets_of w) sent h each)

  starts_wants : (now : Time) (k : ℕ) (o : Option Time) (s : TcpSocket) (w : Wanted) → Wants w → Wants (starts now k o s w).1
  starts_wants now k o s w h = subst (λ (xs : List Packet). AllByRecursion W xs) (sym (starts_packets now k o s w)) h

  timer_wants : (now : Time) (k : ℕ) (a b : Addr) (o : Option Time) (timers : List KeptTimer) (w : Wanted) → Wants w → Wants (timer_starts now k a b o timers w).1
  timer_wants now k a b o timers w h = subst (λ (xs : List Packet). AllByRecursion W xs) (sym (timer_starts_packets now k a b o timers w)) h

  -- ---- the record of a socket

  stays_ended : (r : Tcb) (t : Turn) → Is r.control.local r.control.peer t → Ended r → Ended t.tcb
  stays_ended r t same h =
      subst (λ (a : Addr). P a t.tcb.control.peer) same.local (subst (λ (b : Addr). P r.control.local b) same.peer h)

  starts_ends : (now : Time) (k : ℕ) (o : Option Time) (s : TcpSocket) (w : Wanted) → HasEnds s → HasEnds (starts now k o s w).0
  starts_ends now k None s w h = h
  starts_ends now k (Some n) s w h = record { single = h.single; kept = h.kept }

  turned_fit : (now : Time) (k : ℕ) (t : Turn) (s : TcpSocket) (w : Wanted) → Ended t.tcb → AllByRecursion W t.sent → HasEnds s → Wants w → Leaves (turned now k t s w)
  unfolding turned
  turned_fit now k t s w here each h wants =
      let new : HasEnds (with_tcb t.tcb s) =
      record { single = λ r e. let same : t.tcb ≡ r = cc in subst Ended same here; kept = h.kept } in
      let started = starts now k (timer_of t) (with_tcb t.tcb s) (sends t.sent w) in
      let wanted : Wants started.1 = starts_wants now k (timer_of t) (with_tcb t.tcb s) (sends t.sent w) (wants_more t.sent w each wants) in
      by_test Leaves (is_let_go t.tcb started.0) _ _
      (λ e. (record { single = λ r q. cc; kept = λ l q. cc }, ((here, tt), wanted)))
      (λ e. (starts_ends now k (timer_of t) (with_tcb t.tcb s) (sends t.sent w) new, (tt, wanted)))

  record_fit_in : (now : Time) (k : ℕ) (act : Tcb → Turn) (o : Option Tcb) (s : TcpSocket) (w : Wanted) → s.tcb ≡ o → Sends act → HasEnds s → Wants w → Leaves (turned_in now k act o s w)
  record_fit_in now k act None s w e does h wants = (h, (tt, wants))
  record_fit_in now k act (Some r) s w e does h wants =
      let here = h.single r e in
      turned_fit now k (act r) s w (stays_ended r (act r) (does r) here)
      (segments_carry r.control.local r.control.peer (act r).sent here (does r).sent) h wants

  record_fit : (now : Time) (k : ℕ) (act : Tcb → Turn) (s : TcpSocket) (w : Wanted) → Sends act → HasEnds s → Wants w → Leaves (record_acts now k act s w)
  record_fit now k act s w does h wants = record_fit_in now k act s.tcb s w refl does h wants

  records_fit : (now : Time) (k : ℕ) (act : Tcb → Turn) (t : SocketsRecord) (w : Wanted) → Sends act → Fit (t, w) → Fit (acts_at k (λ s v. record_acts now k act s v) t w)
  records_fit now k act t w does h =
      acts_fit k (λ s v. record_acts now k act s v) t w h (λ s at here. record_fit now k act s w does here h.1)

  error_fit : (now : Time) (k : ℕ) (t : SocketsRecord) (w : Wanted) → Fit (t, w) → Fit (acts_at k (error_takes now k) t w)
  error_fit now k t w h = records_fit now k (λ r. changed error_taken (begin r)) t w error_sends h

  taken_fit : {A : Type 0} (now : Time) (k : ℕ) (asked : Result (Unit {0}) Refusal) (a : A) (after : SocketsRecord × Wanted) (t : SocketsRecord) (w : Wanted) → Fit after → Fit (t, w) → Fit (Taken now k (asked >> Ok (a, after)) t w)
  taken_fit now k asked a after t w done h =
      taken_row Fit now k (asked >> Ok (a, after)) t w
      (λ b left e. subst Fit (after_ok asked a b after left e) done)
      (error_fit now k t w h) h

  -- ---- the records of a listener

  requeued_ends : (place : ℕ) (before : Bool) (r : Tcb) (l : Listen) → AllEnded l.records → AllEnded (requeued place before r l).records
  unfolding requeued without
  requeued_ends place before r l h =
      let Kept : Listen → Type 0 = λ m. AllEnded m.records in
      by_test Kept r.control.was_established _ _
      (λ e. by_test Kept before _ _ (λ b. h) (λ b. h))
      (λ e. by_test Kept (is_over r.control.state) _ _ (λ b. each_remove Ended l.records place h) (λ b. h))

  -- what a listener has heard
  abbrev HeardFit : Heard → Type 0
  HeardFit h = AllEnded h.listen.records × AllByRecursion W h.sent

  acts_kept : (act : Turn → Turn) (place : ℕ) (o : Option Tcb) (l : Listen) (otherwise : Heard) → Sends (λ r. act (begin r)) → slice_get l.records place ≡ o → AllEnded l.records → HeardFit otherwise → HeardFit (listener.record_acts act place o l otherwise) × AllEnded (dropped_by act o)
  acts_kept act place None l otherwise does at h other = (other, tt)
  acts_kept act place (Some r) l otherwise does at h other =
      let t : Turn = act (begin r) in
      let was = each_at Ended l.records place r h at in
      let here = stays_ended r t (does r) was in (
        (
          requeued_ends place r.control.was_established t.tcb (replaced place t.tcb l) (each_set Ended l.records place t.tcb h here),
          segments_carry r.control.local r.control.peer t.sent was (does r).sent,
        ),
        by_test AllEnded (is_over t.tcb.control.state && not t.tcb.control.was_established) _ _ (λ e. (here, tt)) (λ e. tt),
      )

  kept_fit : (act : Turn → Turn) (a b : Addr) (l : Listen) (otherwise : Heard) → Sends (λ r. act (begin r)) → AllEnded l.records → HeardFit otherwise → HeardFit (kept_acts act a b l otherwise) × AllEnded (dropped act a b l)
  unfolding kept_acts dropped
  kept_fit act a b l otherwise does h other =
      acts_kept act (place_in a b l.records) (slice_get l.records (place_in a b l.records)) l otherwise does refl h other

  asked_fit : (p : Packet) (h : Header) (word : ℕ) (l : Listen) → P p.to p.from → AllEnded l.records → HeardFit (asked p h word l)
  unfolding asked record_made
  asked_fit p h word l here kept =
      let t : Turn = answered p.to p.from (word % 2 ^ 32) h.seq in
      let is : Is p.to p.from t = answered_sends p.to p.from (word % 2 ^ 32) h.seq in
      let ended : Ended t.tcb = subst (λ (a : Addr). P a t.tcb.control.peer) is.local (subst (λ (b : Addr). P p.to b) is.peer here) in
      by_test HeardFit (makes_record h l) _ _
      (λ e. (each_append Ended l.records (t.tcb ∷ []) kept (ended, tt), segments_carry p.to p.from t.sent here is.sent))
      (λ e. (kept, tt))

  new_fit : (p : Packet) (o : Option Header) (word : ℕ) (l : Listen) → P p.to p.from → AllEnded l.records → HeardFit (new_heard p o word l)
  new_fit p None word l here kept = (kept, tt)
  new_fit p (Some h) word l here kept = asked_fit p h word l here kept

  hears_fit : (p : Packet) (word : ℕ) (l : Listen) → P p.to p.from → AllEnded l.records → HeardFit (hears p word l) × AllEnded (dropped (takes_packet p) p.to p.from l)
  unfolding hears
  hears_fit p word l here kept =
      kept_fit (takes_packet p) p.to p.from l (new_heard p (load_header p.load) word l) (packet_sends p) kept (new_fit p (load_header p.load) word l here kept)

  timer_fit : (a b : Addr) (l : Listen) → AllEnded l.records → HeardFit (hears_timer a b l) × AllEnded (dropped expires a b l)
  unfolding hears_timer
  timer_fit a b l kept = kept_fit expires a b l (nothing_heard l) expiry_sends kept (kept, tt)

  heard_fit : (now : Time) (k : ℕ) (a b : Addr) (h : Heard) (gone : List Tcb) (s : TcpSocket) (w : Wanted) → HeardFit h → AllEnded gone → HasEnds s → Wants w → Leaves (heard now k a b h gone s w)
  unfolding heard
  heard_fit now k a b h gone s w fit left here wants = (
    record { single = here.single; kept = λ l e. let same : h.listen ≡ l = cc in subst (λ (x : Listen). AllEnded x.records) same fit.0 },
    (left, timer_wants now k a b h.timer s.timers (sends h.sent w) (wants_more h.sent w fit.1 wants)),
  )

  -- the word that is drawn for a new record
  word_wants : (p : Packet) (l : Listen) (w : Wanted) → Wants w → Wants (word_drawn p l w)
  word_wants p l w h = by_test Wants (takes_word p l) (draws_word w).1 w (λ e. h) (λ e. h)

  hearing_fit : (now : Time) (p : Packet) (k : ℕ) (o : Option Listen) (s : TcpSocket) (w : Wanted) → s.listen ≡ o → P p.to p.from → HasEnds s → Wants w → Leaves (hears_in now p k o s w)
  hearing_fit now p k None s w e to h wants = (h, (tt, wants))
  hearing_fit now p k (Some l) s w e to h wants =
      let word = (draws_word w).0 in
      let left = hears_fit p word l to (h.kept l e) in
      heard_fit now k p.to p.from (hears p word l) (dropped (takes_packet p) p.to p.from l) s (word_drawn p l w) left.0 left.1 h (word_wants p l w wants)

  -- ---- a segment arrives, and an alarm comes

  -- what is refused goes back
  header_back : (p q : Packet) (h : Header) (n : ℕ) → P p.to p.from → header_refusal p h n ≡ Some q → W q
  unfolding header_refusal
  header_back p q h n here =
      let Back : Option Packet → Type 0 = λ o. o ≡ Some q → W q in
      let back : (flags seq ack : ℕ) → Back (Some (sent_back p flags seq ack)) = λ flags seq ack e. let same : sent_back p flags seq ack ≡ q = cc in subst W same (carries (sent_back p flags seq ack) here) in
      by_test Back h.rst _ _
      (λ r e. cc)
      (λ r. by_test Back h.has_ack _ _ (λ a. back _ _ _) (λ a. back _ _ _))

  load_back : (p q : Packet) (load : Load) → P p.to p.from → load_refusal p load ≡ Some q → W q
  load_back p q (Udp text) here e = cc
  load_back p q (Tcp flags seq ack window text) here e = header_back p q (header_of flags seq ack window) (length text) here e

  refusal_wants : (o : Option Packet) (w : Wanted) → ((q : Packet) → o ≡ Some q → W q) → Wants w → Wants (refusal_sent o w)
  refusal_wants None w back h = h
  refusal_wants (Some q) w back h = wants_more (q ∷ []) w (back q refl, tt) h

  heard_at_fit : (now : Time) (p : Packet) (o : Option ℕ) (t : SocketsRecord) (w : Wanted) → P p.to p.from → Fit (t, w) → Fit (heard_at now p o t w).1
  heard_at_fit now p None t w to h = (h.0, refusal_wants (refusal_of p) w (λ q e. load_back p q p.load to e) h.1)
  heard_at_fit now p (Some k) t w to h =
      acts_fit k (listener_hears now p k) t w h (λ s at here. hearing_fit now p k s.listen s w refl to here h.1)

  segment_fit_at : (now : Time) (p : Packet) (o : Option ℕ) (t : SocketsRecord) (w : Wanted) → P p.to p.from → Fit (t, w) → Fit (segment_at now p o t w).1
  segment_fit_at now p None t w to h = heard_at_fit now p (hearer p t) t w to h
  segment_fit_at now p (Some k) t w to h = records_fit now k (λ r. takes_packet p (begin r)) t w (packet_sends p) h

  segment_fit : (now : Time) (p : Packet) (t : SocketsRecord) (w : Wanted) → P p.to p.from → Fit (t, w) → Fit (segment_arrives now p t w).1
  unfolding segment_arrives
  segment_fit now p t w to h = segment_fit_at now p _ t w to h

  slots_end : (t : SocketsRecord) (slots : List (Option UdpState)) (risen : List Rises) → AtEnds t → AtEnds (record t { udp = slots; udp_risen = risen })
  slots_end t slots risen h = record { sockets = h.sockets; gone = h.gone }

  datagram_end_in : (from : Addr) (bytes : List ℕ) (k : ℕ) (o : Option UdpState) (t : SocketsRecord) → AtEnds t → AtEnds (datagram_in from bytes k o t).1
  datagram_end_in from bytes k None t h = h
  datagram_end_in from bytes k (Some u) t h = slots_end t _ _ h

  datagram_end_at : (from : Addr) (bytes : List ℕ) (o : Option ℕ) (t : SocketsRecord) → AtEnds t → AtEnds (datagram_at from bytes o t).1
  datagram_end_at from bytes None t h = h
  datagram_end_at from bytes (Some k) t h = datagram_end_in from bytes k (udp_in k t) t h

  datagram_end : (from to : Addr) (bytes : List ℕ) (t : SocketsRecord) → AtEnds t → AtEnds (datagram_arrives from to bytes t).1
  unfolding datagram_arrives
  datagram_end from to bytes t h = datagram_end_at from bytes _ t h

  arrival_fit : (load : Load) (now : Time) (p : Packet) (t : SocketsRecord) (w : Wanted) → P p.to p.from → Fit (t, w) → Fit (arrives_by load now p t w).1
  arrival_fit (Udp bytes) now p t w to h = (datagram_end p.from p.to bytes t h.0, h.1)
  arrival_fit (Tcp flags seq ack window text) now p t w to h = segment_fit now p t w to h

  kept_alarm_fit : (now : Time) (k : ℕ) (timer : KeptTimer) (o : Option Listen) (s : TcpSocket) (w : Wanted) → s.listen ≡ o → HasEnds s → Wants w → Leaves (kept_expires now k timer o s w)
  kept_alarm_fit now k timer None s w e h wants = (h, (tt, wants))
  kept_alarm_fit now k timer (Some l) s w e h wants =
      let left = timer_fit timer.own timer.other l (h.kept l e) in
      heard_fit now k timer.own timer.other (hears_timer timer.own timer.other l) (dropped expires timer.own timer.other l) s w left.0 left.1 h wants

  timer_alarm_fit : (now : Time) (k : ℕ) (o : Option KeptTimer) (s : TcpSocket) (w : Wanted) → HasEnds s → Wants w → Leaves (timer_expires now k o s w)
  timer_alarm_fit now k None s w h wants = (h, (tt, wants))
  timer_alarm_fit now k (Some timer) s w h wants = kept_alarm_fit now k timer s.listen s w refl h wants

  alarm_fit : (now : Time) (k serial : ℕ) (t : SocketsRecord) (w : Wanted) → Fit (t, w) → Fit (alarm_comes now k serial t w)
  unfolding alarm_comes
  alarm_fit now k serial t w h =
      acts_fit k (socket_expires now k serial) t w h
      (λ s at here.
      by_test Leaves (s.serial == serial) _ _
      (λ e. record_fit now k (λ r. expires (begin r)) s w expiry_sends here h.1)
      (λ e. timer_alarm_fit now k (kept_timer serial s.timers) s w here h.1))

  -- ---- calls

  opens_fit : (now : Time) (k : ℕ) (local to : Addr) (t : SocketsRecord) (w : Wanted) → P local to → Fit (t, w) → Fit (acts_at k (opens now k local to) t w)
  opens_fit now k local to t w here h =
      let turn : Turn = opened local to ((draws_word w).0 % 2 ^ 32) in
      let is : Is local to turn = opened_sends local to ((draws_word w).0 % 2 ^ 32) in
      let ended : Ended turn.tcb = subst (λ (a : Addr). P a turn.tcb.control.peer) is.local (subst (λ (b : Addr). P local b) is.peer here) in
      acts_fit k (opens now k local to) t w h
      (λ s at has. turned_fit now k turn s (draws_word w).1 ended (segments_carry local to turn.sent here is.sent) has h.1)

  connects_fit : (hosts : List Ip) (now : Time) (k : ℕ) (to : Addr) (t : SocketsRecord) (w : Wanted) → ((local : Addr) → connect_asked hosts k to t ≡ Ok local → P local to) → Fit (t, w) → Fit (left_by (connects_taking hosts now k to t w) (t, w))
  unfolding connects_taking connects
  connects_fit hosts now k to t w source h =
      taken_row Fit now k (connects hosts now k to t w) t w
      (λ b left e.
      let done = left_opens (connect_asked hosts k to t) (λ local. acts_at k (opens now k local to) t w) b left e in
      subst Fit done.1.1 (opens_fit now k done.0 to t w (source done.0 done.1.0) h))
      (error_fit now k t w h) h

  again_fit : (now : Time) (k : ℕ) (t : SocketsRecord) (w : Wanted) → Fit (t, w) → Fit (left_by (connect_answers now k t w) (t, w))
  unfolding connect_answers
  again_fit now k t w h =
      taken_row Fit now k (without_change t w (connect_waited k t)) t w
      (λ b left e. subst Fit (change_ok t w (connect_waited k t) b left e) h)
      (error_fit now k t w h) h

  send_fit : (hosts : List Ip) (now : Time) (k : ℕ) (bytes : List ℕ) (to : Option Addr) (quiet : Bool) (t : SocketsRecord) (w : Wanted) → Fit (t, w) → Fit (left_by (sends_taking hosts now k bytes to quiet t w) (t, w))
  unfolding sends_taking
  send_fit hosts now k bytes to quiet t w h =
      taken_fit now k (send_asked hosts k (length bytes) to quiet t) _ (acts_at k (takes_written now k bytes) t w) t w
      (records_fit now k (λ r. flows (changed (writes bytes) (begin r))) t w (write_sends bytes) h) h

  recv_fit : (now : Time) (k n : ℕ) (t : SocketsRecord) (w : Wanted) → Fit (t, w) → Fit (left_by (receives_taking now k n t w) (t, w))
  unfolding receives_taking
  recv_fit now k n t w h =
      taken_fit now k (recv_asked k t) _ (acts_at k (gives_read now k n) t w) t w
      (records_fit now k (λ r. flows (changed (reads n) (begin r))) t w (read_sends n) h) h

  shut_fit : (now : Time) (k : ℕ) (how : Shut) (t : SocketsRecord) (w : Wanted) → Fit (t, w) → Fit (left_by (shuts_tcp now k how t w) (t, w))
  unfolding shuts_tcp
  shut_fit now k how t w h =
      left_after Fit (may_shut k t) tt (acts_at k (λ s v. record_acts now k (λ r. shuts how (begin r)) s v) t w) (t, w)
      (records_fit now k (λ r. shuts how (begin r)) t w (shut_sends how) h) h

  taken_error_fit : (now : Time) (k : ℕ) (t : SocketsRecord) (w : Wanted) → Fit (t, w) → Fit (left_by (takes_error now k t w) (t, w))
  unfolding takes_error
  taken_error_fit now k t w h =
      left_told Fit (error_asked k t) (λ e. e) (acts_at k (error_takes now k) t w) (t, w) (error_fit now k t w h) h

  -- a listener that closes resets its records
  reset_carries : (r : Tcb) → Ended r → AllByRecursion W (reset_of r)
  unfolding without_ack
  reset_carries r here =
      let p : Packet = without_ack r.control rst_flag (wire r.iss r.nxt) in
      by_test (λ (xs : List Packet). AllByRecursion W xs) (is_over r.control.state) [] (p ∷ []) (λ e. tt) (λ e. (carries p here, tt))

  resets_carry : (rs : List Tcb) → AllEnded rs → AllByRecursion W (resets_of rs)
  resets_carry [] each = tt
  resets_carry (r ∷ rs) each = each_append W (reset_of r) (resets_of rs) (reset_carries r each.0) (resets_carry rs each.1)

  closes_fit : (now : Time) (k : ℕ) (o : Option Listen) (s : TcpSocket) (w : Wanted) → s.listen ≡ o → HasEnds s → Wants w → Leaves (closes_in now k o s w)
  unfolding hears_close
  closes_fit now k None s w e h wants =
      record_fit now k (λ r. closes (begin r)) (unheld s) w close_sends (record { single = h.single; kept = λ l q. cc }) wants
  closes_fit now k (Some l) s w e h wants =
      (fresh_ends false, (h.kept l e, wants_more (resets_of l.records) w (resets_carry l.records (h.kept l e)) wants))

  close_fit : (now : Time) (k : ℕ) (t : SocketsRecord) (w : Wanted) → Fit (t, w) → Fit (closes_tcp now k t w)
  unfolding closes_tcp
  close_fit now k t w h = acts_fit k (closed now k) t w h (λ s at here. closes_fit now k s.listen s w refl here h.1)

  bind_end : (k : ℕ) (at : Addr) (t : SocketsRecord) → AtEnds t → AtEnds (left_by (binds_tcp k at t) t)
  unfolding binds_tcp
  bind_end k at t h =
      left_asked AtEnds (bind_asked k at t) (λ end. (tt, changes_at k (with_bound end) t)) t
      (λ end e. changes_end k (with_bound end) t h (λ s there here. record { single = here.single; kept = here.kept })) h

  listened_end : (at : Addr) (n : ℤ) (o : Option Listen) → ((l : Listen) → o ≡ Some l → AllEnded l.records) → AllEnded (listen_to at n o).records
  unfolding fresh_listen
  listened_end at n None h = tt
  listened_end at n (Some l) h = h l refl

  listen_end : (k : ℕ) (n : ℤ) (t : SocketsRecord) → AtEnds t → AtEnds (left_by (listens_tcp k n t) t)
  unfolding listens_tcp
  listen_end k n t h =
      left_asked AtEnds (listen_asked k t) (λ at. (tt, changes_at k (listening at n) t)) t
      (λ at e. changes_end k (listening at n) t h
      (λ s there here. record {
        single = here.single;
        kept = λ l q.
            let same : listen_to at n s.listen ≡ l = cc in
            subst (λ (x : Listen). AllEnded x.records) same (listened_end at n s.listen here.kept);
      })) h

  -- accept(2): a record leaves its listener, and a new socket has it
  gives_at : (place : ℕ) (o : Option Tcb) (l : Listen) (r : Tcb) (rest : Listen) → slice_get l.records place ≡ o → accepted_at place o l ≡ Some (r, rest) → AllEnded l.records → Ended r × AllEnded rest.records
  unfolding without
  gives_at place None l r rest at e h = cc
  gives_at place (Some x) l r rest at e h =
      let pair : (x, without place l) ≡ (r, rest) = ap (λ (y : Option (Tcb × Listen)). unwrap_or y (x, without place l)) e in
      subst (λ (y : Tcb × Listen). Ended y.0 × AllEnded y.1.records) pair (each_at Ended l.records place x h at, each_remove Ended l.records place h)

  gives_from : (queue : List ℕ) (l : Listen) (r : Tcb) (rest : Listen) → accepted_from queue l ≡ Some (r, rest) → AllEnded l.records → Ended r × AllEnded rest.records
  gives_from [] l r rest e h = cc
  gives_from (place ∷ queue) l r rest e h = gives_at place (slice_get l.records place) l r rest refl e h

  gives_in : (o : Option Listen) (r : Tcb) (rest : Listen) → accepts_in o ≡ Some (r, rest) → ((l : Listen) → o ≡ Some l → AllEnded l.records) → Ended r × AllEnded rest.records
  unfolding accepts
  gives_in None r rest e h = cc
  gives_in (Some l) r rest e h = gives_from l.accept_queue l r rest e (h l refl)

  given_end : (k : ℕ) (o : Option TcpSocket) (t : SocketsRecord) (r : Tcb) (rest : Listen) → slice_get t.tcp k ≡ o → accepts_of o ≡ Some (r, rest) → AtEnds t → Ended r × AtEnds (changes_in k (given_up r rest) o t)
  given_end k None t r rest at e h = cc
  given_end k (Some s) t r rest at e h =
      let here = each_at HasEnds t.tcp k s h.sockets at in
      let given = gives_in s.listen r rest e here.kept in (
        given.0,
        record {
          sockets = each_set HasEnds t.tcp k (given_up r rest s) h.sockets (record {
            single = here.single;
            kept = λ l q. let same : rest ≡ l = cc in subst (λ (x : Listen). AllEnded x.records) same given.1;
          });
          gone = h.gone;
        },
      )

  accepted_end : (k : ℕ) (asked : Result (Unit {0}) Refusal) (a : Option (Tcb × Listen)) (t : SocketsRecord) → a ≡ accepts_at k t → AtEnds t → AtEnds (left_by (asked >> (or_refuse a (refusal.Wait None) >>= λ (r, rest). Ok (placed r (changes_at k (given_up r rest) t)))) t)
  accepted_end k (Err why) a t e h = h
  accepted_end k (Ok u) None t e h = h
  accepted_end k (Ok u) (Some (r, rest)) t e h =
      let given = given_end k (slice_get t.tcp k) t r rest refl (sym e) h in
      put_end (accepted r) (changes_at k (given_up r rest) t)
      (record { single = λ x q. let same : r ≡ x = cc in subst Ended same given.0; kept = λ l q. cc })
      given.1

  accept_end : (k : ℕ) (t : SocketsRecord) → AtEnds t → AtEnds (left_by (accepts_tcp k t) t)
  unfolding accepts_tcp
  accept_end k t h = accepted_end k (accept_asked k t) (accepts_at k t) t refl h

  udp_end : {A : Type 0} (act : UdpState → Result (A × UdpState) Refusal) (k : ℕ) (o : Option UdpState) (t : SocketsRecord) → AtEnds t → AtEnds (left_by (acted_udp act k o t) t)
  udp_end act k None t h = h
  udp_end {A} act k (Some u) t h = by_answer (act u)
    where
      by_answer : (answer : Result (A × UdpState) Refusal) → AtEnds (left_by (answer >>= λ (a, after). Ok (a, with_udp k u after t)) t)
      by_answer (Ok (a, after)) = slots_end t _ _ h
      by_answer (Err why) = h

  -- ---- each act

  -- what an act has to bring
  abbrev pub Brings : List Ip → SocketsRecord → SocketsAct → Type 0
  Brings hosts t (connect_tcp k to) = (local : Addr) → connect_asked hosts k to t ≡ Ok local → P local to
  Brings hosts t (arrival p) = P p.to p.from
  Brings hosts t (elsewhere after) = Wants after
  Brings hosts t _ = Unit {0}

  pub acted_fit : (hosts : List Ip) (now : Time) (act : SocketsAct) (t : SocketsRecord) (w : Wanted) → Brings hosts t act → Fit (t, w) → Fit (sockets_acted hosts now act t w)
  unfolding new_udp binds_udp connects_udp sends_udp receives_udp closes_udp
  acted_fit hosts now make_udp t w brings h = (slots_end t _ _ h.0, h.1)
  acted_fit hosts now (bind_udp k at) t w brings h = (udp_end _ k (udp_in k t) t h.0, h.1)
  acted_fit hosts now (connect_udp k to) t w brings h = (udp_end _ k (udp_in k t) t h.0, h.1)
  acted_fit hosts now (send_udp k bytes to) t w brings h = (udp_end _ k (udp_in k t) t h.0, h.1)
  acted_fit hosts now (recv_udp k n) t w brings h = (udp_end _ k (udp_in k t) t h.0, h.1)
  acted_fit hosts now (close_udp k) t w brings h = (slots_end t _ _ h.0, h.1)
  acted_fit hosts now make_tcp t w brings h = (put_end (fresh true) t (fresh_ends true) h.0, h.1)
  acted_fit hosts now (bind_tcp k at) t w brings h = (bind_end k at t h.0, h.1)
  acted_fit hosts now (listen_tcp k n) t w brings h = (listen_end k n t h.0, h.1)
  acted_fit hosts now (accept_tcp k) t w brings h = (accept_end k t h.0, h.1)
  acted_fit hosts now (connect_tcp k to) t w brings h = connects_fit hosts now k to t w brings h
  acted_fit hosts now (connect_again k) t w brings h = again_fit now k t w h
  acted_fit hosts now (send_tcp k bytes to quiet) t w brings h = send_fit hosts now k bytes to quiet t w h
  acted_fit hosts now (recv_tcp k n) t w brings h = recv_fit now k n t w h
  acted_fit hosts now (shut_tcp k how) t w brings h = shut_fit now k how t w h
  acted_fit hosts now (take_error k) t w brings h = taken_error_fit now k t w h
  acted_fit hosts now (close_tcp k) t w brings h = close_fit now k t w h
  acted_fit hosts now (arrival p) t w brings h = arrival_fit p.load now p t w brings h
  acted_fit hosts now (alarm k serial) t w brings h = alarm_fit now k serial t w h
  acted_fit hosts now (elsewhere after) t w brings h = (h.0, brings)

  -- ---- all records

  ended_of_tcb : (o : Option Tcb) → ((r : Tcb) → o ≡ Some r → Ended r) → AllEnded (own_record o)
  ended_of_tcb None h = tt
  ended_of_tcb (Some r) h = (h r refl, tt)

  ended_of_listen : (o : Option Listen) → ((l : Listen) → o ≡ Some l → AllEnded l.records) → AllEnded (kept_records o)
  ended_of_listen None h = tt
  ended_of_listen (Some l) h = h l refl

  ended_of_sockets : (ss : List TcpSocket) → AllByRecursion HasEnds ss → AllEnded (flat_map records_at ss)
  ended_of_sockets [] h = tt
  ended_of_sockets (s ∷ ss) h =
      each_append Ended (records_at s) (flat_map records_at ss)
      (each_append Ended (own_record s.tcb) (kept_records s.listen) (ended_of_tcb s.tcb h.0.single) (ended_of_listen s.listen h.0.kept))
      (ended_of_sockets ss h.1)

  pub all_ended : (t : SocketsRecord) → AtEnds t → AllEnded (records_of t)
  all_ended t h = each_append Ended (flat_map records_at t.tcp) t.gone (ended_of_sockets t.tcp h.sockets) h.gone

  pub none_fit : (own : Ip) (draws : List ℕ) → Fit (no_sockets own, nothing_wanted draws)
  none_fit own draws = (record { sockets = tt; gone = tt }, tt)
