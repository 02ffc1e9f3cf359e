-- each call on sockets, arrival and alarm
use Rattle.std.proofs.Common.{◌≡◌, inl, inr, ⊎_elim, ℕ, ℤ, ◌%◌, ◌^◌, ◌||◌, Bool, true, false, List, [], ◌∷◌, ◌++◌, length, Contains, Option, Some, None, is_some, Result, Ok, Err, slice_get, set, flat_map, refl, sym, ap, subst, ◌∙◌, arith}
use Rattle.std.specs.List.{position}
use Rattle.std.specs.List.Sorted.{IsPermutation}
use Rattle.std.proofs.lemmas.List.Sorted.{IsPermutation-refl, IsPermutation-sym, IsPermutation-cons, IsPermutation-trans, IsPermutation-append_left}
use Rattle.sim_base.specs.Addresses.{loopback, is_same_ip, is_local}
use Rattle.sim_base.specs.Refusals.{◌>>=◌, ◌>>◌, refuse_if, or_refuse}
use Rattle.sim_base.specs.declared.address.Ip.{Ip}
use Rattle.sim_base.specs.declared.address.Addr.{Addr}
use Rattle.sim_base.specs.declared.errno.Errno.TheVariants.{Ealready, Eisconn}
use Rattle.sim_base.specs.declared.packet.Load.{Load}
use Rattle.sim_base.specs.declared.packet.Load.TheVariants.{Udp, Tcp}
use Rattle.sim_base.specs.declared.packet.Packet.{Packet}
use Rattle.sim_base.specs.declared.time.Time.{Time}
use Rattle.sim_base.proofs.RefusalLemmas.{then_ok}
use Rattle.host_fds.specs.declared.rises.Rises.{Rises}
use Rattle.sock_udp.specs.Socket.{UdpState}
use Rattle.sock_tcp.specs.declared.connection.effects.Shut.{Shut}
use Rattle.sock_tcp.specs.segment.Refusal.{refusal_of}
use Rattle.sock_tcp.specs.segment.State.{is_syn_sent}
use Rattle.sock_tcp.specs.connection.Begin.{begin}
use Rattle.sock_tcp.specs.connection.Tcb.{Tcb, changed}
use Rattle.sock_tcp.specs.connection.Process.{shuts, error_taken}
use Rattle.sock_tcp.specs.listener.Listen.{Listen, fresh_listen}
use Rattle.tcp_laws.specs.Acts.Act.{write, read, flow, shut, error_read}
use Rattle.tcp_streams.specs.Exchange.{IsVoid}
use Rattle.tcp_streams.proofs.Members.{IsIn_from_Contains}
use Rattle.tcp_streams.proofs.Voids.{refusal_void}
use Rattle.host_wants.specs.declared.error.Refusal.{Refusal}
use Rattle.host_wants.specs.declared.error.Refusal.TheVariants as refusal
use Rattle.host_wants.specs.Refusals.{stop_kept}
use Rattle.host_wants.specs.Wanted.{Wanted, sends, draws_word}
use Rattle.host_sockets.specs.TcpSocket.{TcpSocket, fresh, with_bound, has_record}
use Rattle.host_sockets.specs.Sockets.{SocketsRecord, changes_in, changes_at, put_tcp}
use Rattle.host_sockets.specs.TcpActs.{acts_at, record_acts}
use Rattle.host_sockets.specs.Udp.{udp_in, with_udp, acted_udp}
use Rattle.host_sockets.specs.Binding.{bind_asked, binds_tcp, bound_to_use, listen_to, listening, listen_begun, listen_asked, listens_tcp}
use Rattle.host_sockets.specs.Accepting.{accept_asked, accepts_in, accepts_of, accepts_at, given_up, accepted, placed, accepts_tcp}
use Rattle.host_sockets.specs.Connecting.{connect_error, refuse_connected, connect_begins, connect_begun, connect_asked, opens, connects, error_takes, connect_waited, without_change, connects_taking, connect_answers}
use Rattle.host_sockets.specs.Moving.{send_asked, takes_written, sends_taking, recv_asked, gives_read, receives_taking, may_shut, shuts_tcp}
use Rattle.host_sockets.specs.Names.{error_asked, takes_error}
use Rattle.host_sockets.specs.Closing.{closed, closes_tcp}
use Rattle.host_sockets.specs.Arriving.{record_takes, datagram_in, datagram_at, datagram_arrives, takes_in, listener_hears, hearer, refusal_sent, heard_at, segment_at, segment_arrives, arrives_by}
use Rattle.host_sockets.specs.Alarms.{socket_expires, alarm_comes}
use Rattle.host_sockets.specs.Records.{own_record, kept_records, records_at, records_of}
use Rattle.socket_laws.specs.Histories.{left_by}
use Rattle.socket_laws.proofs.LivePairs.{left_asked, left_after, left_told, Taken, taken_row, after_ok, change_ok, left_opens}
use Rattle.socket_laws.proofs.SourceEnds.{first_ok, next_ok, connect_source, connect_from, connect_to}
use Rattle.socket_laws.proofs.HereActs.{IsBoundHere, used_here, bound_here}
use Rattle.socket_laws.proofs.Sums.{position_holds}
use Rattle.socket_streams.specs.Records.{packets_of, exchange_of}
use Rattle.socket_streams.specs.Inside.{IsHome, IsInside}
use Rattle.socket_streams.specs.May.{IsPlain, ArePlain}
use Rattle.socket_streams.proofs.Chains.{goes}
use Rattle.socket_streams.proofs.Listening.{accepts_move}
use Rattle.socket_streams.proofs.Shares.{share_of, set_hold}
use Rattle.socket_streams.proofs.Wants.{sends_flown}
use Rattle.socket_streams.proofs.Turns.{act_leads, second_leads, record_does, opens_does}
use Rattle.socket_streams.proofs.Sockets.{takes_does, hears_does, alarm_does, closes_does}
use Rattle.socket_streams.proofs.Hosts.{Reaches, same_reach, rests_reach, acts_reach, changes_reach, put_plain, put_all}

abbrev Goal : (Addr → Addr → Bool) → Ip → List Tcb → List Packet → SocketsRecord → Wanted → SocketsRecord × Wanted → Type 0
Goal scope own others flying t w y = Reaches scope own others flying (t, w) y

module _ (scope : Addr → Addr → Bool) (own : Ip) (others : List Tcb) (flying : List Packet) where
  -- an error that is taken
  error_reach : (now : Time) (k : ℕ) (t : SocketsRecord) (w : Wanted) → ArePlain own t → Reaches scope own others flying (t, w) (acts_at k (error_takes now k) t w)
  error_reach now k t w plain =
      acts_reach scope own others flying k (error_takes now k) t w plain
      (λ s at here. record_does scope own flying now k (λ r. changed error_taken (begin r)) s w here (λ r e. act_leads scope own (flying ++ packets_of w) r error_read tt))

  taken_reach : {A : Type 0} (now : Time) (k : ℕ) (asked : Result (Unit {0}) Refusal) (a : A) (after : SocketsRecord × Wanted) (t : SocketsRecord) (w : Wanted) → ArePlain own t → Reaches scope own others flying (t, w) after → Reaches scope own others flying (t, w) (Taken now k (asked >> Ok (a, after)) t w)
  taken_reach now k asked a after t w plain done =
      taken_row (Goal scope own others flying t w) now k (asked >> Ok (a, after)) t w
      (λ b left e. subst (Goal scope own others flying t w) (after_ok asked a b after left e) done)
      (error_reach now k t w plain) (rests_reach scope own others flying t w plain)

  -- send(2), recv(2), shutdown(2) and SO_ERROR
  pub send_reach : (hosts : List Ip) (now : Time) (k : ℕ) (bytes : List ℕ) (to : Option Addr) (quiet : Bool) (t : SocketsRecord) (w : Wanted) → ArePlain own t → Reaches scope own others flying (t, w) (left_by (sends_taking hosts now k bytes to quiet t w) (t, w))
  unfolding sends_taking
  send_reach hosts now k bytes to quiet t w plain =
      taken_reach now k (send_asked hosts k (length bytes) to quiet t) _ (acts_at k (takes_written now k bytes) t w) t w plain
      (acts_reach scope own others flying k (takes_written now k bytes) t w plain
      (λ s at here. record_does scope own flying now k _ s w here (λ r e. second_leads scope own (flying ++ packets_of w) r (write bytes) flow tt refl tt)))

  pub recv_reach : (now : Time) (k n : ℕ) (t : SocketsRecord) (w : Wanted) → ArePlain own t → Reaches scope own others flying (t, w) (left_by (receives_taking now k n t w) (t, w))
  unfolding receives_taking
  recv_reach now k n t w plain =
      taken_reach now k (recv_asked k t) _ (acts_at k (gives_read now k n) t w) t w plain
      (acts_reach scope own others flying k (gives_read now k n) t w plain
      (λ s at here. record_does scope own flying now k _ s w here (λ r e. second_leads scope own (flying ++ packets_of w) r (read n) flow tt refl tt)))

  pub shut_reach : (now : Time) (k : ℕ) (how : Shut) (t : SocketsRecord) (w : Wanted) → ArePlain own t → Reaches scope own others flying (t, w) (left_by (shuts_tcp now k how t w) (t, w))
  unfolding shuts_tcp
  shut_reach now k how t w plain =
      left_after (Goal scope own others flying t w) (may_shut k t) tt (acts_at k (λ s v. record_acts now k (λ r. shuts how (begin r)) s v) t w) (t, w)
      (acts_reach scope own others flying k (λ s v. record_acts now k (λ r. shuts how (begin r)) s v) t w plain
      (λ s at here. record_does scope own flying now k (λ r. shuts how (begin r)) s w here (λ r e. act_leads scope own (flying ++ packets_of w) r (shut how) tt)))
      (rests_reach scope own others flying t w plain)

  pub error_taken_reach : (now : Time) (k : ℕ) (t : SocketsRecord) (w : Wanted) → ArePlain own t → Reaches scope own others flying (t, w) (left_by (takes_error now k t w) (t, w))
  unfolding takes_error
  error_taken_reach now k t w plain =
      left_told (Goal scope own others flying t w) (error_asked k t) (λ e. e) (acts_at k (error_takes now k) t w) (t, w)
      (error_reach now k t w plain) (rests_reach scope own others flying t w plain)

  -- close(2)
  pub close_reach : (now : Time) (k : ℕ) (t : SocketsRecord) (w : Wanted) → ArePlain own t → Reaches scope own others flying (t, w) (closes_tcp now k t w)
  unfolding closes_tcp
  close_reach now k t w plain =
      acts_reach scope own others flying k (closed now k) t w plain (λ s at here. closes_does scope own flying now k s w here)

  pub again_reach : (now : Time) (k : ℕ) (t : SocketsRecord) (w : Wanted) → ArePlain own t → Reaches scope own others flying (t, w) (left_by (connect_answers now k t w) (t, w))
  unfolding connect_answers
  again_reach now k t w plain =
      taken_row (Goal scope own others flying t w) now k (without_change t w (connect_waited k t)) t w
      (λ b left e. subst (Goal scope own others flying t w) (change_ok t w (connect_waited k t) b left e) (rests_reach scope own others flying t w plain))
      (error_reach now k t w plain) (rests_reach scope own others flying t w plain)

-- connect(2): where one begins the socket has no record and doesn't listen
refused_not : (b : Bool) (why : Refusal) → refuse_if b why ≡ Ok tt → b ≡ false
refused_not true why e = cc
refused_not false why e = refl

no_record : (o : Option Tcb) → refuse_connected o ≡ Ok tt → o ≡ None
no_record None e = refl
no_record (Some r) e =
    let refused = next_ok (stop_kept (connect_error r)) (Err (refusal.Errno Eisconn)) tt (next_ok (refuse_if (is_syn_sent r.control.state) (refusal.Errno Ealready)) _ tt e) in cc

not_listening : (o : Option Listen) → is_some o ≡ false → o ≡ None
not_listening None e = refl
not_listening (Some l) e = cc

record Begins (s : TcpSocket) : Type 0 where
  fresh : s.tcb ≡ None
  quiet : s.listen ≡ None

connect_fresh : (hosts : List Ip) (to : Addr) (s : TcpSocket) → connect_begins hosts to s ≡ Ok tt → Begins s
connect_fresh hosts to s e =
    let second = next_ok (refuse_connected s.tcb) _ tt e in
    record {
      fresh = no_record s.tcb (first_ok (refuse_connected s.tcb) _ tt e);
      quiet = not_listening s.listen (refused_not (is_some s.listen) _ (first_ok (refuse_if (is_some s.listen) _) _ tt second));
    }

begun_at : (hosts : List Ip) (to : Addr) (o : Option TcpSocket) (s : TcpSocket) (why : Refusal) → o ≡ Some s → (or_refuse o why >>= λ x. connect_begins hosts to x) ≡ Ok tt → Begins s
begun_at hosts to None s why at e = cc
begun_at hosts to (Some x) s why at e =
    let same : x ≡ s = cc in subst Begins same (connect_fresh hosts to x e)

-- and the ends of its record stay inside
-- what a socket is bound to is an address of the host
bound_there : (own : Ip) (k : ℕ) (t : SocketsRecord) → ArePlain own t → (s : TcpSocket) → slice_get t.tcp k ≡ Some s → IsBoundHere own s.bound
bound_there own k t plain s at = (plain.sockets k s at).here

connect_inside : (own : Ip) (hosts : List Ip) (k : ℕ) (to local : Addr) (t : SocketsRecord) → is_same_ip own loopback ≡ false → ArePlain own t → connect_asked hosts k to t ≡ Ok local → IsInside own local to
connect_inside own hosts k to local t apart plain e =
    let outside : is_same_ip t.own loopback ≡ false = ap (λ (ip : Ip). is_same_ip ip loopback) plain.host ∙ apart in
    let source = connect_source hosts k to local t e in
    let here : is_local t.own source.0.ip ≡ true =
    ap (λ (ip : Ip). is_local ip source.0.ip) plain.host ∙ used_here own k t source.0 (bound_there own k t plain) source.1.0 in
    record {
      from = λ at. ap (λ (b : Bool). b || is_same_ip to.ip own) (connect_from hosts k to local t outside e at);
      to = λ at. subst (λ (ip : Ip). IsHome ip local.ip) plain.host (connect_to hosts k to local source.0 t e source.1.0 here at);
    }

module _ (scope : Addr → Addr → Bool) (own : Ip) (others : List Tcb) (flying : List Packet) where
  opens_reach : (hosts : List Ip) (now : Time) (k : ℕ) (to local : Addr) (t : SocketsRecord) (w : Wanted) → ArePlain own t → connect_asked hosts k to t ≡ Ok local → Reaches scope own others flying (t, w) (acts_at k (opens now k local to) t w)
  opens_reach hosts now k to local t w plain e =
      acts_reach scope own others flying k (opens now k local to) t w plain
      (λ s at here.
      let begins = begun_at hosts to (slice_get t.tcp k) s _ at (first_ok (connect_begun hosts k to t) _ local e) in
      let opened = opens_does scope own flying now k local to ((draws_word w).0 % 2 ^ 32) s (draws_word w).1 (omega arith) begins.fresh begins.quiet (λ apart. connect_inside own hosts k to local t apart plain e) here in
      record { plain = opened.plain; leads = opened.leads })

  pub connect_reach : (hosts : List Ip) (now : Time) (k : ℕ) (to : Addr) (t : SocketsRecord) (w : Wanted) → ArePlain own t → Reaches scope own others flying (t, w) (left_by (connects_taking hosts now k to t w) (t, w))
  unfolding connects_taking connects
  connect_reach hosts now k to t w plain =
      taken_row (Goal scope own others flying t w) now k (connects hosts now k to t w) t w
      (λ b left e.
      let done = left_opens (connect_asked hosts k to t) (λ local. acts_at k (opens now k local to) t w) b left e in
      subst (Goal scope own others flying t w) done.1.1 (opens_reach hosts now k to done.0 t w plain done.1.0))
      (error_reach scope own others flying now k t w plain) (rests_reach scope own others flying t w plain)

-- listen(2): what listens has no record
unconnected : (o : Option TcpSocket) (s : TcpSocket) (why other : Refusal) → o ≡ Some s → (or_refuse o why >>= λ x. refuse_if (is_some x.tcb) other) ≡ Ok tt → s.tcb ≡ None
unconnected None s why other at e = cc
unconnected (Some x) s why other at e =
    let same : x ≡ s = cc in subst (λ (y : TcpSocket). y.tcb ≡ None) same (none_there x.tcb (refused_not (is_some x.tcb) other e))
  where
    none_there : (o : Option Tcb) → is_some o ≡ false → o ≡ None
    none_there None e = refl
    none_there (Some r) e = cc

listened_records : (at : Addr) (n : ℤ) (o : Option Listen) → kept_records (Some (listen_to at n o)) ≡ kept_records o
unfolding fresh_listen
listened_records at n None = refl
listened_records at n (Some l) = refl

-- accept(2): a record leaves its listener, and a new socket has it
record Gives (own : Ip) (k : ℕ) (t : SocketsRecord) (r : Tcb) (after : SocketsRecord) : Type 0 where
  plain : ArePlain own after
  same : IsPermutation (r ∷ records_of after) (records_of t)

given_listen : (o : Option Listen) (r : Tcb) (rest : Listen) → accepts_in o ≡ Some (r, rest) → (l : Listen) × ((o ≡ Some l) × IsPermutation (r ∷ rest.records) l.records)
given_listen None r rest e = cc
given_listen (Some l) r rest e = (l, (refl, accepts_move l rest r e))

given_up_at : (own : Ip) (k : ℕ) (o : Option TcpSocket) (t : SocketsRecord) (r : Tcb) (rest : Listen) → slice_get t.tcp k ≡ o → accepts_of o ≡ Some (r, rest) → ArePlain own t → Gives own k t r (changes_in k (given_up r rest) o t)
given_up_at own k None t r rest at e plain = cc
given_up_at own k (Some s) t r rest at e plain =
    let here = plain.sockets k s at in
    let given = given_listen s.listen r rest e in
    let l = given.0 in
    let none : s.tcb ≡ None = here.listens l given.1.0 in
    let was : l.records ≡ records_at s =
    ap (λ (o : Option Listen). kept_records o) (sym given.1.0) ∙ ap (λ (o : Option Tcb). own_record o ++ kept_records s.listen) (sym none) in
    let s' = given_up r rest s in
    let is : records_at s' ≡ rest.records = ap (λ (o : Option Tcb). own_record o ++ rest.records) none in
    let share = share_of records_at t.tcp k s at in
    let all = flat_map records_at (set t.tcp k s') in
    let put : IsPermutation all (rest.records ++ share.rest) = subst (λ (xs : List Tcb). IsPermutation all (xs ++ share.rest)) is (share.put s') in
    let front : IsPermutation (r ∷ all) (r ∷ (rest.records ++ share.rest)) = IsPermutation-cons r all (rest.records ++ share.rest) put in
    let join : IsPermutation (r ∷ (rest.records ++ share.rest)) (l.records ++ share.rest) = IsPermutation-append_left share.rest (r ∷ rest.records) l.records given.1.1 in
    let back : IsPermutation (l.records ++ share.rest) (flat_map records_at t.tcp) =
    IsPermutation-sym (flat_map records_at t.tcp) (l.records ++ share.rest) (subst (λ (xs : List Tcb). IsPermutation (flat_map records_at t.tcp) (xs ++ share.rest)) (sym was) share.here) in
    let whole : IsPermutation (r ∷ all) (flat_map records_at t.tcp) =
    IsPermutation-trans (r ∷ all) (r ∷ (rest.records ++ share.rest)) (flat_map records_at t.tcp) front
    (IsPermutation-trans (r ∷ (rest.records ++ share.rest)) (l.records ++ share.rest) (flat_map records_at t.tcp) join back) in
    record {
      plain = record {
        host = plain.host;
        sockets = set_hold (IsPlain own) t.tcp k s' plain.sockets (record { listens = λ m q. none; here = here.here });
      };
      same = IsPermutation-append_left t.gone (r ∷ all) (flat_map records_at t.tcp) whole;
    }

fresh_plain : (own : Ip) (o : Option Tcb) → IsPlain own (record (fresh true) { tcb = o })
fresh_plain own o = record { listens = λ l e. cc; here = λ at e. cc }

module _ (scope : Addr → Addr → Bool) (own : Ip) (others : List Tcb) (flying : List Packet) where
  pub bind_reach : (k : ℕ) (at : Addr) (t : SocketsRecord) (w : Wanted) → ArePlain own t → Reaches scope own others flying (t, w) (left_by (binds_tcp k at t) t, w)
  unfolding binds_tcp
  bind_reach k at t w plain =
      left_asked (λ (x : SocketsRecord). Reaches scope own others flying (t, w) (x, w)) (bind_asked k at t) (λ end. (tt, changes_at k (with_bound end) t)) t
      (λ end e.
      let local = bound_here own k at end t plain.host e in
      changes_reach scope own others flying k (with_bound end) t w plain
      (λ s there here. (record { listens = here.listens; here = λ x q. let same : end ≡ x = cc in subst (λ (y : Addr). is_local own y.ip ≡ true) same local }, refl)))
      (rests_reach scope own others flying t w plain)

  pub listen_reach : (k : ℕ) (n : ℤ) (t : SocketsRecord) (w : Wanted) → ArePlain own t → Reaches scope own others flying (t, w) (left_by (listens_tcp k n t) t, w)
  unfolding listens_tcp
  listen_reach k n t w plain =
      left_asked (λ (x : SocketsRecord). Reaches scope own others flying (t, w) (x, w)) (listen_asked k t) (λ at. (tt, changes_at k (listening at n) t)) t
      (λ at e.
      let used = then_ok (listen_begun k t) (bound_to_use k t) at e in
      let local = used_here own k t at (bound_there own k t plain) used in
      changes_reach scope own others flying k (listening at n) t w plain
      (λ s there here.
      let none = unconnected (slice_get t.tcp k) s _ _ there (first_ok (listen_begun k t) _ at e) in (
        record { listens = λ l q. none; here = λ x q. let same : at ≡ x = cc in subst (λ (y : Addr). is_local own y.ip ≡ true) same local },
        ap (λ (xs : List Tcb). own_record s.tcb ++ xs) (listened_records at n s.listen),
      )))
      (rests_reach scope own others flying t w plain)

  accepted_reach : (k : ℕ) (asked : Result (Unit {0}) Refusal) (a : Option (Tcb × Listen)) (t : SocketsRecord) (w : Wanted) → a ≡ accepts_at k t → ArePlain own t → Reaches scope own others flying (t, w) (left_by (asked >> (or_refuse a (refusal.Wait None) >>= λ (r, rest). Ok (placed r (changes_at k (given_up r rest) t)))) t, w)
  accepted_reach k (Err why) a t w e plain = rests_reach scope own others flying t w plain
  accepted_reach k (Ok u) None t w e plain = rests_reach scope own others flying t w plain
  accepted_reach k (Ok u) (Some (r, rest)) t w e plain =
      let given = given_up_at own k (slice_get t.tcp k) t r rest refl (sym e) plain in
      let left = changes_at k (given_up r rest) t in
      let after = put_tcp (accepted r) left in
      same_reach scope own others flying t after w
      (put_plain own (accepted r) left (fresh_plain own (Some r)) given.plain)
      (IsPermutation-trans (records_of after) (r ∷ records_of left) (records_of t) (put_all (accepted r) left) given.same)

  pub accept_reach : (k : ℕ) (t : SocketsRecord) (w : Wanted) → ArePlain own t → Reaches scope own others flying (t, w) (left_by (accepts_tcp k t) t, w)
  unfolding accepts_tcp
  accept_reach k t w plain = accepted_reach k (accept_asked k t) (accepts_at k t) t w refl plain

  -- socket(2)
  pub made_reach : (t : SocketsRecord) (w : Wanted) → ArePlain own t → Reaches scope own others flying (t, w) (put_tcp (fresh true) t, w)
  made_reach t w plain =
      same_reach scope own others flying t (put_tcp (fresh true) t) w
      (put_plain own (fresh true) t (fresh_plain own None) plain)
      (put_all (fresh true) t)

  -- UDP sockets have no records
  pub slots_reach : (t : SocketsRecord) (slots : List (Option UdpState)) (risen : List Rises) (w : Wanted) → ArePlain own t → Reaches scope own others flying (t, w) (record t { udp = slots; udp_risen = risen }, w)
  slots_reach t slots risen w plain =
      same_reach scope own others flying t (record t { udp = slots; udp_risen = risen }) w
      (record { host = plain.host; sockets = plain.sockets })
      (IsPermutation-refl (records_of t))

  pub udp_reach : {A : Type 0} (act : UdpState → Result (A × UdpState) Refusal) (k : ℕ) (o : Option UdpState) (t : SocketsRecord) (w : Wanted) → ArePlain own t → Reaches scope own others flying (t, w) (left_by (acted_udp act k o t) t, w)
  udp_reach act k None t w plain = rests_reach scope own others flying t w plain
  udp_reach {A} act k (Some u) t w plain = by_answer (act u)
    where
      by_answer : (answer : Result (A × UdpState) Refusal) → Reaches scope own others flying (t, w) (left_by (answer >>= λ (a, after). Ok (a, with_udp k u after t)) t, w)
      by_answer (Ok (a, after)) = slots_reach t _ _ w plain
      by_answer (Err why) = rests_reach scope own others flying t w plain

  -- a segment arrives
  refused_reach : (p : Packet) (o : Option Packet) (t : SocketsRecord) (w : Wanted) → refusal_of p ≡ o → ArePlain own t → Reaches scope own others flying (t, w) (t, refusal_sent o w)
  refused_reach p None t w e plain = rests_reach scope own others flying t w plain
  refused_reach p (Some q) t w e plain = record {
    plain = plain;
    leads = goes scope own (exchange_of others flying (t, w)) (exchange_of others flying (t, sends (q ∷ []) w)) (IsPermutation-refl (records_of t ++ others))
        (λ x c.
        ⊎_elim
        (λ b. inl b)
        (λ s. ⊎_elim (λ same. inr (subst (λ (y : Packet). IsVoid y.load) (sym same) (refusal_void p q e))) (λ none. absurd none) (IsIn_from_Contains x (q ∷ []) s))
        (sends_flown flying (q ∷ []) w x c));
  }

  heard_reach : (now : Time) (p : Packet) (o : Option ℕ) (t : SocketsRecord) (w : Wanted) → Contains (flying ++ packets_of w) p → ArePlain own t → Reaches scope own others flying (t, w) (heard_at now p o t w).1
  heard_reach now p None t w c plain = refused_reach p (refusal_of p) t w refl plain
  heard_reach now p (Some k) t w c plain =
      acts_reach scope own others flying k (listener_hears now p k) t w plain (λ s at here. hears_does scope own flying now p k s w c here)

  segment_reach_at : (now : Time) (p : Packet) (o : Option ℕ) (t : SocketsRecord) (w : Wanted) → position (has_record p.to p.from) t.tcp ≡ o → Contains (flying ++ packets_of w) p → ArePlain own t → Reaches scope own others flying (t, w) (segment_at now p o t w).1
  segment_reach_at now p None t w e c plain = heard_reach now p (hearer p t) t w c plain
  segment_reach_at now p (Some k) t w e c plain =
      acts_reach scope own others flying k (record_takes now p k) t w plain
      (λ s at here. takes_does scope own flying now p k s w c (position_holds (has_record p.to p.from) t.tcp k s e at) here)

  segment_reach : (now : Time) (p : Packet) (t : SocketsRecord) (w : Wanted) → Contains (flying ++ packets_of w) p → ArePlain own t → Reaches scope own others flying (t, w) (segment_arrives now p t w).1
  unfolding segment_arrives
  segment_reach now p t w c plain = segment_reach_at now p (position (has_record p.to p.from) t.tcp) t w refl c plain

  -- a datagram arrives
  datagram_reach_in : (from : Addr) (bytes : List ℕ) (k : ℕ) (o : Option UdpState) (t : SocketsRecord) (w : Wanted) → ArePlain own t → Reaches scope own others flying (t, w) ((datagram_in from bytes k o t).1, w)
  datagram_reach_in from bytes k None t w plain = rests_reach scope own others flying t w plain
  datagram_reach_in from bytes k (Some u) t w plain = slots_reach t _ _ w plain

  datagram_reach_at : (from : Addr) (bytes : List ℕ) (o : Option ℕ) (t : SocketsRecord) (w : Wanted) → ArePlain own t → Reaches scope own others flying (t, w) ((datagram_at from bytes o t).1, w)
  datagram_reach_at from bytes None t w plain = rests_reach scope own others flying t w plain
  datagram_reach_at from bytes (Some k) t w plain = datagram_reach_in from bytes k (udp_in k t) t w plain

  datagram_reach : (from to : Addr) (bytes : List ℕ) (t : SocketsRecord) (w : Wanted) → ArePlain own t → Reaches scope own others flying (t, w) ((datagram_arrives from to bytes t).1, w)
  unfolding datagram_arrives
  datagram_reach from to bytes t w plain = datagram_reach_at from bytes (position (takes_in from to) t.udp) t w plain

  pub arrival_reach : (load : Load) (now : Time) (p : Packet) (t : SocketsRecord) (w : Wanted) → Contains (flying ++ packets_of w) p → ArePlain own t → Reaches scope own others flying (t, w) (arrives_by load now p t w).1
  arrival_reach (Udp bytes) now p t w c plain = datagram_reach p.from p.to bytes t w plain
  arrival_reach (Tcp flags seq ack window text) now p t w c plain = segment_reach now p t w c plain

  -- an alarm comes
  pub alarm_reach : (now : Time) (k serial : ℕ) (t : SocketsRecord) (w : Wanted) → ArePlain own t → Reaches scope own others flying (t, w) (alarm_comes now k serial t w)
  unfolding alarm_comes
  alarm_reach now k serial t w plain =
      acts_reach scope own others flying k (socket_expires now k serial) t w plain
      (λ s at here. alarm_does scope own flying now k serial s w here)
