-- what listeners, arrivals, alarms and close do to a socket
use Rattle.std.proofs.Common.{◌≡◌, inl, inr, ⊎_elim, ℕ, ◌==◌, Bool, true, List, ◌++◌, Contains, Option, Some, None, refl, sym, ap, subst, ◌∙◌, append_assoc}
use Rattle.sim_base.specs.declared.address.Ip.{Ip}
use Rattle.sim_base.specs.declared.address.Addr.{Addr}
use Rattle.sim_base.specs.declared.packet.Packet.{Packet}
use Rattle.sim_base.specs.declared.time.Time.{Time}
use Rattle.sock_tcp.specs.connection.Begin.{begin}
use Rattle.sock_tcp.specs.connection.Tcb.{Tcb}
use Rattle.sock_tcp.specs.connection.Arrival.{takes_packet}
use Rattle.sock_tcp.specs.connection.Process.{expires, closes}
use Rattle.sock_tcp.specs.listener.Listen.{Listen, Heard, hears, hears_timer, hears_close}
use Rattle.tcp_laws.specs.Acts.Act.{arrival, expiry, close}
use Rattle.tcp_laws.proofs.Tests.{by_test}
use Rattle.tcp_streams.proofs.Voids.{resets_void}
use Rattle.host_sockets.specs.declared.tcp_sock.KeptTimer.{KeptTimer}
use Rattle.host_wants.specs.Wanted.{Wanted, sends, draws_word}
use Rattle.host_sockets.specs.TcpSocket.{TcpSocket, has_record, has_record_in}
use Rattle.host_sockets.specs.TcpActs.{Acted}
use Rattle.sock_tcp.specs.listener.Dropped.{dropped}
use Rattle.host_sockets.specs.ListenerActs.{timer_starts, heard}
use Rattle.host_sockets.specs.Closing.{unheld, closes_in, closed}
use Rattle.host_sockets.specs.Arriving.{record_takes, word_drawn, hears_in, listener_hears}
use Rattle.host_sockets.specs.Alarms.{kept_timer, kept_expires, timer_expires, socket_expires}
use Rattle.host_sockets.specs.Records.{own_record, kept_records, records_at}
use Rattle.socket_streams.specs.Records.{packets_of, exchange_with}
use Rattle.socket_streams.specs.Leads.{Leads}
use Rattle.socket_streams.specs.May.{IsPlain}
use Rattle.socket_streams.proofs.Chains.{goes}
use Rattle.socket_streams.proofs.Listening.{Flown, LeadsBeside, pair_ends, hears_leads, timer_leads}
use Rattle.socket_streams.proofs.Shares.{same_permutation}
use Rattle.socket_streams.proofs.Wants.{sends_flown, timer_starts_flown}
use Rattle.socket_streams.proofs.Turns.{Does, act_leads, rests_does, record_does}

-- a listener hears: all of its socket's records are its own
heard_does : (scope : Addr → Addr → Bool) (own : Ip) (flying : List Packet) (now : Time) (k : ℕ) (a b : Addr) (l : Listen) (h : Heard) (gone : List Tcb) (s : TcpSocket) (w from : Wanted) → s.listen ≡ Some l → IsPlain own s → packets_of from ≡ packets_of w → ((others : List Tcb) (after : List Packet) → Flown (flying ++ packets_of w) h.sent after → LeadsBeside scope own l h gone others (flying ++ packets_of w) after) → Does scope own flying s w (heard now k a b h gone s from)
unfolding heard
heard_does scope own flying now k a b l h gone s w from e plain same leads =
    let none : s.tcb ≡ None = plain.listens l e in
    let was : records_at s ≡ l.records =
    ap (λ (o : Option Tcb). own_record o ++ kept_records s.listen) none ∙ ap (λ (o : Option Listen). kept_records o) e in
    let started = timer_starts now k a b h.timer s.timers (sends h.sent from) in
    let before = flying ++ packets_of w in
    let after = flying ++ packets_of started.1 in
    let flown : Flown before h.sent after =
    subst (λ (xs : List Packet). Flown (flying ++ xs) h.sent after) same (timer_starts_flown flying h.sent now k a b h.timer s.timers from) in
    record {
      plain = record { listens = λ m q. none; here = plain.here };
      leads = λ others.
          let is : h.listen.records ++ (gone ++ others) ≡ ((own_record s.tcb ++ h.listen.records) ++ gone) ++ others =
          sym (append_assoc h.listen.records gone others)
          ∙ ap (λ (o : Option Tcb). ((own_record o ++ h.listen.records) ++ gone) ++ others) (sym none) in
          subst (λ (xs : List Tcb). Leads scope own (exchange_with (xs ++ others) before) (exchange_with (((own_record s.tcb ++ h.listen.records) ++ gone) ++ others) after)) (sym was)
          (subst (λ (xs : List Tcb). Leads scope own (exchange_with (l.records ++ others) before) (exchange_with xs after)) is (leads others after flown));
    }

-- the word that is drawn for a new record sends nothing
word_packets : (p : Packet) (l : Listen) (w : Wanted) → packets_of (word_drawn p l w) ≡ packets_of w
word_packets p l w = by_test (λ (x : Wanted). packets_of x ≡ packets_of w) _ (draws_word w).1 w (λ e. refl) (λ e. refl)

hears_does_in : (scope : Addr → Addr → Bool) (own : Ip) (flying : List Packet) (now : Time) (p : Packet) (k : ℕ) (o : Option Listen) (s : TcpSocket) (w : Wanted) → s.listen ≡ o → Contains (flying ++ packets_of w) p → IsPlain own s → Does scope own flying s w (hears_in now p k o s w)
hears_does_in scope own flying now p k None s w e c plain = rests_does scope own flying s w plain
hears_does_in scope own flying now p k (Some l) s w e c plain =
    let word = (draws_word w).0 in
    heard_does scope own flying now k p.to p.from l (hears p word l) (dropped (takes_packet p) p.to p.from l) s w (word_drawn p l w) e plain (word_packets p l w)
    (λ others after flown. hears_leads scope own l p word others (flying ++ packets_of w) after c flown)

pub hears_does : (scope : Addr → Addr → Bool) (own : Ip) (flying : List Packet) (now : Time) (p : Packet) (k : ℕ) (s : TcpSocket) (w : Wanted) → Contains (flying ++ packets_of w) p → IsPlain own s → Does scope own flying s w (listener_hears now p k s w)
hears_does scope own flying now p k s w c plain = hears_does_in scope own flying now p k s.listen s w refl c plain

-- a segment arrives at the record of its ends
at_ends : (p : Packet) (o : Option Tcb) (r : Tcb) → o ≡ Some r → has_record_in p.to p.from o ≡ true → (r.control.local ≡ p.to) × (r.control.peer ≡ p.from)
at_ends p None r e h = cc
at_ends p (Some x) r e h =
    let same : x ≡ r = cc in
    subst (λ (y : Tcb). (y.control.local ≡ p.to) × (y.control.peer ≡ p.from)) same (pair_ends p.to p.from x h)

pub takes_does : (scope : Addr → Addr → Bool) (own : Ip) (flying : List Packet) (now : Time) (p : Packet) (k : ℕ) (s : TcpSocket) (w : Wanted) → Contains (flying ++ packets_of w) p → has_record p.to p.from s ≡ true → IsPlain own s → Does scope own flying s w (record_takes now p k s w)
takes_does scope own flying now p k s w c has plain =
    record_does scope own flying now k (λ r. takes_packet p (begin r)) s w plain
    (λ r e.
    let ends = at_ends p s.tcb r e has in
    act_leads scope own (flying ++ packets_of w) r (arrival p) (c, sym ends.0, sym ends.1))

-- an alarm
kept_does : (scope : Addr → Addr → Bool) (own : Ip) (flying : List Packet) (now : Time) (k : ℕ) (timer : KeptTimer) (o : Option Listen) (s : TcpSocket) (w : Wanted) → s.listen ≡ o → IsPlain own s → Does scope own flying s w (kept_expires now k timer o s w)
kept_does scope own flying now k timer None s w e plain = rests_does scope own flying s w plain
kept_does scope own flying now k timer (Some l) s w e plain =
    heard_does scope own flying now k timer.own timer.other l (hears_timer timer.own timer.other l) (dropped expires timer.own timer.other l) s w w e plain refl
    (λ others after flown. timer_leads scope own l timer.own timer.other others (flying ++ packets_of w) after flown)

timer_does : (scope : Addr → Addr → Bool) (own : Ip) (flying : List Packet) (now : Time) (k : ℕ) (o : Option KeptTimer) (s : TcpSocket) (w : Wanted) → IsPlain own s → Does scope own flying s w (timer_expires now k o s w)
timer_does scope own flying now k None s w plain = rests_does scope own flying s w plain
timer_does scope own flying now k (Some timer) s w plain = kept_does scope own flying now k timer s.listen s w refl plain

pub alarm_does : (scope : Addr → Addr → Bool) (own : Ip) (flying : List Packet) (now : Time) (k serial : ℕ) (s : TcpSocket) (w : Wanted) → IsPlain own s → Does scope own flying s w (socket_expires now k serial s w)
alarm_does scope own flying now k serial s w plain =
    by_test (λ (a : Acted). Does scope own flying s w a) (s.serial == serial) _ _
    (λ e. record_does scope own flying now k (λ r. expires (begin r)) s w plain (λ r q. act_leads scope own (flying ++ packets_of w) r expiry tt))
    (λ e. timer_does scope own flying now k (kept_timer serial s.timers) s w plain)

-- close(2)
closes_does_in : (scope : Addr → Addr → Bool) (own : Ip) (flying : List Packet) (now : Time) (k : ℕ) (o : Option Listen) (s : TcpSocket) (w : Wanted) → s.listen ≡ o → IsPlain own s → Does scope own flying s w (closes_in now k o s w)
unfolding hears_close
closes_does_in scope own flying now k None s w e plain =
    let does = record_does scope own flying now k (λ r. closes (begin r)) (unheld s) w (record { listens = λ l q. cc; here = λ at q. cc })
    (λ r q. act_leads scope own (flying ++ packets_of w) r close tt) in
    let a = closes_in now k None s w in
    let same : records_at (unheld s) ≡ records_at s = ap (λ (x : Option Listen). own_record s.tcb ++ kept_records x) (sym e) in
    record {
      plain = does.plain;
      leads = λ others.
          subst (λ (xs : List Tcb). Leads scope own (exchange_with (xs ++ others) (flying ++ packets_of w)) (exchange_with ((records_at a.socket ++ a.gone) ++ others) (flying ++ packets_of a.wanted))) same (does.leads others);
    }
closes_does_in scope own flying now k (Some l) s w e plain =
    let was : l.records ≡ records_at s =
    ap (λ (o : Option Listen). kept_records o) (sym e)
    ∙ ap (λ (o : Option Tcb). own_record o ++ kept_records s.listen) (sym (plain.listens l e)) in
    let resets = (hears_close l).sent in
    record {
      plain = record { listens = λ m q. cc; here = λ at q. cc };
      leads = λ others.
          goes scope own (exchange_with (records_at s ++ others) (flying ++ packets_of w)) (exchange_with (l.records ++ others) (flying ++ packets_of (sends resets w)))
          (same_permutation (l.records ++ others) (records_at s ++ others) (ap (λ (xs : List Tcb). xs ++ others) was))
          (λ p c. ⊎_elim (λ b. inl b) (λ r. inr (resets_void l.records p r)) (sends_flown flying resets w p c));
    }

pub closes_does : (scope : Addr → Addr → Bool) (own : Ip) (flying : List Packet) (now : Time) (k : ℕ) (s : TcpSocket) (w : Wanted) → IsPlain own s → Does scope own flying s w (closed now k s w)
closes_does scope own flying now k s w plain = closes_does_in scope own flying now k s.listen s w refl plain
