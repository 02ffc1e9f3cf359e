-- an act on the record of a socket leads
use Rattle.std.proofs.Common.{◌≡◌, inl, ℕ, ◌^◌, ◌<◌, Bool, false, List, [], ◌∷◌, ◌++◌, Option, Some, None, refl, sym, ap, subst, ◌∙◌, append-nil}
use Rattle.std.proofs.lemmas.List.Sorted.{IsPermutation-refl}
use Rattle.sim_base.specs.Addresses.{loopback, is_same_ip}
use Rattle.sim_base.specs.declared.address.Ip.{Ip}
use Rattle.sim_base.specs.declared.address.Addr.{Addr}
use Rattle.sim_base.specs.declared.packet.Packet.{Packet}
use Rattle.sim_base.specs.declared.time.Time.{Time}
use Rattle.sock_tcp.specs.connection.Tcb.{Tcb, Turn}
use Rattle.sock_tcp.specs.connection.Timer.{timer_of}
use Rattle.sock_tcp.specs.connection.Process.{opened}
use Rattle.sock_tcp.specs.listener.Listen.{Listen}
use Rattle.tcp_laws.specs.Acts.{Act, acted}
use Rattle.tcp_laws.specs.Acts.Start.{active}
use Rattle.tcp_laws.proofs.Tests.{by_test}
use Rattle.tcp_streams.specs.Exchange.{MayAct}
use Rattle.host_wants.specs.Wanted.{Wanted, sends}
use Rattle.host_sockets.specs.TcpSocket.{TcpSocket, with_tcb}
use Rattle.host_sockets.specs.TcpActs.{Acted, unacted, is_let_go, starts, turned, turned_in, record_acts}
use Rattle.host_sockets.specs.Records.{own_record, kept_records, records_at}
use Rattle.socket_streams.specs.Records.{packets_of, exchange_with}
use Rattle.socket_streams.specs.Inside.{IsInside}
use Rattle.socket_streams.specs.Leads.{Leads}
use Rattle.socket_streams.specs.May.{IsPlain}
use Rattle.socket_streams.proofs.Chains.{both, goes, acts_among, begins_among}
use Rattle.socket_streams.proofs.Listening.{Flown}
use Rattle.socket_streams.proofs.Shares.{same_permutation}
use Rattle.socket_streams.proofs.Wants.{starts_flown}

-- a turn of a record, whatever stands beside it
abbrev pub TurnLeads : (Addr → Addr → Bool) → Ip → List Packet → Tcb → Turn → Type 0
TurnLeads scope own flying r t =
    (rest : List Tcb) (after : List Packet) → Flown flying t.sent after
    → Leads scope own (exchange_with (r ∷ rest) flying) (exchange_with (t.tcb ∷ rest) after)

pub act_leads : (scope : Addr → Addr → Bool) (own : Ip) (flying : List Packet) (r : Tcb) (act : Act) → MayAct flying r act → TurnLeads scope own flying r (acted act r)
act_leads scope own flying r act may rest after flown =
    acts_among scope own (exchange_with (r ∷ rest) flying) (exchange_with ((acted act r).tcb ∷ rest) after) r rest act (IsPermutation-refl (r ∷ rest)) may (IsPermutation-refl ((acted act r).tcb ∷ rest)) flown

-- one behind another that sends nothing
pub second_leads : (scope : Addr → Addr → Bool) (own : Ip) (flying : List Packet) (r : Tcb) (first second : Act) → MayAct flying r first → (acted first r).sent ≡ [] → MayAct flying (acted first r).tcb second → TurnLeads scope own flying r (acted second (acted first r).tcb)
second_leads scope own flying r first second may quiet may_then rest after flown =
    let between = (acted first r).tcb in
    both scope own (exchange_with (r ∷ rest) flying) (exchange_with (between ∷ rest) flying) (exchange_with ((acted second between).tcb ∷ rest) after)
    (act_leads scope own flying r first may rest flying (λ p c. inl c))
    (act_leads scope own flying between second may_then rest after flown)

-- what an act on a socket does to the records and the packets
pub record Does (scope : Addr → Addr → Bool) (own : Ip) (flying : List Packet) (s : TcpSocket) (w : Wanted) (a : Acted) : Type 0 where
  pub plain : IsPlain own a.socket
  pub leads : (others : List Tcb) → Leads scope own (exchange_with (records_at s ++ others) (flying ++ packets_of w)) (exchange_with ((records_at a.socket ++ a.gone) ++ others) (flying ++ packets_of a.wanted))

pub rests_does : (scope : Addr → Addr → Bool) (own : Ip) (flying : List Packet) (s : TcpSocket) (w : Wanted) → IsPlain own s → Does scope own flying s w (unacted s w)
rests_does scope own flying s w plain = record {
  plain = record { listens = plain.listens; here = plain.here };
  leads = λ others.
      goes scope own (exchange_with (records_at s ++ others) (flying ++ packets_of w)) (exchange_with ((records_at s ++ []) ++ others) (flying ++ packets_of w))
      (same_permutation ((records_at s ++ []) ++ others) (records_at s ++ others) (ap (λ (xs : List Tcb). xs ++ others) (append-nil (records_at s))))
      (λ p c. inl c);
}

-- the socket whose timer starts is as it was beside
starts_as : (now : Time) (k : ℕ) (o : Option Time) (s : TcpSocket) (w : Wanted) → ((starts now k o s w).0.tcb ≡ s.tcb) × ((starts now k o s w).0.listen ≡ s.listen) × ((starts now k o s w).0.bound ≡ s.bound)
starts_as now k None s w = (refl, refl, refl)
starts_as now k (Some length) s w = (refl, refl, refl)

turned_records : (now : Time) (k : ℕ) (t : Turn) (s : TcpSocket) (w : Wanted) → s.listen ≡ None → records_at (turned now k t s w).socket ++ (turned now k t s w).gone ≡ t.tcb ∷ []
unfolding turned
turned_records now k t s w none =
    let started = starts now k (timer_of t) (with_tcb t.tcb s) (sends t.sent w) in
    let same = starts_as now k (timer_of t) (with_tcb t.tcb s) (sends t.sent w) in
    by_test (λ (a : Acted). records_at a.socket ++ a.gone ≡ t.tcb ∷ []) (is_let_go t.tcb started.0) _ _
    (λ e. refl)
    (λ e.
    append-nil (records_at started.0)
    ∙ (ap (λ (o : Option Tcb). own_record o ++ kept_records started.0.listen) same.0
    ∙ ap (λ (o : Option Listen). t.tcb ∷ kept_records o) (same.1 ∙ none)))

turned_plain : (own : Ip) (now : Time) (k : ℕ) (t : Turn) (s : TcpSocket) (w : Wanted) → s.listen ≡ None → IsPlain own s → IsPlain own (turned now k t s w).socket
unfolding turned
turned_plain own now k t s w none plain =
    let started = starts now k (timer_of t) (with_tcb t.tcb s) (sends t.sent w) in
    let same = starts_as now k (timer_of t) (with_tcb t.tcb s) (sends t.sent w) in
    by_test (λ (a : Acted). IsPlain own a.socket) (is_let_go t.tcb started.0) _ _
    (λ e. record { listens = λ l k. cc; here = λ at k. plain.here at (sym same.2 ∙ k) })
    (λ e. record {
      listens = λ l k. let no : None ≡ Some l = sym none ∙ (sym same.1 ∙ k) in cc;
      here = λ at k. plain.here at (sym same.2 ∙ k);
    })

turned_flown : (flying : List Packet) (now : Time) (k : ℕ) (t : Turn) (s : TcpSocket) (w : Wanted) → Flown (flying ++ packets_of w) t.sent (flying ++ packets_of (turned now k t s w).wanted)
unfolding turned
turned_flown flying now k t s w =
    let started = starts now k (timer_of t) (with_tcb t.tcb s) (sends t.sent w) in
    by_test (λ (a : Acted). Flown (flying ++ packets_of w) t.sent (flying ++ packets_of a.wanted)) (is_let_go t.tcb started.0) _ _
    (λ e. starts_flown flying t.sent now k (timer_of t) (with_tcb t.tcb s) w)
    (λ e. starts_flown flying t.sent now k (timer_of t) (with_tcb t.tcb s) w)

-- the records of a socket that doesn't listen
alone : (s : TcpSocket) (o : Option Tcb) → s.tcb ≡ o → s.listen ≡ None → records_at s ≡ own_record o ++ []
alone s o e none =
    ap (λ (x : Option Tcb). own_record x ++ kept_records s.listen) e ∙ ap (λ (x : Option Listen). own_record o ++ kept_records x) none

turned_does : (scope : Addr → Addr → Bool) (own : Ip) (flying : List Packet) (now : Time) (k : ℕ) (r : Tcb) (t : Turn) (s : TcpSocket) (w : Wanted) → s.tcb ≡ Some r → s.listen ≡ None → IsPlain own s → TurnLeads scope own (flying ++ packets_of w) r t → Does scope own flying s w (turned now k t s w)
turned_does scope own flying now k r t s w e none plain leads =
    let a = turned now k t s w in
    let before = flying ++ packets_of w in
    let after = flying ++ packets_of a.wanted in
    record {
      plain = turned_plain own now k t s w none plain;
      leads = λ others.
          subst (λ (xs : List Tcb). Leads scope own (exchange_with (xs ++ others) before) (exchange_with ((records_at a.socket ++ a.gone) ++ others) after)) (sym (alone s (Some r) e none))
          (subst (λ (xs : List Tcb). Leads scope own (exchange_with (r ∷ others) before) (exchange_with (xs ++ others) after)) (sym (turned_records now k t s w none))
          (leads others after (turned_flown flying now k t s w)));
    }

-- a socket with a record doesn't listen
listens_not : (own : Ip) (s : TcpSocket) (r : Tcb) (o : Option Listen) → s.listen ≡ o → s.tcb ≡ Some r → IsPlain own s → s.listen ≡ None
listens_not own s r None e k plain = e
listens_not own s r (Some l) e k plain = let no : Some r ≡ None = sym k ∙ plain.listens l e in cc

record_does_in : (scope : Addr → Addr → Bool) (own : Ip) (flying : List Packet) (now : Time) (k : ℕ) (act : Tcb → Turn) (o : Option Tcb) (s : TcpSocket) (w : Wanted) → s.tcb ≡ o → IsPlain own s → ((r : Tcb) → s.tcb ≡ Some r → TurnLeads scope own (flying ++ packets_of w) r (act r)) → Does scope own flying s w (turned_in now k act o s w)
record_does_in scope own flying now k act None s w e plain leads = rests_does scope own flying s w plain
record_does_in scope own flying now k act (Some r) s w e plain leads =
    turned_does scope own flying now k r (act r) s w e (listens_not own s r s.listen refl e plain) plain (leads r e)

pub record_does : (scope : Addr → Addr → Bool) (own : Ip) (flying : List Packet) (now : Time) (k : ℕ) (act : Tcb → Turn) (s : TcpSocket) (w : Wanted) → IsPlain own s → ((r : Tcb) → s.tcb ≡ Some r → TurnLeads scope own (flying ++ packets_of w) r (act r)) → Does scope own flying s w (record_acts now k act s w)
record_does scope own flying now k act s w plain leads = record_does_in scope own flying now k act s.tcb s w refl plain leads

-- a socket opens a record
pub opens_does : (scope : Addr → Addr → Bool) (own : Ip) (flying : List Packet) (now : Time) (k : ℕ) (local to : Addr) (iss : ℕ) (s : TcpSocket) (w : Wanted) → iss < 2 ^ 32 → s.tcb ≡ None → s.listen ≡ None → (is_same_ip own loopback ≡ false → IsInside own local to) → IsPlain own s → Does scope own flying s w (turned now k (opened local to iss) s w)
opens_does scope own flying now k local to iss s w first e none inside plain =
    let t = opened local to iss in
    let a = turned now k t s w in
    let before = flying ++ packets_of w in
    let after = flying ++ packets_of a.wanted in
    record {
      plain = turned_plain own now k t s w none plain;
      leads = λ others.
          subst (λ (xs : List Tcb). Leads scope own (exchange_with (xs ++ others) before) (exchange_with ((records_at a.socket ++ a.gone) ++ others) after)) (sym (alone s None e none))
          (subst (λ (xs : List Tcb). Leads scope own (exchange_with others before) (exchange_with (xs ++ others) after)) (sym (turned_records now k t s w none))
          (begins_among scope own (exchange_with others before) (exchange_with (t.tcb ∷ others) after) (active local to iss) first tt inside (IsPermutation-refl (t.tcb ∷ others)) (turned_flown flying now k t s w)));
    }
