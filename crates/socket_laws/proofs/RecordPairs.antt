-- no act on a record, and none of a listener, makes a live record of two ends, but for a SYN that comes and one that is sent
use Rattle.std.proofs.Common.{◌≡◌, ℕ, ◌+◌, ◌≤◌, ◌%◌, ◌^◌, ◌==◌, ◌&&◌, nat_lt, not, List, [], length, Bool, true, false, Option, Some, None, slice_get, refl, sym, ap, ◌∙◌, sum_by, arith}
use Rattle.std.proofs.lemmas.Bool.Decides.{nat_tests}
use Rattle.std.proofs.lemmas.List.Sums.{sum_by_push}
use Rattle.sim_base.specs.Addresses.{is_same, at_port}
use Rattle.sim_base.specs.declared.address.Ip.{Ip}
use Rattle.sim_base.specs.declared.address.Addr.{Addr}
use Rattle.sim_base.specs.declared.packet.Packet.{Packet}
use Rattle.sim_base.specs.declared.time.Time.{Time}
use Rattle.sock_tcp.specs.declared.segment.header.Header.{Header}
use Rattle.sock_tcp.specs.segment.Control.{fresh_control}
use Rattle.sock_tcp.specs.segment.Refusal.{one_if}
use Rattle.sock_tcp.specs.segment.State.{is_over}
use Rattle.sock_tcp.specs.connection.Begin.{begin}
use Rattle.sock_tcp.specs.connection.Pairs.{is_pair, place_in}
use Rattle.sock_tcp.specs.connection.Tcb.{Tcb, Turn}
use Rattle.sock_tcp.specs.connection.Timer.{timer_of}
use Rattle.sock_tcp.specs.connection.Arrival.{takes_packet}
use Rattle.sock_tcp.specs.connection.Process.{fresh_tcb, opened, answered, expires}
use Rattle.sock_tcp.specs.listener.Listen.{Listen, Heard, without, replaced, requeued, nothing_heard, record_acts, kept_acts, record_made, makes_record, asked, load_header, new_heard, hears, hears_timer, is_kept}
use Rattle.tcp_laws.proofs.Tests.{by_test}
use Rattle.host_wants.specs.Wanted.{Wanted, sends}
use Rattle.host_sockets.specs.TcpSocket.{TcpSocket, with_tcb, has_record, has_record_in, keeps_record, keeps_record_in}
use Rattle.socket_laws.specs.Pairs.{live, live_in, kept_in, live_of}
use Rattle.host_sockets.specs.TcpActs as acts
use Rattle.host_sockets.specs.TcpActs.{Acted, unacted, is_let_go, let_go, starts, turned, turned_in}
use Rattle.host_sockets.specs.ListenerActs.{heard}
use Rattle.socket_laws.proofs.Staying.{Same, Stays, packet_stays, expiry_stays}
use Rattle.socket_laws.proofs.Sums.{sum_set, sum_remove, none_sum, all_passed, nothing_past, one_le}

-- a record
pair_before : (over over' same same' : Bool) → (over ≡ true → over' ≡ true) → same' ≡ same → (not over' && same') ≡ true → (not over && same) ≡ true
pair_before true true same same' stays e p = cc
pair_before true false same same' stays e p = let k = stays refl in cc
pair_before false true same same' stays e p = cc
pair_before false false same same' stays e p = sym e ∙ p

same_ends : (own other local peer local' peer' : Addr) → local ≡ local' → peer ≡ peer' → (is_same local' own && is_same peer' other) ≡ (is_same local own && is_same peer other)
same_ends own other local peer local' peer' e g =
    ap (λ (x : Addr). is_same x own && is_same peer' other) (sym e) ∙ ap (λ (x : Addr). is_same local own && is_same x other) (sym g)

pub stays_live : (own other : Addr) (r r' : Tcb) → Same r.control.local r.control.peer (is_over r.control.state) r' → live own other r' ≤ live own other r
stays_live own other r r' h =
    one_le (is_pair own other r'.control) (is_pair own other r.control)
    (pair_before (is_over r.control.state) (is_over r'.control.state) (is_same r.control.local own && is_same r.control.peer other) (is_same r'.control.local own && is_same r'.control.peer other) h.over
    (same_ends own other r.control.local r.control.peer r'.control.local r'.control.peer h.local h.peer))

-- those that begin
pub opened_live : (own other local peer : Addr) (iss : ℕ) → live own other (opened local peer iss).tcb ≡ one_if (is_same local own && is_same peer other)
unfolding opened fresh_tcb fresh_control
opened_live own other local peer iss = refl

answered_live : (own other local peer : Addr) (iss seq : ℕ) → live own other (answered local peer iss seq).tcb ≡ one_if (is_same local own && is_same peer other)
unfolding answered fresh_tcb fresh_control
answered_live own other local peer iss seq = refl

-- the socket of a record
starts_live : (own other : Addr) (now : Time) (k : ℕ) (o : Option Time) (s : TcpSocket) (w : Wanted) → live_of own other (starts now k o s w).0 ≡ live_of own other s
starts_live own other now k None s w = refl
starts_live own other now k (Some length) s w = refl

pub turned_live : (own other : Addr) (now : Time) (k : ℕ) (t : Turn) (s : TcpSocket) (w : Wanted) → live_of own other (turned now k t s w).socket ≤ live own other t.tcb + kept_in own other s.listen
unfolding turned
turned_live own other now k t s w =
    let started = starts now k (timer_of t) (with_tcb t.tcb s) (sends t.sent w) in
    let same = starts_live own other now k (timer_of t) (with_tcb t.tcb s) (sends t.sent w) in
    by_test (λ (a : Acted). live_of own other a.socket ≤ live own other t.tcb + kept_in own other s.listen) (is_let_go t.tcb started.0) _ _
    (λ e. omega arith)
    (λ e. omega (arith, same))

lowers_in : (own other : Addr) (now : Time) (k : ℕ) (act : Tcb → Turn) (o : Option Tcb) (s : TcpSocket) (w : Wanted) → Stays act → s.tcb ≡ o → live_of own other (turned_in now k act o s w).socket ≤ live_of own other s
lowers_in own other now k act None s w stays e = omega arith
lowers_in own other now k act (Some r) s w stays e =
    let after = turned_live own other now k (act r) s w in
    let less = stays_live own other r (act r).tcb (stays r) in
    let at : live_in own other s.tcb ≡ live own other r = ap (live_in own other) e in
    omega (arith, after, less, at)

pub record_lowers : (own other : Addr) (now : Time) (k : ℕ) (act : Tcb → Turn) (s : TcpSocket) (w : Wanted) → Stays act → live_of own other (acts.record_acts now k act s w).socket ≤ live_of own other s
record_lowers own other now k act s w stays = lowers_in own other now k act s.tcb s w stays refl

-- the records of a listener
abbrev pub count : Addr → Addr → Listen → ℕ
count own other l = sum_by (live own other) l.records

without_count : (own other : Addr) (place : ℕ) (l : Listen) → count own other (without place l) ≤ count own other l
unfolding without
without_count own other place l = sum_remove (live own other) l.records place

requeued_count : (own other : Addr) (place : ℕ) (before : Bool) (r : Tcb) (l : Listen) → count own other (requeued place before r l) ≤ count own other l
unfolding requeued
requeued_count own other place before r l =
    let P : Listen → Type 0 = λ m. count own other m ≤ count own other l in
    by_test P r.control.was_established _ _
    (λ e. by_test P before _ _ (λ b. omega arith) (λ b. omega arith))
    (λ e. by_test P (is_over r.control.state) _ _ (λ b. without_count own other place l) (λ b. omega arith))

acts_count : (own other : Addr) (act : Turn → Turn) (place : ℕ) (o : Option Tcb) (l : Listen) (otherwise : Heard) (n : ℕ) → Stays (λ r. act (begin r)) → slice_get l.records place ≡ o → (o ≡ None → count own other otherwise.listen ≤ count own other l + n) → count own other (record_acts act place o l otherwise).listen ≤ count own other l + n
acts_count own other act place None l otherwise n stays at none = none refl
acts_count own other act place (Some r) l otherwise n stays at none =
    let r' : Tcb = (act (begin r)).tcb in
    let less = stays_live own other r r' (stays r) in
    let set_count = sum_set (live own other) l.records place r r' 0 at (omega (arith, less)) in
    let after = requeued_count own other place r.control.was_established r' (replaced place r' l) in
    omega (arith, set_count, after)

not_kept : (place n : ℕ) → n ≤ place → nat_lt place n ≡ false
not_kept place n b = grind (arith, nat_tests)

kept_count : (own other : Addr) (act : Turn → Turn) (local peer : Addr) (l : Listen) (otherwise : Heard) (n : ℕ) → Stays (λ r. act (begin r)) → (is_kept local peer l ≡ false → count own other otherwise.listen ≤ count own other l + n) → count own other (kept_acts act local peer l otherwise).listen ≤ count own other l + n
unfolding kept_acts
kept_count own other act local peer l otherwise n stays none =
    let place = place_in local peer l.records in
    acts_count own other act place (slice_get l.records place) l otherwise n stays refl
    (λ e. none (not_kept place (length l.records) (nothing_past l.records place e)))

abbrev pub Matches : Packet → Addr → Addr → Bool
Matches p own other = is_same p.to own && is_same p.from other

made_count : (own other : Addr) (p : Packet) (iss seq : ℕ) (l : Listen) → count own other (record_made (answered p.to p.from iss seq) l).listen ≤ count own other l + one_if (Matches p own other)
unfolding record_made
made_count own other p iss seq l =
    omega (arith, sum_by_push (live own other) l.records (answered p.to p.from iss seq).tcb, answered_live own other p.to p.from iss seq)

asked_count : (own other : Addr) (p : Packet) (h : Header) (word : ℕ) (l : Listen) → count own other (asked p h word l).listen ≤ count own other l + one_if (Matches p own other)
unfolding asked
asked_count own other p h word l =
    by_test (λ (x : Heard). count own other x.listen ≤ count own other l + one_if (Matches p own other)) (makes_record h l) _ _
    (λ e. made_count own other p (word % 2 ^ 32) h.seq l)
    (λ e. omega arith)

new_count : (own other : Addr) (p : Packet) (o : Option Header) (word : ℕ) (l : Listen) → count own other (new_heard p o word l).listen ≤ count own other l + one_if (Matches p own other)
new_count own other p None word l = omega arith
new_count own other p (Some h) word l = asked_count own other p h word l

-- a segment makes at most the record of its ends, where the listener keeps none
pub hears_count : (own other : Addr) (p : Packet) (word : ℕ) (l : Listen) (n : ℕ) → (is_kept p.to p.from l ≡ false → one_if (Matches p own other) ≤ n) → count own other (hears p word l).listen ≤ count own other l + n
unfolding hears
hears_count own other p word l n fits =
    kept_count own other (takes_packet p) p.to p.from l (new_heard p (load_header p.load) word l) n (packet_stays p)
    (λ e. let new = new_count own other p (load_header p.load) word l in let b = fits e in omega (arith, new, b))

pub timer_count : (own other local peer : Addr) (l : Listen) → count own other (hears_timer local peer l).listen ≤ count own other l
unfolding hears_timer
timer_count own other local peer l =
    let c = kept_count own other expires local peer l (nothing_heard l) 0 expiry_stays (λ e. omega arith) in
    omega (arith, c)

pub heard_live : (own other : Addr) (now : Time) (k : ℕ) (local peer : Addr) (h : Heard) (gone : List Tcb) (s : TcpSocket) (w : Wanted) → live_of own other (heard now k local peer h gone s w).socket ≡ live_in own other s.tcb + count own other h.listen
unfolding heard
heard_live own other now k local peer h gone s w = refl

pub fresh_count : (own other local : Addr) (n : ℕ) (l : Listen) → l.records ≡ [] → count own other l ≡ 0
fresh_count own other local n l e = ap (sum_by (live own other)) e

-- a socket that has no live record of two ends
no_record : (own other : Addr) (o : Option Tcb) → has_record_in own other o ≡ false → live_in own other o ≡ 0
no_record own other None e = refl
no_record own other (Some r) e = ap one_if e

none_kept : (own other : Addr) (o : Option Listen) → keeps_record_in own other o ≡ false → kept_in own other o ≡ 0
none_kept own other None e = refl
none_kept own other (Some l) e =
    let p : Tcb → Bool = λ r. is_pair own other r.control in
    none_sum (live own other) p (λ r f. ap one_if f) l.records (all_passed p l.records e)

pub none_live : (own other : Addr) (s : TcpSocket) → has_record own other s ≡ false → keeps_record own other s ≡ false → live_of own other s ≡ 0
none_live own other s e g =
    let a = no_record own other s.tcb e in
    let b = none_kept own other s.listen g in
    omega (arith, a, b)

-- ends that are the same
same_number : (n m : ℕ) → (n == m) ≡ true → n ≡ m
same_number n m e = grind (arith, nat_tests)

and_first : (a b : Bool) → (a && b) ≡ true → a ≡ true
and_first true b e = refl
and_first false b e = cc

and_second : (a b : Bool) → (a && b) ≡ true → b ≡ true
and_second true b e = e
and_second false b e = cc

ip_of : ℕ → Ip
ip_of bits = record { bits = bits }

pub same_end : (a b : Addr) → is_same a b ≡ true → a ≡ b
unfolding ip_of
same_end a b e =
    let bits = same_number a.ip.bits b.ip.bits (and_first (a.ip.bits == b.ip.bits) (a.port == b.port) e) in
    let port = same_number a.port b.port (and_second (a.ip.bits == b.ip.bits) (a.port == b.port) e) in
    ap (λ (n : ℕ). at_port (ip_of n) a.port) bits ∙ ap (λ (n : ℕ). at_port b.ip n) port

pub matching : (a b own other : Addr) → (is_same a own && is_same b other) ≡ true → (a ≡ own) × (b ≡ other)
matching a b own other e =
    (same_end a own (and_first (is_same a own) (is_same b other) e), same_end b other (and_second (is_same a own) (is_same b other) e))
