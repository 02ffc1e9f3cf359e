-- a live record is that of its two ends
use Rattle.std.proofs.Common.{◌≡◌, ◌≢◌, ℕ, List, [], ◌∷◌, slice_get, Bool, true, false, not, ◌&&◌, ◌||◌, ◌==◌, Option, Some, None, is_some, if◌then◌else◌, refl, sym, ap, subst, ◌∙◌}
use Rattle.std.specs.List.{list_any}
use Rattle.std.proofs.lemmas.Bool.{eqb-true, eq-eqb}
use Rattle.sim_base.specs.Addresses.{is_same}
use Rattle.sim_base.specs.declared.address.Addr.{Addr}
use Rattle.sock_tcp.specs.connection.Tcb.{Tcb}
use Rattle.sock_tcp.specs.segment.State.{is_over}
use Rattle.sock_tcp.specs.listener.Listen.{Listen}
use Rattle.host_sockets.specs.declared.tables.Ends.{Ends}
use Rattle.host_sockets.specs.declared.tcp_sock.TcpSock.{TcpSock}
use Rattle.host_sockets.specs.TcpSocket.{TcpSocket, has_record, has_record_in, keeps_record, keeps_record_in, listens_to, listens_in}
use Rattle.host_sockets.specs.inside.Ends.{same_ends, live_in, live_ends}
use Rattle.host_sockets.specs.SocketsStand.{SocketStands}
use Rattle.host_sockets.specs.inside.Indexing.{Finds}

pub by_bool : {P : Type 0} (b : Bool) → (b ≡ true → P) → (b ≡ false → P) → P
by_bool true holds fails = holds refl
by_bool false holds fails = fails refl

both : (a b : Bool) → (a && b) ≡ true → (a ≡ true) × (b ≡ true)
both true b e = (refl, e)
both false b e = cc

pub some_is : {A : Type 0} (a b : A) → Some a ≡ Some b → a ≡ b
some_is a b e = cc

ends_with : ℕ → ℕ → ℕ → ℕ → Ends
ends_with i p j q = record { own = record { ip = record { bits = i }; port = p }; other = record { ip = record { bits = j }; port = q } }

pub ends_is : (a b : Ends) → same_ends a b ≡ true → a ≡ b
unfolding ends_with
ends_is a b e =
    let own = both (is_same a.own b.own) (is_same a.other b.other) e in
    let one = both (a.own.ip.bits == b.own.ip.bits) (a.own.port == b.own.port) own.0 in
    let two = both (a.other.ip.bits == b.other.ip.bits) (a.other.port == b.other.port) own.1 in
    ap (λ (i : ℕ). ends_with i a.own.port a.other.ip.bits a.other.port) (eqb-true a.own.ip.bits b.own.ip.bits one.0)
    ∙ (ap (λ (p : ℕ). ends_with b.own.ip.bits p a.other.ip.bits a.other.port) (eqb-true a.own.port b.own.port one.1)
    ∙ (ap (λ (j : ℕ). ends_with b.own.ip.bits b.own.port j a.other.port) (eqb-true a.other.ip.bits b.other.ip.bits two.0)
    ∙ ap (λ (q : ℕ). ends_with b.own.ip.bits b.own.port b.other.ip.bits q) (eqb-true a.other.port b.other.port two.1)))

and_both : (a b : Bool) → a ≡ true → b ≡ true → (a && b) ≡ true
and_both true b e f = f
and_both false b e f = cc

same_self : (a : Addr) → is_same a a ≡ true
same_self a = and_both (a.ip.bits == a.ip.bits) (a.port == a.port) (eq-eqb a.ip.bits a.ip.bits refl) (eq-eqb a.port a.port refl)

-- a live record of these ends is found by them, and the other way round
live_by : (over : Bool) (local peer : Addr) (ends : Ends) → (if over then None else Some (record { own = local; other = peer })) ≡ Some ends → (not over && (is_same local ends.own && is_same peer ends.other)) ≡ true
live_by true local peer ends e = cc
live_by false local peer ends e =
    subst (λ (x : Ends). (is_same local x.own && is_same peer x.other) ≡ true) (some_is (record { own = local; other = peer }) ends e)
    (and_both (is_same local local) (is_same peer peer) (same_self local) (same_self peer))

live_has_in : (ends : Ends) (o : Option Tcb) → live_in o ≡ Some ends → has_record_in ends.own ends.other o ≡ true
live_has_in ends None e = cc
live_has_in ends (Some r) e = live_by (is_over r.control.state) r.control.local r.control.peer ends e

pub live_has : (ends : Ends) (s : TcpSocket) → live_ends s ≡ Some ends → has_record ends.own ends.other s ≡ true
live_has ends s e = live_has_in ends s.tcb e

by_live : (over : Bool) (local peer : Addr) (ends : Ends) → (not over && (is_same local ends.own && is_same peer ends.other)) ≡ true → (if over then None else Some (record { own = local; other = peer })) ≡ Some ends
by_live true local peer ends e = cc
by_live false local peer ends e = ap (λ (x : Ends). Some x) (ends_is (record { own = local; other = peer }) ends e)

has_live_in : (ends : Ends) (o : Option Tcb) → has_record_in ends.own ends.other o ≡ true → live_in o ≡ Some ends
has_live_in ends None e = cc
has_live_in ends (Some r) e = by_live (is_over r.control.state) r.control.local r.control.peer ends e

pub has_live : (own other : Addr) (s : TcpSocket) → has_record own other s ≡ true → live_ends s ≡ Some (record { own = own; other = other })
has_live own other s e = has_live_in (record { own = own; other = other }) s.tcb e

-- what keeps a record or listens is a listener
keeps_in : (own other : Addr) (o : Option Listen) → keeps_record_in own other o ≡ true → is_some o ≡ true
keeps_in own other None e = cc
keeps_in own other (Some l) e = refl

pub keeps_listens : (own other : Addr) (s : TcpSocket) → keeps_record own other s ≡ true → is_some s.listen ≡ true
keeps_listens own other s e = keeps_in own other s.listen e

hears_in : (to : Addr) (o : Option Listen) → listens_in to o ≡ true → is_some o ≡ true
hears_in to None e = cc
hears_in to (Some l) e = refl

pub hears_listens : (to : Addr) (s : TcpSocket) → listens_to to s ≡ true → is_some s.listen ≡ true
hears_listens to s e = hears_in to s.listen e

-- entries of other places stay
pub entry_stays : (places new : Ends → Option ℕ) (ends q : Ends) (place k : ℕ) → ((x : Ends) → same_ends ends x ≡ false → new x ≡ places x) → places ends ≡ Some place → k ≢ place → places q ≡ Some k → new q ≡ Some k
entry_stays places new ends q place k others here apart at =
    by_bool (same_ends ends q)
    (λ same. absurd (apart (some_is k place (sym at ∙ (ap places (sym (ends_is ends q same)) ∙ here)))))
    (λ differs. others q differs ∙ at)

pub entry_stays_by : (places new : Ends → Option ℕ) (ends q : Ends) (k : ℕ) → ((x : Ends) → same_ends ends x ≡ false → new x ≡ places x) → (ends ≡ q → ⊥) → places q ≡ Some k → new q ≡ Some k
entry_stays_by places new ends q k others apart at =
    by_bool (same_ends ends q)
    (λ same. absurd (apart (ends_is ends q same)))
    (λ differs. others q differs ∙ at)

-- what the tables have at two ends is the only one that may have them
pub among_one : (f : Ends → Option ℕ) (ears : List ℕ) (last : ℕ) (socks : List TcpSock) (own other : Addr) (place : ℕ) → Finds f ears (λ k. k ≢ last) socks → f (record { own = own; other = other }) ≡ Some place → (k : ℕ) (c : TcpSock) (s : TcpSocket) → k ≢ last → slice_get socks k ≡ Some c → SocketStands c s → has_record own other s ≡ true → list_any (λ j. j == k) (place ∷ []) ≡ true
among_one f ears last socks own other place h e k c s apart at stands holds =
    let there = h.records k c s (record { own = own; other = other }) apart at stands (has_live own other s holds) in
    ap (λ b. b || false) (eq-eqb place k (some_is place k (sym e ∙ there)))

pub among_none : (f : Ends → Option ℕ) (ears : List ℕ) (last : ℕ) (socks : List TcpSock) (own other : Addr) → Finds f ears (λ k. k ≢ last) socks → f (record { own = own; other = other }) ≡ None → (k : ℕ) (c : TcpSock) (s : TcpSocket) → k ≢ last → slice_get socks k ≡ Some c → SocketStands c s → has_record own other s ≡ true → list_any (λ (j : ℕ). j == k) [] ≡ true
among_none f ears last socks own other h e k c s apart at stands holds =
    let there = h.records k c s (record { own = own; other = other }) apart at stands (has_live own other s holds) in
    absurd (none_is k (sym e ∙ there))
  where
    none_is : (k : ℕ) → None ≡ Some k → ⊥
    none_is k e = cc
