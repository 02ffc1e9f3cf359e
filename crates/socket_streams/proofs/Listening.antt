-- the acts of a listener: the records that it keeps no more stay in the exchange
use Rattle.std.proofs.Common.{◌≡◌, ◌⊎◌, inl, ⊎_elim, ℕ, ◌%◌, ◌^◌, ◌&&◌, Bool, true, false, not, if◌then◌else◌, List, [], ◌∷◌, ◌++◌, slice_get, Contains, Option, Some, None, unwrap_or, refl, sym, ap, subst, ◌∙◌, append_assoc, append-nil, arith}
use Rattle.std.specs.List.{remove}
use Rattle.std.specs.List.Sorted.{IsPermutation}
use Rattle.std.proofs.lemmas.List.Folds.{find_at}
use Rattle.std.proofs.lemmas.List.Sorted.{IsPermutation-refl, IsPermutation-sym, IsPermutation-cons, IsPermutation-trans, IsPermutation-to_front, IsPermutation-middle, IsPermutation-append_left}
use Rattle.sim_base.specs.Addresses.{is_same}
use Rattle.sim_base.specs.declared.address.Ip.{Ip}
use Rattle.sim_base.specs.declared.address.Addr.{Addr}
use Rattle.sim_base.specs.declared.packet.Load.{Load}
use Rattle.sim_base.specs.declared.packet.Load.TheVariants.{Udp, Tcp}
use Rattle.sim_base.specs.declared.packet.Packet.{Packet}
use Rattle.sock_tcp.specs.segment.Header.{header_of}
use Rattle.sock_tcp.specs.segment.State.{is_over}
use Rattle.sock_tcp.specs.connection.Tcb.{Tcb}
use Rattle.sock_tcp.specs.connection.Pairs.{is_pair, place_in}
use Rattle.sock_tcp.specs.connection.Process.{answered, expires}
use Rattle.sock_tcp.specs.connection.Arrival.{takes_packet}
use Rattle.sock_tcp.specs.listener.Listen.{Listen, Heard, requeued, replaced, waits, without, record_heard, nothing_heard, record_acts, kept_acts, asks, has_room, makes_record, record_made, asked, load_header, new_heard, hears, hears_timer, accepted_at, accepted_from, accepts}
use Rattle.tcp_laws.specs.Acts.{Act, act_of, acted}
use Rattle.tcp_laws.specs.Acts.Start.{passive}
use Rattle.tcp_laws.specs.Acts.Act.{arrival, expiry}
use Rattle.tcp_laws.proofs.Tests.{by_test}
use Rattle.tcp_streams.specs.Exchange.{MayAct, AsksFrom}
use Rattle.tcp_streams.proofs.Members.{IsIn_from_Contains, found}
use Rattle.tcp_streams.proofs.Ends.{and_left, and_right, same_end}
use Rattle.sock_tcp.specs.listener.Dropped.{dropped_by, dropped}
use Rattle.socket_streams.specs.Records.{exchange_with}
use Rattle.socket_streams.specs.Leads.{Leads}
use Rattle.socket_streams.proofs.Chains.{goes, acts_among, begins_among}
use Rattle.socket_streams.proofs.Slots.{others_of}

-- what is on its way afterwards was so before, or was sent now
abbrev pub Flown : List Packet → List Packet → List Packet → Type 0
Flown before sent after = (p : Packet) → Contains after p → Contains before p ⊎ Contains sent p

-- what an act leaves, beside the records that left the listener
abbrev pub LeadsBeside : (Addr → Addr → Bool) → Ip → Listen → Heard → List Tcb → List Tcb → List Packet → List Packet → Type 0
LeadsBeside scope own l heard gone others flying after =
    Leads scope own (exchange_with (l.records ++ others) flying) (exchange_with (heard.listen.records ++ (gone ++ others)) after)

nothing : (scope : Addr → Addr → Bool) (own : Ip) (l : Listen) (others : List Tcb) (flying after : List Packet) → Flown flying [] after → LeadsBeside scope own l (nothing_heard l) [] others flying after
nothing scope own l others flying after flown =
    goes scope own (exchange_with (l.records ++ others) flying) (exchange_with (l.records ++ others) after) (IsPermutation-refl (l.records ++ others))
    (λ p c. ⊎_elim (λ k. inl k) (λ k. absurd (IsIn_from_Contains p [] k)) (flown p c))

-- the record at a place, and what is left after its act
stays : (r : Tcb) (rest : List Tcb) (l : Listen) → IsPermutation l.records (r ∷ rest) → IsPermutation (l.records ++ []) (r ∷ rest)
stays r rest l p =
    subst (λ (xs : List Tcb). IsPermutation xs (r ∷ rest)) (sym (append-nil l.records)) p

parts : (r : Tcb) (rest xs : List Tcb) → IsPermutation xs rest → IsPermutation (xs ++ r ∷ []) (r ∷ rest)
parts r rest xs p =
    IsPermutation-trans (xs ++ r ∷ []) (r ∷ xs) (r ∷ rest) (IsPermutation-to_front xs r) (IsPermutation-cons r xs rest p)

abbrev left_records : Bool → Bool → Bool → ℕ → Tcb → Listen → List Tcb
left_records made over before place r l =
    (if made then (if before then l else waits place l) else if over then without place l else l).records ++ (if over && not made then r ∷ [] else [])

leaves : (made over before : Bool) (place : ℕ) (r : Tcb) (l : Listen) (rest : List Tcb) → IsPermutation l.records (r ∷ rest) → IsPermutation (remove l.records place) rest → IsPermutation (left_records made over before place r l) (r ∷ rest)
unfolding without
leaves true true true place r l rest here gone = stays r rest l here
leaves true true false place r l rest here gone = stays r rest l here
leaves true false true place r l rest here gone = stays r rest l here
leaves true false false place r l rest here gone = stays r rest l here
leaves false true before place r l rest here gone = parts r rest (remove l.records place) gone
leaves false false before place r l rest here gone = stays r rest l here

record_leads : (scope : Addr → Addr → Bool) (own : Ip) (l : Listen) (place : ℕ) (act : Act) (r : Tcb) (others : List Tcb) (flying after : List Packet) → slice_get l.records place ≡ Some r → MayAct flying r act → Flown flying (acted act r).sent after → LeadsBeside scope own l (record_heard place r.control.was_established (acted act r) l) (dropped_by (act_of act) (Some r)) others flying after
unfolding requeued
record_leads scope own l place act r others flying after e may flown =
    let o = others_of l.records place r e in
    let t = (acted act r).tcb in
    let kept = (requeued place r.control.was_established t (replaced place t l)).records in
    let gone = dropped_by (act_of act) (Some r) in
    let left : IsPermutation (kept ++ gone) (t ∷ o.rest) =
    leaves t.control.was_established (is_over t.control.state) r.control.was_established place t (replaced place t l) o.rest (o.put t) (o.gone t) in
    let moved = subst (λ (xs : List Tcb). IsPermutation xs (t ∷ (o.rest ++ others))) (append_assoc kept gone others) (IsPermutation-append_left others (kept ++ gone) (t ∷ o.rest) left) in
    acts_among scope own (exchange_with (l.records ++ others) flying) (exchange_with (kept ++ (gone ++ others)) after) r (o.rest ++ others) act
    (IsPermutation-append_left others l.records (r ∷ o.rest) o.here) may moved flown

-- the record of two ends is at them
pub pair_ends : (own other : Addr) (r : Tcb) → is_pair own other r.control ≡ true → (r.control.local ≡ own) × (r.control.peer ≡ other)
pair_ends own other r e =
    let c = r.control in
    let ends = and_right (not (is_over c.state)) (is_same c.local own && is_same c.peer other) e in (
      same_end c.local own (and_left (is_same c.local own) (is_same c.peer other) ends),
      same_end c.peer other (and_right (is_same c.local own) (is_same c.peer other) ends),
    )

kept_leads : (scope : Addr → Addr → Bool) (own : Ip) (l : Listen) (act : Act) (a b : Addr) (otherwise : Heard) (others : List Tcb) (flying after : List Packet) (o : Option Tcb) → slice_get l.records (place_in a b l.records) ≡ o → ((r : Tcb) → r.control.local ≡ a → r.control.peer ≡ b → MayAct flying r act) → (Flown flying otherwise.sent after → LeadsBeside scope own l otherwise [] others flying after) → Flown flying (record_acts (act_of act) (place_in a b l.records) o l otherwise).sent after → LeadsBeside scope own l (record_acts (act_of act) (place_in a b l.records) o l otherwise) (dropped_by (act_of act) o) others flying after
kept_leads scope own l act a b otherwise others flying after None e may else_case flown = else_case flown
kept_leads scope own l act a b otherwise others flying after (Some r) e may else_case flown =
    let test : Tcb → Bool = λ x. is_pair a b x.control in
    let f = found test l.records r (find_at test l.records ∙ e) in
    let ends = pair_ends a b r f.1 in
    record_leads scope own l (place_in a b l.records) act r others flying after e (may r ends.0 ends.1) flown

-- a SYN that makes a record
makes : (scope : Addr → Addr → Bool) (own : Ip) (l : Listen) (p : Packet) (word first : ℕ) (others : List Tcb) (flying after : List Packet) → Contains flying p → AsksFrom first p.load → Flown flying (answered p.to p.from (word % 2 ^ 32) first).sent after → LeadsBeside scope own l (record_made (answered p.to p.from (word % 2 ^ 32) first) l) [] others flying after
unfolding record_made
makes scope own l p word first others flying after c a flown =
    let t = (answered p.to p.from (word % 2 ^ 32) first).tcb in
    let front = subst (λ (xs : List Tcb). IsPermutation xs (t ∷ (l.records ++ others))) (sym (append_assoc l.records (t ∷ []) others)) (IsPermutation-middle l.records t others) in
    begins_among scope own (exchange_with (l.records ++ others) flying) (exchange_with ((l.records ++ t ∷ []) ++ others) after)
    (passive p.to p.from (word % 2 ^ 32) first) (omega arith)
    (record { packet = p; flies = c; to = refl; from = refl; asks = a }) (λ apart. tt) front flown

new_leads : (scope : Addr → Addr → Bool) (own : Ip) (l : Listen) (p : Packet) (word : ℕ) (others : List Tcb) (flying after : List Packet) (load : Load) → p.load ≡ load → Contains flying p → Flown flying (new_heard p (load_header load) word l).sent after → LeadsBeside scope own l (new_heard p (load_header load) word l) [] others flying after
unfolding asked record_made
new_leads scope own l p word others flying after (Udp text) e c flown = nothing scope own l others flying after flown
new_leads scope own l p word others flying after (Tcp flags seq ack window text) e c flown =
    let h = header_of flags seq ack window in
    let P : Heard → Type 0 = λ heard. Flown flying heard.sent after → LeadsBeside scope own l heard [] others flying after in
    by_test P (makes_record h l) _ _
    (λ m k.
    let a = subst (AsksFrom seq) (sym e) (and_left (asks h) (has_room l) m, refl) in
    makes scope own l p word seq others flying after c a k)
    (λ m k. nothing scope own l others flying after k)
    flown

pub hears_leads : (scope : Addr → Addr → Bool) (own : Ip) (l : Listen) (p : Packet) (word : ℕ) (others : List Tcb) (flying after : List Packet) → Contains flying p → Flown flying (hears p word l).sent after → LeadsBeside scope own l (hears p word l) (dropped (takes_packet p) p.to p.from l) others flying after
unfolding hears kept_acts dropped
hears_leads scope own l p word others flying after c flown =
    kept_leads scope own l (arrival p) p.to p.from (new_heard p (load_header p.load) word l) others flying after (slice_get l.records (place_in p.to p.from l.records)) refl
    (λ r a b. (c, sym a, sym b))
    (new_leads scope own l p word others flying after p.load refl c)
    flown

pub timer_leads : (scope : Addr → Addr → Bool) (own : Ip) (l : Listen) (a b : Addr) (others : List Tcb) (flying after : List Packet) → Flown flying (hears_timer a b l).sent after → LeadsBeside scope own l (hears_timer a b l) (dropped expires a b l) others flying after
unfolding hears_timer kept_acts dropped
timer_leads scope own l a b others flying after flown =
    kept_leads scope own l expiry a b (nothing_heard l) others flying after (slice_get l.records (place_in a b l.records)) refl
    (λ r x y. tt)
    (nothing scope own l others flying after)
    flown

-- a record that is accepted leaves its listener
accepts_at : (l rest : Listen) (r : Tcb) (place : ℕ) (o : Option Tcb) → slice_get l.records place ≡ o → accepted_at place o l ≡ Some (r, rest) → IsPermutation (r ∷ rest.records) l.records
unfolding without
accepts_at l rest r place None e k = cc
accepts_at l rest r place (Some x) e k =
    let pair : (x, without place l) ≡ (r, rest) = ap (λ (y : Option (Tcb × Listen)). unwrap_or y (x, without place l)) k in
    let same : x ≡ r = ap (λ (y : Tcb × Listen). y.0) pair in
    let left : without place l ≡ rest = ap (λ (y : Tcb × Listen). y.1) pair in
    let o = others_of l.records place x e in
    let kept = remove l.records place in
    let all : IsPermutation (x ∷ kept) l.records =
    IsPermutation-trans (x ∷ kept) (x ∷ o.rest) l.records (IsPermutation-cons x kept o.rest o.left) (IsPermutation-sym l.records (x ∷ o.rest) o.here) in
    subst (λ (m : Listen). IsPermutation (r ∷ m.records) l.records) left
    (subst (λ (y : Tcb). IsPermutation (y ∷ kept) l.records) same all)

accepts_from : (l rest : Listen) (r : Tcb) (queue : List ℕ) → accepted_from queue l ≡ Some (r, rest) → IsPermutation (r ∷ rest.records) l.records
accepts_from l rest r [] k = cc
accepts_from l rest r (place ∷ queue) k = accepts_at l rest r place (slice_get l.records place) refl k

pub accepts_move : (l rest : Listen) (r : Tcb) → accepts l ≡ Some (r, rest) → IsPermutation (r ∷ rest.records) l.records
unfolding accepts
accepts_move l rest r k = accepts_from l rest r l.accept_queue k
