-- what the acts of a listener leave
use Rattle.std.proofs.Common.{◌≡◌, ℕ, ◌%◌, ◌^◌, ◌<◌, not, ◌&&◌, nat_lt, List, [], ◌∷◌, ◌++◌, length, get_or, set, Bool, true, false, if◌then◌else◌, Some, None, slice_get, sym, ap, subst, ◌∙◌, arith}
use Rattle.std.specs.List.{All, remove}
use Rattle.std.proofs.lemmas.Option.{slice_get_past}
use Rattle.std.proofs.lemmas.Bool.Decides.{nat_tests}
use Rattle.std.proofs.lemmas.List.Elements.{All-push}
use Rattle.sim_base.specs.declared.address.Addr.{Addr}
use Rattle.sim_base.specs.declared.packet.Packet.{Packet}
use Rattle.sock_tcp.specs.declared.segment.control.Control.{Control}
use Rattle.sock_tcp.specs.declared.segment.header.Header.{Header}
use Rattle.sock_tcp.specs.declared.connection.conn.Conn.{Conn}
use Rattle.sock_tcp.specs.declared.connection.effects.Effects.{Effects}
use Rattle.sock_tcp.specs.declared.listener.Listener.{Listener}
use Rattle.sock_tcp.specs.segment.State.{is_over}
use Rattle.sock_tcp.specs.connection.Tcb.{Tcb, Turn}
use Rattle.sock_tcp.specs.connection.Begin.{begin}
use Rattle.sock_tcp.specs.connection.Pairs.{place_in}
use Rattle.sock_tcp.specs.connection.Process.{answered}
use Rattle.sock_tcp.specs.connection.StandsFor.{StandsFor, Gives, Follows, StandsAll}
use Rattle.sock_tcp.specs.listener.Listen.{Listen, Heard, places_past, without, waits, replaced, requeued, record_heard, nothing_heard, record_acts, kept_acts, load_header, header_makes, is_kept, makes_record, takes_word, record_made, asked}
use Rattle.sock_tcp.specs.listener.ListensFor.{ListensFor, Tells}
use Rattle.sock_tcp.proofs.Connections.Places.{same_length, record_at, stands_at, stands_set, stands_push, stands_remove, slice_get_set}
use Rattle.sock_tcp.proofs.Listeners.QueuePlaces.{below_set, below_push, below_removed}

-- the branches of requeueing
requeued_established : (place : ℕ) (before : Bool) (r : Tcb) (l : Listen) → r.control.was_established ≡ true → requeued place before r l ≡ (if before then l else waits place l)
unfolding requeued
requeued_established place before r l e =
    ap (λ b. if b then (if before then l else waits place l) else (if is_over r.control.state then without place l else l)) e

requeued_else : (place : ℕ) (before : Bool) (r : Tcb) (l : Listen) → r.control.was_established ≡ false → requeued place before r l ≡ (if is_over r.control.state then without place l else l)
unfolding requeued
requeued_else place before r l e =
    ap (λ b. if b then (if before then l else waits place l) else (if is_over r.control.state then without place l else l)) e

-- the connection that was read at a place
pub at_place : (k : Listener) (l : Listen) (place : ℕ) (r : Tcb) (c : Conn) → ListensFor k l → slice_get l.records place ≡ Some r → c ≡ get_or k.records.items place c → StandsFor c r
at_place k l place r c h e is = subst (λ (x : Conn). StandsFor x r) (sym is) (stands_at k.records.items l.records place r c h.records e)

-- its control
pub control_at : (k : Listener) (l : Listen) (place : ℕ) (r : Tcb) (seen : Conn) (control : Control) → ListensFor k l → slice_get l.records place ≡ Some r → seen ≡ get_or k.records.items place seen → ((x : Tcb) → StandsFor seen x → control ≡ x.control) → control ≡ r.control
control_at k l place r seen control h e is c = c r (at_place k l place r seen h e is)

-- a listener whose lists are these
pub listens_with : (k k' : Listener) (l : Listen) (records : List Tcb) (queue : List ℕ) → ListensFor k l → k'.local ≡ k.local → k'.limit ≡ k.limit → StandsAll k'.records.items records → k'.accept_queue.items ≡ queue → All (λ place. place < length records) queue → ListensFor k' (record l { records = records; accept_queue = queue })
listens_with k k' l records queue h local limit stands is places = record {
  local = local ∙ h.local;
  limit = limit ∙ h.limit;
  records = stands;
  accept_queue = is;
  places = places;
}

-- the one at a place leaves
pub listens_without : (k k' : Listener) (l : Listen) (place : ℕ) → ListensFor k l → place < length k.records.items → k'.local ≡ k.local → k'.limit ≡ k.limit → k'.records.items ≡ remove k.records.items place → k'.accept_queue.items ≡ places_past place k.accept_queue.items → ListensFor k' (without place l)
unfolding without
listens_without k k' l place h b local limit records queue =
    listens_with k k' l (remove l.records place) (places_past place l.accept_queue) h local limit
    (subst (λ (xs : List Conn). StandsAll xs (remove l.records place)) (sym records) (stands_remove k.records.items l.records place h.records))
    (queue ∙ ap (places_past place) h.accept_queue)
    (below_removed l.records place l.accept_queue (omega (arith, same_length k.records.items l.records h.records)) h.places)

-- the one at a place waits to be accepted
pub listens_waits : (k k' : Listener) (l : Listen) (place : ℕ) → ListensFor k l → place < length k.records.items → k'.local ≡ k.local → k'.limit ≡ k.limit → k'.records.items ≡ k.records.items → k'.accept_queue.items ≡ k.accept_queue.items ++ place ∷ [] → ListensFor k' (waits place l)
listens_waits k k' l place h b local limit records queue =
    listens_with k k' l l.records (l.accept_queue ++ place ∷ []) h local limit
    (subst (λ (xs : List Conn). StandsAll xs l.records) (sym records) h.records)
    (queue ∙ ap (λ xs. xs ++ place ∷ []) h.accept_queue)
    (All-push (λ at. at < length l.records) l.accept_queue place h.places (omega (arith, same_length k.records.items l.records h.records)))

-- requeueing
pub requeues_waits : (k k' : Listener) (l : Listen) (place : ℕ) (before : Bool) (r : Tcb) (control : Control) → ListensFor k l → control ≡ r.control → control.was_established ≡ true → before ≡ false → place < length k.records.items → k'.local ≡ k.local → k'.limit ≡ k.limit → k'.records.items ≡ k.records.items → k'.accept_queue.items ≡ k.accept_queue.items ++ place ∷ [] → ListensFor k' (requeued place before r l)
requeues_waits k k' l place before r control h c e f b local limit records queue =
    let e' : r.control.was_established ≡ true = sym (ap (λ x. x.was_established) c) ∙ e in
    let is : requeued place before r l ≡ waits place l = requeued_established place before r l e' ∙ ap (λ b. if b then l else waits place l) f in
    subst (λ (m : Listen). ListensFor k' m) (sym is) (listens_waits k k' l place h b local limit records queue)

pub requeues_before : (k : Listener) (l : Listen) (place : ℕ) (before : Bool) (r : Tcb) (control : Control) → ListensFor k l → control ≡ r.control → control.was_established ≡ true → before ≡ true → ListensFor k (requeued place before r l)
requeues_before k l place before r control h c e f =
    let e' : r.control.was_established ≡ true = sym (ap (λ x. x.was_established) c) ∙ e in
    let is : requeued place before r l ≡ l = requeued_established place before r l e' ∙ ap (λ b. if b then l else waits place l) f in
    subst (λ (m : Listen). ListensFor k m) (sym is) h

pub requeues_gone : (k' : Listener) (l : Listen) (place : ℕ) (before : Bool) (r : Tcb) (control : Control) → control ≡ r.control → control.was_established ≡ false → is_over control.state ≡ true → ListensFor k' (without place l) → ListensFor k' (requeued place before r l)
requeues_gone k' l place before r control c e o h =
    let e' : r.control.was_established ≡ false = sym (ap (λ x. x.was_established) c) ∙ e in
    let o' : is_over r.control.state ≡ true = sym (ap (λ x. is_over x.state) c) ∙ o in
    let is : requeued place before r l ≡ without place l = requeued_else place before r l e' ∙ ap (λ b. if b then without place l else l) o' in
    subst (λ (m : Listen). ListensFor k' m) (sym is) h

pub requeues_stays : (k : Listener) (l : Listen) (place : ℕ) (before : Bool) (r : Tcb) (control : Control) → ListensFor k l → control ≡ r.control → control.was_established ≡ false → is_over control.state ≡ false → ListensFor k (requeued place before r l)
requeues_stays k l place before r control h c e o =
    let e' : r.control.was_established ≡ false = sym (ap (λ x. x.was_established) c) ∙ e in
    let o' : is_over r.control.state ≡ false = sym (ap (λ x. is_over x.state) c) ∙ o in
    let is : requeued place before r l ≡ l = requeued_else place before r l e' ∙ ap (λ b. if b then without place l else l) o' in
    subst (λ (m : Listen). ListensFor k m) (sym is) h

-- a connection did an act
pub listens_replaced : (k k' : Listener) (l : Listen) (place : ℕ) (conn : Conn) (r : Tcb) → ListensFor k l → StandsFor conn r → k'.local ≡ k.local → k'.limit ≡ k.limit → k'.records.items ≡ set k.records.items place conn → k'.accept_queue.items ≡ k.accept_queue.items → ListensFor k' (replaced place r l)
listens_replaced k k' l place conn r h s local limit records queue =
    listens_with k k' l (set l.records place r) l.accept_queue h local limit
    (subst (λ (xs : List Conn). StandsAll xs (set l.records place r)) (sym records) (stands_set k.records.items l.records place conn r h.records s))
    (queue ∙ h.accept_queue)
    (below_set l.records place r l.accept_queue h.places)

pub tells_record : (act : Turn → Turn) (k mid k' : Listener) (l : Listen) (place : ℕ) (before : Bool) (r : Tcb) (conn conn' : Conn) (e : Effects) → ListensFor k l → slice_get l.records place ≡ Some r → conn ≡ get_or k.records.items place conn → before ≡ r.control.was_established → Follows act conn conn' e → mid.local ≡ k.local → mid.limit ≡ k.limit → mid.records.items ≡ set k.records.items place conn' → mid.accept_queue.items ≡ k.accept_queue.items → ((m : Listen) → ListensFor mid m → (x : Tcb) → slice_get m.records place ≡ Some x → ListensFor k' (requeued place before x m)) → Tells k' e (record_heard place r.control.was_established (act (begin r)) l)
tells_record act k mid k' l place before r conn conn' e h at is was follows local limit records queue requeues =
    let t : Turn = act (begin r) in
    let gives = follows r (at_place k l place r conn h at is) in
    let m = listens_replaced k mid l place conn' t.tcb h gives.conn local limit records queue in
    let after = requeues (replaced place t.tcb l) m t.tcb (slice_get_set l.records place r t.tcb at) in
    record {
      listen = subst (λ (b : Bool). ListensFor k' (requeued place b t.tcb (replaced place t.tcb l))) was after;
      segments = gives.segments;
      timer = gives.timer;
    }

-- the kept record of two ends
pub tells_kept : (act : Turn → Turn) (own other : Addr) (k k' : Listener) (l : Listen) (e : Effects) (otherwise : Heard) (place : ℕ) → ListensFor k l → place < length k.records.items → place ≡ place_in own other l.records → ((r : Tcb) → slice_get l.records place ≡ Some r → Tells k' e (record_heard place r.control.was_established (act (begin r)) l)) → Tells k' e (kept_acts act own other l otherwise)
unfolding kept_acts
tells_kept act own other k k' l e otherwise place h b is tells =
    let found = record_at k.records.items l.records place h.records b in
    let r = found.0 in
    let t : Turn = act (begin r) in
    let at : slice_get l.records (place_in own other l.records) ≡ Some r = ap (λ n. slice_get l.records n) (sym is) ∙ found.1 in
    let heard : record_acts act (place_in own other l.records) (slice_get l.records (place_in own other l.records)) l otherwise ≡ record_heard place r.control.was_established t l =
    ap (λ o. record_acts act (place_in own other l.records) o l otherwise) at
    ∙ ap (λ n. record_heard n r.control.was_established t l) (sym is) in
    subst (λ (x : Heard). Tells k' e x) (sym heard) (tells r found.1)

no_place : (place : ℕ) (records : List Tcb) → nat_lt place (length records) ≡ false → slice_get records place ≡ None
no_place place records e = slice_get_past records place (grind (arith, nat_tests))

pub tells_kept_none : (act : Turn → Turn) (own other : Addr) (k' : Listener) (l : Listen) (e : Effects) (otherwise : Heard) → is_kept own other l ≡ false → Tells k' e otherwise → Tells k' e (kept_acts act own other l otherwise)
unfolding kept_acts
tells_kept_none act own other k' l e otherwise n tells =
    let place = place_in own other l.records in
    let heard : record_acts act place (slice_get l.records place) l otherwise ≡ otherwise =
    ap (λ o. record_acts act place o l otherwise) (no_place place l.records n) in
    subst (λ (x : Heard). Tells k' e x) (sym heard) tells

-- whether a word is drawn
pub takes_word_kept : (p : Packet) (l : Listen) → is_kept p.to p.from l ≡ true → takes_word p l ≡ false
unfolding takes_word
takes_word_kept p l e = ap (λ b. not b && header_makes (load_header p.load) l) e

pub takes_word_new : (p : Packet) (l : Listen) → is_kept p.to p.from l ≡ false → takes_word p l ≡ header_makes (load_header p.load) l
unfolding takes_word
takes_word_new p l e = ap (λ b. not b && header_makes (load_header p.load) l) e

-- a SYN that makes a record, and one that doesn't
pub tells_made : (p : Packet) (header : Header) (word : ℕ) (k k' : Listener) (l : Listen) (conn : Conn) (e : Effects) → ListensFor k l → makes_record header l ≡ true → Gives conn e (answered p.to p.from (word % 2 ^ 32) header.seq) → k'.local ≡ k.local → k'.limit ≡ k.limit → k'.records.items ≡ k.records.items ++ conn ∷ [] → k'.accept_queue.items ≡ k.accept_queue.items → Tells k' e (asked p header word l)
unfolding asked record_made
tells_made p header word k k' l conn e h b gives local limit records queue =
    let t : Turn = answered p.to p.from (word % 2 ^ 32) header.seq in
    let heard : asked p header word l ≡ record_made t l = ap (λ c. if c then record_made t l else nothing_heard l) b in
    subst (λ (x : Heard). Tells k' e x) (sym heard)
    (record {
      listen = listens_with k k' l (l.records ++ t.tcb ∷ []) l.accept_queue h local limit
          (subst (λ (xs : List Conn). StandsAll xs (l.records ++ t.tcb ∷ [])) (sym records) (stands_push k.records.items l.records conn t.tcb h.records gives.conn))
          (queue ∙ h.accept_queue)
          (below_push l.records t.tcb l.accept_queue h.places);
      segments = gives.segments;
      timer = gives.timer;
    })

pub tells_nothing : (k : Listener) (l : Listen) (e : Effects) → ListensFor k l → e.segments.items ≡ [] → e.timer ≡ None → Tells k e (nothing_heard l)
tells_nothing k l e h s t = record { listen = h; segments = s; timer = t }

pub tells_not_made : (p : Packet) (header : Header) (word : ℕ) (k : Listener) (l : Listen) (e : Effects) → ListensFor k l → makes_record header l ≡ false → e.segments.items ≡ [] → e.timer ≡ None → Tells k e (asked p header word l)
unfolding asked
tells_not_made p header word k l e h b s t =
    let made : Heard = record_made (answered p.to p.from (word % 2 ^ 32) header.seq) l in
    let heard : asked p header word l ≡ nothing_heard l = ap (λ c. if c then made else nothing_heard l) b in
    subst (λ (x : Heard). Tells k e x) (sym heard) (tells_nothing k l e h s t)
