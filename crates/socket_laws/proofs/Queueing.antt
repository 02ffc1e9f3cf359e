-- the records of a listener wait, and those of its accept queue are ESTABLISHED or were
use Rattle.std.proofs.Common.{◌≡◌, ◌⊎◌, ⊎_elim, inl, inr, ℕ, zero, suc, ℤ, ◌-◌, ◌==◌, ◌<◌, ◌≤◌, ◌^◌, ◌%◌, nat_lt, not, List, [], ◌∷◌, ◌++◌, set, map, Bool, true, false, if◌then◌else◌, Option, Some, None, slice_get, refl, sym, ap, subst, ◌∙◌, arith}
use Rattle.std.specs.List.{filter, remove}
use Rattle.std.proofs.lemmas.Bool.Decides.{nat_tests}
use Rattle.sim_base.specs.declared.address.Addr.{Addr}
use Rattle.sim_base.specs.declared.packet.Packet.{Packet}
use Rattle.sock_tcp.specs.declared.segment.header.Header.{Header}
use Rattle.sock_tcp.specs.segment.State.{is_over}
use Rattle.sock_tcp.specs.connection.Tcb.{Tcb, Turn}
use Rattle.sock_tcp.specs.connection.Begin.{begin}
use Rattle.sock_tcp.specs.connection.Pairs.{place_in}
use Rattle.sock_tcp.specs.connection.Arrival.{takes_packet}
use Rattle.sock_tcp.specs.connection.Process.{answered, expires}
use Rattle.sock_tcp.specs.listener.Listen.{Listen, Heard, fresh_listen, is_elsewhere, place_past, places_past, without, replaced, waits, requeued, nothing_heard, record_acts, kept_acts, record_made, makes_record, asked, load_header, new_heard, hears, hears_timer, accepted_at, accepted_from, accepts}
use Rattle.tcp_laws.proofs.Tests.{by_test}
use Rattle.sock_tcp.proofs.Connections.Places.{slice_get_set}
use Rattle.socket_laws.specs.Waiting.{ListenAct, after_accept, listen_acted, listen_after, listen_of}
use Rattle.socket_laws.specs.Waiting.ListenAct.{segment, expiry, accept, backlog}
use Rattle.socket_laws.proofs.Waiting.{Waiting, packet_waits, packet_stays, expiry_waits, expiry_stays, answer_waits}

abbrev pub AllWait : List Tcb → Type 0
AllWait records = (place : ℕ) (r : Tcb) → slice_get records place ≡ Some r → Waiting r

abbrev pub IsWhole : List Tcb → ℕ → Type 0
IsWhole records place = (r : Tcb) × ((slice_get records place ≡ Some r) × (r.control.was_established ≡ true))

abbrev pub AllWhole : List Tcb → List ℕ → Type 0
AllWhole records [] = Unit {0}
AllWhole records (place ∷ queue) = IsWhole records place × AllWhole records queue

pub record Keeps (l : Listen) : Type 0 where
  pub records : AllWait l.records
  pub queue : AllWhole l.records l.accept_queue

all_as : (records others : List Tcb) (queue : List ℕ) → ((place : ℕ) → IsWhole records place → IsWhole others place) → AllWhole records queue → AllWhole others queue
all_as records others [] so h = tt
all_as records others (place ∷ queue) so h = (so place h.0, all_as records others queue so h.1)

-- places
either : (p q : ℕ) → (p ≡ q) ⊎ (p ≡ q → ⊥)
either zero zero = inl refl
either zero (suc q) = inr (λ e. omega arith)
either (suc p) zero = inr (λ e. omega arith)
either (suc p) (suc q) = ⊎_elim (λ e. inl (ap suc e)) (λ n. inr (λ e. n (omega arith))) (either p q)

is_set : (records : List Tcb) (place : ℕ) (r x : Tcb) → slice_get (set records place r) place ≡ Some x → x ≡ r
is_set [] place r x e = cc
is_set (y ∷ records) zero r x e = cc
is_set (y ∷ records) (suc place) r x e = is_set records place r x e

is_kept_at : (records : List Tcb) (place other : ℕ) (r : Tcb) → (place ≡ other → ⊥) → slice_get (set records place r) other ≡ slice_get records other
is_kept_at [] place other r n = refl
is_kept_at (y ∷ records) zero zero r n = absurd (n refl)
is_kept_at (y ∷ records) zero (suc other) r n = refl
is_kept_at (y ∷ records) (suc place) zero r n = refl
is_kept_at (y ∷ records) (suc place) (suc other) r n = is_kept_at records place other r (λ e. n (ap suc e))

in_front : (records : List Tcb) (place : ℕ) (r x : Tcb) → slice_get records place ≡ Some x → slice_get (records ++ r ∷ []) place ≡ Some x
in_front [] place r x e = cc
in_front (y ∷ records) zero r x e = e
in_front (y ∷ records) (suc place) r x e = in_front records place r x e

pushed : (records : List Tcb) (place : ℕ) (r x : Tcb) → slice_get (records ++ r ∷ []) place ≡ Some x → (slice_get records place ≡ Some x) ⊎ (x ≡ r)
pushed [] zero r x e = let same : x ≡ r = cc in inr same
pushed [] (suc place) r x e = cc
pushed (y ∷ records) zero r x e = inl e
pushed (y ∷ records) (suc place) r x e = pushed records place r x e

before_gone : (records : List Tcb) (gone place : ℕ) → place < gone → slice_get (remove records gone) place ≡ slice_get records place
before_gone records zero place b = absurd (omega arith)
before_gone [] (suc gone) place b = refl
before_gone (y ∷ records) (suc gone) zero b = refl
before_gone (y ∷ records) (suc gone) (suc place) b = before_gone records gone place (omega arith)

behind_gone : (records : List Tcb) (gone place : ℕ) → gone ≤ place → slice_get (remove records gone) place ≡ slice_get records (suc place)
behind_gone [] zero place b = refl
behind_gone [] (suc gone) place b = refl
behind_gone (y ∷ records) zero place b = refl
behind_gone (y ∷ records) (suc gone) zero b = absurd (omega arith)
behind_gone (y ∷ records) (suc gone) (suc place) b = behind_gone records gone place (omega arith)

-- another record at a place
wait_set : (records : List Tcb) (place : ℕ) (r : Tcb) → AllWait records → Waiting r → AllWait (set records place r)
wait_set records place r all w = λ other x e.
    ⊎_elim
    (λ same. subst Waiting (sym (is_set records place r x (ap (λ n. slice_get (set records place r) n) same ∙ e))) w)
    (λ apart. all other x (sym (is_kept_at records place other r apart) ∙ e))
    (either place other)

whole_set : (records : List Tcb) (place : ℕ) (r old : Tcb) → slice_get records place ≡ Some old → (old.control.was_established ≡ true → r.control.was_established ≡ true) → (other : ℕ) → IsWhole records other → IsWhole (set records place r) other
whole_set records place r old at stays other whole =
    ⊎_elim
    (λ same.
    let found : Some old ≡ Some whole.0 = sym at ∙ (ap (λ n. slice_get records n) same ∙ whole.1.0) in
    let is : old ≡ whole.0 = cc in
    (r, (ap (λ n. slice_get (set records place r) n) (sym same) ∙ slice_get_set records place old r at, stays (ap (λ (x : Tcb). x.control.was_established) is ∙ whole.1.1))))
    (λ apart. (whole.0, (is_kept_at records place other r apart ∙ whole.1.0, whole.1.1)))
    (either place other)

keeps_replaced : (l : Listen) (place : ℕ) (r old : Tcb) → Keeps l → slice_get l.records place ≡ Some old → Waiting r → (old.control.was_established ≡ true → r.control.was_established ≡ true) → Keeps (replaced place r l)
keeps_replaced l place r old h at w stays = record {
  records = wait_set l.records place r h.records w;
  queue = all_as l.records (set l.records place r) l.accept_queue (whole_set l.records place r old at stays) h.queue;
}

-- one more in the queue
whole_push : (records : List Tcb) (queue : List ℕ) (place : ℕ) → AllWhole records queue → IsWhole records place → AllWhole records (queue ++ place ∷ [])
whole_push records [] place h whole = (whole, tt)
whole_push records (first ∷ queue) place h whole = (h.0, whole_push records queue place h.1 whole)

keeps_waits : (l : Listen) (place : ℕ) → Keeps l → IsWhole l.records place → Keeps (waits place l)
keeps_waits l place h whole = record { records = h.records; queue = whole_push l.records l.accept_queue place h.queue whole }

-- one record less
is_below : (gone place : ℕ) → nat_lt gone place ≡ true → gone < place
is_below gone place e = grind (arith, nat_tests)

is_above : (gone place : ℕ) → nat_lt gone place ≡ false → not (place == gone) ≡ true → place < gone
is_above gone place e n = grind (arith, nat_tests)

is_at_or_above : (gone place : ℕ) → nat_lt place gone ≡ false → gone ≤ place
is_at_or_above gone place e = grind (arith, nat_tests)

wait_removed : (records : List Tcb) (gone : ℕ) → AllWait records → AllWait (remove records gone)
wait_removed records gone all = λ place x e.
    by_test (λ (n : ℕ). slice_get records n ≡ Some x → Waiting x) (nat_lt place gone) place (suc place) (λ b at. all place x at) (λ b at. all (suc place) x at)
    (by_test (λ (n : ℕ). slice_get records n ≡ Some x) (nat_lt place gone) place (suc place)
    (λ b. sym (before_gone records gone place (is_below place gone b)) ∙ e)
    (λ b. sym (behind_gone records gone place (is_at_or_above gone place b)) ∙ e))

whole_past : (records : List Tcb) (gone place : ℕ) → not (place == gone) ≡ true → IsWhole records place → IsWhole (remove records gone) (place_past gone place)
whole_past records gone place n whole =
    by_test (IsWhole (remove records gone)) (nat_lt gone place) (place - 1) place
    (λ b.
    let lt = is_below gone place b in
    let at : suc (place - 1) ≡ place = omega arith in
    (whole.0, (behind_gone records gone (place - 1) (omega arith) ∙ (ap (λ m. slice_get records m) at ∙ whole.1.0), whole.1.1)))
    (λ b. (whole.0, (before_gone records gone place (is_above gone place b n) ∙ whole.1.0, whole.1.1)))

past_if : (records : List Tcb) (gone place : ℕ) (rest : List ℕ) (b : Bool) → not (place == gone) ≡ b → IsWhole records place → AllWhole (remove records gone) (map (place_past gone) rest) → AllWhole (remove records gone) (map (place_past gone) (if b then place ∷ rest else rest))
past_if records gone place rest true e whole h = (whole_past records gone place e whole, h)
past_if records gone place rest false e whole h = h

whole_removed : (records : List Tcb) (gone : ℕ) (queue : List ℕ) → AllWhole records queue → AllWhole (remove records gone) (places_past gone queue)
whole_removed records gone [] h = tt
whole_removed records gone (place ∷ queue) h =
    past_if records gone place (filter (is_elsewhere gone) queue) (not (place == gone)) refl h.0 (whole_removed records gone queue h.1)

keeps_without : (l : Listen) (place : ℕ) → Keeps l → Keeps (without place l)
unfolding without
keeps_without l place h = record {
  records = wait_removed l.records place h.records;
  queue = whole_removed l.records place l.accept_queue h.queue;
}

-- an act on a record
keeps_requeued : (l : Listen) (place : ℕ) (r old : Tcb) → Keeps l → slice_get l.records place ≡ Some old → Waiting r → (old.control.was_established ≡ true → r.control.was_established ≡ true) → Keeps (requeued place old.control.was_established r (replaced place r l))
unfolding requeued
keeps_requeued l place r old h at w stays =
    let k = keeps_replaced l place r old h at w stays in
    by_test Keeps r.control.was_established _ _
    (λ e. by_test Keeps old.control.was_established _ _ (λ b. k) (λ b. keeps_waits (replaced place r l) place k (r, (slice_get_set l.records place old r at, e))))
    (λ e. by_test Keeps (is_over r.control.state) _ _ (λ b. keeps_without (replaced place r l) place k) (λ b. k))

abbrev Minds : (Turn → Turn) → Type 0
Minds act = (r : Tcb) → Waiting r → Waiting (act (begin r)).tcb × (r.control.was_established ≡ true → (act (begin r)).tcb.control.was_established ≡ true)

keeps_acts : (act : Turn → Turn) (l : Listen) (place : ℕ) (o : Option Tcb) (otherwise : Heard) → Minds act → Keeps l → Keeps otherwise.listen → slice_get l.records place ≡ o → Keeps (record_acts act place o l otherwise).listen
keeps_acts act l place None otherwise minds h else_h at = else_h
keeps_acts act l place (Some r) otherwise minds h else_h at =
    let after = minds r (h.records place r at) in
    keeps_requeued l place (act (begin r)).tcb r h at after.0 after.1

keeps_kept : (act : Turn → Turn) (own other : Addr) (l : Listen) (otherwise : Heard) → Minds act → Keeps l → Keeps otherwise.listen → Keeps (kept_acts act own other l otherwise).listen
unfolding kept_acts
keeps_kept act own other l otherwise minds h else_h =
    keeps_acts act l (place_in own other l.records) (slice_get l.records (place_in own other l.records)) otherwise minds h else_h refl

-- a record more
keeps_made : (l : Listen) (t : Turn) → Keeps l → Waiting t.tcb → Keeps (record_made t l).listen
unfolding record_made
keeps_made l t h w = record {
  records = λ place x e. ⊎_elim (λ at. h.records place x at) (λ same. subst Waiting (sym same) w) (pushed l.records place t.tcb x e);
  queue = all_as l.records (l.records ++ t.tcb ∷ []) l.accept_queue (λ place whole. (whole.0, (in_front l.records place t.tcb whole.0 whole.1.0, whole.1.1))) h.queue;
}

below_word : (word : ℕ) → word % 2 ^ 32 < 2 ^ 32
below_word word = omega arith

keeps_asked : (p : Packet) (h : Header) (word : ℕ) (l : Listen) → Keeps l → Keeps (asked p h word l).listen
unfolding asked
keeps_asked p h word l k =
    by_test (λ (heard : Heard). Keeps heard.listen) (makes_record h l) _ _
    (λ e. keeps_made l (answered p.to p.from (word % 2 ^ 32) h.seq) k (answer_waits p.to p.from (word % 2 ^ 32) h.seq (below_word word)))
    (λ e. k)

keeps_new : (p : Packet) (o : Option Header) (word : ℕ) (l : Listen) → Keeps l → Keeps (new_heard p o word l).listen
keeps_new p None word l k = k
keeps_new p (Some h) word l k = keeps_asked p h word l k

pub keeps_hears : (p : Packet) (word : ℕ) (l : Listen) → Keeps l → Keeps (hears p word l).listen
unfolding hears
keeps_hears p word l k =
    keeps_kept (takes_packet p) p.to p.from l (new_heard p (load_header p.load) word l) (λ r w. (packet_waits p r w, packet_stays p r w)) k (keeps_new p (load_header p.load) word l k)

pub keeps_timer : (own other : Addr) (l : Listen) → Keeps l → Keeps (hears_timer own other l).listen
unfolding hears_timer
keeps_timer own other l k = keeps_kept expires own other l (nothing_heard l) (λ r w. (expiry_waits r w, expiry_stays r w)) k k

-- accepting
keeps_at : (place : ℕ) (o : Option Tcb) (l : Listen) → Keeps l → Keeps (after_accept (accepted_at place o l) l)
keeps_at place None l k = k
keeps_at place (Some r) l k = keeps_without l place k

keeps_from : (queue : List ℕ) (l : Listen) → Keeps l → Keeps (after_accept (accepted_from queue l) l)
keeps_from [] l k = k
keeps_from (place ∷ behind) l k = keeps_at place (slice_get l.records place) l k

pub keeps_accept : (l : Listen) → Keeps l → Keeps (after_accept (accepts l) l)
unfolding accepts
keeps_accept l k = keeps_from l.accept_queue l k

keeps_acted : (act : ListenAct) (l : Listen) → Keeps l → Keeps (listen_acted act l)
keeps_acted (segment p word) l k = keeps_hears p word l k
keeps_acted (expiry own other) l k = keeps_timer own other l k
keeps_acted accept l k = keeps_accept l k
keeps_acted (backlog count) l k = record { records = k.records; queue = k.queue }

keeps_after : (acts : List ListenAct) (l : Listen) → Keeps l → Keeps (listen_after acts l)
keeps_after [] l k = k
keeps_after (act ∷ acts) l k = keeps_after acts (listen_acted act l) (keeps_acted act l k)

pub keeps_fresh : (local : Addr) (count : ℤ) → Keeps (fresh_listen local count)
unfolding fresh_listen
keeps_fresh local count = record { records = λ place r e. absurd (cc); queue = tt }

-- what is accepted has no running timer
first_of : Option (Tcb × Listen) → Option Tcb
first_of None = None
first_of (Some (r, rest)) = Some r

rests_at : (place : ℕ) (o : Option Tcb) (l : Listen) (r : Tcb) (rest : Listen) → Keeps l → IsWhole l.records place → slice_get l.records place ≡ o → accepted_at place o l ≡ Some (r, rest) → r.control.timer ≡ false
unfolding first_of
rests_at place None l r rest k whole at e = cc
rests_at place (Some x) l r rest k whole at e =
    let given : Some x ≡ Some r = ap first_of e in
    let same : x ≡ r = cc in
    let found : Some whole.0 ≡ Some x = sym whole.1.0 ∙ at in
    let is : whole.0 ≡ x = cc in
    let was : x.control.was_established ≡ true = ap (λ (y : Tcb). y.control.was_established) (sym is) ∙ whole.1.1 in
    ap (λ (y : Tcb). y.control.timer) (sym same) ∙ (k.records place x at).rests was

rests_from : (queue : List ℕ) (l : Listen) (r : Tcb) (rest : Listen) → Keeps l → AllWhole l.records queue → accepted_from queue l ≡ Some (r, rest) → r.control.timer ≡ false
rests_from [] l r rest k whole e = cc
rests_from (place ∷ behind) l r rest k whole e = rests_at place (slice_get l.records place) l r rest k whole.0 refl e

pub rests_accepted : (l : Listen) (r : Tcb) (rest : Listen) → Keeps l → accepts l ≡ Some (r, rest) → r.control.timer ≡ false
unfolding accepts
rests_accepted l r rest k e = rests_from l.accept_queue l r rest k k.queue e

pub accepted_rests : (local : Addr) (count : ℤ) (acts : List ListenAct) (r : Tcb) (rest : Listen) → accepts (listen_of local count acts) ≡ Some (r, rest) → r.control.timer ≡ false
accepted_rests local count acts r rest e =
    rests_accepted (listen_of local count acts) r rest (keeps_after acts (fresh_listen local count) (keeps_fresh local count)) e
