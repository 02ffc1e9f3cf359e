-- the records that a listener lets go
use Rattle.std.proofs.Common.{◌≡◌, ℕ, ◌<◌, not, ◌&&◌, nat_lt, List, [], ◌∷◌, length, get_or, set, Bool, true, false, if◌then◌else◌, Some, None, slice_get, refl, sym, ap, append-nil, ◌∙◌, arith}
use Rattle.std.proofs.lemmas.Option.{slice_get_past}
use Rattle.std.proofs.lemmas.Bool.Decides.{nat_tests}
use Rattle.sim_base.specs.declared.address.Addr.{Addr}
use Rattle.sock_tcp.specs.declared.connection.carried.Carried.{Carried}
use Rattle.sock_tcp.specs.declared.connection.conn.Conn.{Conn}
use Rattle.sock_tcp.specs.declared.connection.effects.Effects.{Effects}
use Rattle.sock_tcp.specs.declared.listener.Listener.{Listener}
use Rattle.sock_tcp.specs.declared.segment.control.Control.{Control}
use Rattle.sock_tcp.specs.segment.State.{is_over}
use Rattle.sock_tcp.specs.connection.Begin.{begin}
use Rattle.sock_tcp.specs.connection.Carried.{with_gone}
use Rattle.sock_tcp.specs.connection.Pairs.{place_in}
use Rattle.sock_tcp.specs.connection.StandsFor.{Follows}
use Rattle.sock_tcp.specs.connection.Tcb.{Tcb, Turn}
use Rattle.sock_tcp.specs.listener.Dropped.{dropped_after, dropped_by, dropped}
use Rattle.sock_tcp.specs.listener.Listen.{Listen, replaced, is_kept}
use Rattle.sock_tcp.specs.listener.ListensFor.{ListensFor}
use Rattle.sock_tcp.proofs.Connections.Places.{record_at, slice_get_set}
use Rattle.sock_tcp.proofs.Listeners.ListenActs.{at_place, listens_replaced}

dropped_if : (over established : Bool) (r : Tcb) → List Tcb
dropped_if over established r = if over && not established then r ∷ [] else []

stays_if : (over : Bool) (r : Tcb) → dropped_if over true r ≡ []
unfolding dropped_if
stays_if true r = refl
stays_if false r = refl

-- none is let go that was ESTABLISHED, or that isn't over
pub stays_established : (r : Tcb) (control : Control) (gone : List Carried) → control ≡ r.control → control.was_established ≡ true → gone ≡ with_gone (dropped_after r) gone
unfolding dropped_if
stays_established r control gone c e =
    let e' : r.control.was_established ≡ true = sym (ap (λ x. x.was_established) c) ∙ e in
    let none : dropped_after r ≡ [] = ap (λ b. dropped_if (is_over r.control.state) b r) e' ∙ stays_if (is_over r.control.state) r in
    sym (ap (λ rs. with_gone rs gone) none ∙ append-nil gone)

pub stays_alive : (r : Tcb) (control : Control) (gone : List Carried) → control ≡ r.control → is_over control.state ≡ false → gone ≡ with_gone (dropped_after r) gone
unfolding dropped_if
stays_alive r control gone c e =
    let e' : is_over r.control.state ≡ false = sym (ap (λ x. is_over x.state) c) ∙ e in
    let none : dropped_after r ≡ [] = ap (λ b. dropped_if b r.control.was_established r) e' in
    sym (ap (λ rs. with_gone rs gone) none ∙ append-nil gone)

-- another one is
pub leaves_over : (r : Tcb) (control : Control) (before gone : List Carried) → control ≡ r.control → control.was_established ≡ false → is_over control.state ≡ true → gone ≡ with_gone (r ∷ []) before → gone ≡ with_gone (dropped_after r) before
unfolding dropped_if
leaves_over r control before gone c e o is =
    let e' : r.control.was_established ≡ false = sym (ap (λ x. x.was_established) c) ∙ e in
    let o' : is_over r.control.state ≡ true = sym (ap (λ x. is_over x.state) c) ∙ o in
    let one : dropped_after r ≡ r ∷ [] = ap (λ b. dropped_if (is_over r.control.state) b r) e' ∙ ap (λ b. dropped_if b false r) o' in
    is ∙ sym (ap (λ rs. with_gone rs before) one)

-- by an act on the record at a place
pub gone_record : (act : Turn → Turn) (k mid : Listener) (l : Listen) (place : ℕ) (r : Tcb) (conn conn' : Conn) (e : Effects) (before gone : List Carried) → ListensFor k l → slice_get l.records place ≡ Some r → conn ≡ get_or k.records.items place conn → Follows act conn conn' e → mid.local ≡ k.local → mid.limit ≡ k.limit → mid.records.items ≡ set k.records.items place conn' → mid.accept_queue.items ≡ k.accept_queue.items → ((m : Listen) → ListensFor mid m → (x : Tcb) → slice_get m.records place ≡ Some x → gone ≡ with_gone (dropped_after x) before) → gone ≡ with_gone (dropped_by act (Some r)) before
gone_record act k mid l place r conn conn' e before gone h at is follows local limit records queue requeues =
    let t : Turn = act (begin r) in
    let gives = follows r (at_place k l place r conn h at is) in
    let m = listens_replaced k mid l place conn' t.tcb h gives.conn local limit records queue in
    requeues (replaced place t.tcb l) m t.tcb (slice_get_set l.records place r t.tcb at)

-- by an act on the record of two ends
pub gone_kept : (act : Turn → Turn) (own other : Addr) (k : Listener) (l : Listen) (place : ℕ) (before gone : List Carried) → ListensFor k l → place < length k.records.items → place ≡ place_in own other l.records → ((r : Tcb) → slice_get l.records place ≡ Some r → gone ≡ with_gone (dropped_by act (Some r)) before) → gone ≡ with_gone (dropped act own other l) before
unfolding dropped
gone_kept act own other k l place before gone h b is tells =
    let found = record_at k.records.items l.records place h.records b in
    let at : slice_get l.records (place_in own other l.records) ≡ Some found.0 = ap (λ n. slice_get l.records n) (sym is) ∙ found.1 in
    tells found.0 found.1 ∙ ap (λ o. with_gone (dropped_by act o) before) (sym at)

no_place : (place : ℕ) (records : List Tcb) → nat_lt place (length records) ≡ false → slice_get records place ≡ None
no_place place records e = slice_get_past records place (grind (arith, nat_tests))

pub gone_none : (act : Turn → Turn) (own other : Addr) (l : Listen) (gone : List Carried) → is_kept own other l ≡ false → gone ≡ with_gone (dropped act own other l) gone
unfolding dropped
gone_none act own other l gone n =
    sym (ap (λ o. with_gone (dropped_by act o) gone) (no_place (place_in own other l.records) l.records n) ∙ append-nil gone)
