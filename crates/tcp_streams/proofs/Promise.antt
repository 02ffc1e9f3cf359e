-- the promise on streams
use Rattle.std.proofs.Common.{◌≡◌, ℕ, ⊎_elim, Bool, true, false, List, [], length, take, not, ◌&&◌, Contains, Option, Some, None, refl, sym, ap, subst, ◌∙◌, arith}
use Rattle.std.proofs.lemmas.List.{take_all}
use Rattle.sim_base.specs.declared.address.Addr.{Addr}
use Rattle.sock_tcp.specs.connection.Tcb.{Tcb}
use Rattle.tcp_streams.specs.Exchange.{Exchange, empty_exchange, AreSteps, last_exchange}
use Rattle.tcp_streams.specs.Sound.{IsSound}
use Rattle.tcp_streams.specs.Heard.{IsFront, HearsFrom, IsHeard, AreHonest}
use Rattle.tcp_streams.specs.Stream.{is_at, IsOnce, IsSimple, record_at, written_by, read_by, end_seen_by, stream_of, IsFaithful}
use Rattle.tcp_streams.proofs.Fronts.{empty_of, nothing_front, IsFront_take, whole_front}
use Rattle.tcp_streams.proofs.Members.{IsIn_from_Contains, Contains_from_IsIn, found, missing, sole}
use Rattle.tcp_streams.proofs.Ends.{ends_of, is_at_ends}
use Rattle.tcp_streams.proofs.Steps.{AllSound}
use Rattle.tcp_streams.proofs.Exchanges.{HeardAt, steps_sound, steps_honest, steps_heard}

-- the empty exchange
empty_sound : AllSound empty_exchange.records
empty_sound r c = absurd (IsIn_from_Contains r [] c)

empty_honest : (scope : Addr → Addr → Bool) → AreHonest scope empty_exchange
empty_honest scope p c = absurd (IsIn_from_Contains p [] c)

empty_heard : (own other : Addr) → HeardAt own other empty_exchange.records
empty_heard own other r c at = absurd (IsIn_from_Contains r [] c)

-- of every exchange
pub exchange_sound : (scope : Addr → Addr → Bool) (exchanges : List Exchange) → AreSteps scope empty_exchange exchanges → AllSound (last_exchange empty_exchange exchanges).records
exchange_sound scope exchanges steps = steps_sound scope empty_exchange exchanges steps empty_sound

pub exchange_honest : (scope : Addr → Addr → Bool) (exchanges : List Exchange) → AreSteps scope empty_exchange exchanges → AreHonest scope (last_exchange empty_exchange exchanges)
exchange_honest scope exchanges steps = steps_honest scope empty_exchange exchanges steps empty_sound (empty_honest scope)

pub exchange_heard : (scope : Addr → Addr → Bool) (exchanges : List Exchange) (own other : Addr) → scope other own ≡ true → AreSteps scope empty_exchange exchanges → IsOnce other own (last_exchange empty_exchange exchanges).records → HeardAt own other (last_exchange empty_exchange exchanges).records
exchange_heard scope exchanges own other in_scope steps once =
    steps_heard scope own other empty_exchange exchanges in_scope steps empty_sound (empty_honest scope) (empty_heard own other) once

-- what a record that heard nothing gives, and one that heard of another
take_none : (n : ℕ) (xs : List ℕ) → length xs ≡ 0 → take n xs ≡ []
take_none n xs e = take_all n xs (omega (arith, e)) ∙ empty_of xs e

record Reads (r : Tcb) (written : List ℕ) : Type 0 where
  front : IsFront (take r.read r.received) written
  whole : r.control.saw_end ≡ true → take r.read r.received ≡ written

silent : (r : Tcb) (written : List ℕ) → IsSound r → r.rcv ≡ 0 → Reads r written
silent r written s z =
    let nothing = s.counted.nothing z in
    let none = take_none r.read r.received (omega (arith, nothing.0)) in
    record {
      front = subst (λ (xs : List ℕ). IsFront xs written) (sym none) (nothing_front written);
      whole = λ e.
          let taken = (s.counted.seen e).0 in
          let no : true ≡ false = sym taken ∙ nothing.1 in
          absurd (cc);
    }

heard_whole : (w r : Tcb) → IsSound r → HearsFrom w r → Reads r w.written
heard_whole w r s h = record {
  front = IsFront_take r.read r.received w.written h.front;
  whole = λ e.
      let seen = s.counted.seen e in
      let ended = h.ended seen.0 in
      take_all r.read r.received (omega (arith, seen.1))
      ∙ whole_front r.received w.written h.front (omega (arith, ended.1, seen.2));
}

-- the record at the writing end is the one that was heard
written_at : (from to : Addr) (records : List Tcb) (w : Tcb) (o : Option Tcb) → record_at from to records ≡ o → IsOnce from to records → Contains records w → is_at from to w ≡ true → written_by o ≡ w.written
written_at from to records w None e once c at =
    absurd (missing (is_at from to) records w e (IsIn_from_Contains w records c) at)
written_at from to records w (Some x) e once c at =
    let f = found (is_at from to) records x e in
    ap (λ (y : Tcb). y.written) (sole (is_at from to) records x w once.once f.0 (IsIn_from_Contains w records c) f.1 at)

reads_as : (r : Tcb) (a b : List ℕ) → a ≡ b → Reads r a → Reads r b
reads_as r a b e h = subst (Reads r) e h

reads_of : (from to : Addr) (records : List Tcb) (r : Tcb) → IsOnce from to records → IsSound r → is_at to from r ≡ true → IsHeard records r → Reads r (written_by (record_at from to records))
reads_of from to records r once s at h =
    ⊎_elim
    (λ z. silent r (written_by (record_at from to records)) s z)
    (λ w.
    let e = ends_of to from r at in
    let there = is_at_ends from to w.writer (w.peer.0 ∙ e.1) (w.peer.1 ∙ e.0) in
    let same = written_at from to records w.writer (record_at from to records) refl once w.among there in
    reads_as r w.writer.written (written_by (record_at from to records)) (sym same) (heard_whole w.writer r s w.hears))
    h

-- an end that was seen was found by a read
found_by_read : (found failed : Bool) → (found && not failed) ≡ true → found ≡ true
found_by_read true failed e = refl
found_by_read false failed e = e

faithful : (from to : Addr) (records : List Tcb) (o : Option Tcb) → record_at to from records ≡ o → IsOnce from to records → AllSound records → HeardAt to from records → IsFaithful (record {
  written = written_by (record_at from to records);
  read = read_by o;
  ended = end_seen_by o;
})
faithful from to records None e once sound heard =
    record { front = nothing_front (written_by (record_at from to records)); whole = λ t. absurd (cc) }
faithful from to records (Some r) e once sound heard =
    let f = found (is_at to from) records r e in
    let c = Contains_from_IsIn r records f.0 in
    let k = reads_of from to records r once (sound r c) f.1 (heard r c f.1) in
    record { front = k.front; whole = λ seen. k.whole (found_by_read r.control.saw_end r.control.had_error seen) }

pub streams : (scope : Addr → Addr → Bool) (exchanges : List Exchange) (from to : Addr) → scope from to ≡ true → AreSteps scope empty_exchange exchanges → IsSimple from to (last_exchange empty_exchange exchanges).records → IsFaithful (stream_of from to (last_exchange empty_exchange exchanges).records)
streams scope exchanges from to in_scope steps simple =
    let records = (last_exchange empty_exchange exchanges).records in
    faithful from to records (record_at to from records) refl simple.0 (exchange_sound scope exchanges steps) (exchange_heard scope exchanges to from in_scope steps simple.0)
