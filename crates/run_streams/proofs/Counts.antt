-- what two ends tell that were used once: no more was read at the one than written at the other, and all of it where the end was seen
use Rattle.std.proofs.Common.{◌≡◌, ⊎_elim, ℕ, ◌+◌, ◌^◌, ◌<◌, ◌≤◌, ◌||◌, Bool, true, false, nat_le, min, List, length, take, Some, if◌then◌else◌, refl, sym, ap, subst, ◌∙◌, arith, length-append}
use Rattle.std.specs.List.{count_by}
use Rattle.std.proofs.Math.Nat.{min-eq_left, min-eq_right}
use Rattle.std.proofs.lemmas.Bool.{cases_lt}
use Rattle.std.proofs.lemmas.Bool.Decides.{nat_tests}
use Rattle.std.proofs.lemmas.List.{length-take-le}
use Rattle.sim_base.specs.declared.address.Addr.{Addr}
use Rattle.sock_tcp.specs.connection.Carried.{carried_of}
use Rattle.sock_tcp.specs.connection.Tcb.{Tcb}
use Rattle.tcp_streams.specs.Heard.{IsFront}
use Rattle.tcp_streams.specs.Sound.{IsSound}
use Rattle.tcp_streams.specs.Stream as streams
use Rattle.tcp_streams.specs.Stream.{is_at, IsOnce, IsSimple, record_at, written_by, read_by, end_seen_by, IsFaithful}
use Rattle.tcp_streams.proofs.Members.{IsIn_from_Contains, sole}
use Rattle.out_text.specs.declared.streams.Fate.TheVariants.{Counted, Reused, Long}
use Rattle.host_sockets.specs.declared.streams.HostStream.{HostStream}
use Rattle.stream_pairs.specs.Directions.{most_counted, is_long, fate_between, unused}
use Rattle.run_streams.proofs.Alone.{found_only}
use Rattle.run_streams.proofs.Kept.{IsOnly}

-- ---- what a fate that is counted tells

pub record Told (s o : HostStream) (n m : ℕ) (ended : Bool) : Type 0 where
  pub once : s.reused ≡ false
  pub other_once : o.reused ≡ false
  pub short : is_long s ≡ false
  pub other_short : is_long o ≡ false
  pub written : s.written ≡ n
  pub read : o.read ≡ m
  pub seen : o.ended ≡ ended

counted_told : (s o : HostStream) (n m : ℕ) (ended a b c d : Bool) → s.reused ≡ a → o.reused ≡ b → is_long s ≡ c → is_long o ≡ d → (if a || b then Reused else (if c || d then Long else Counted s.written o.read o.ended)) ≡ Counted n m ended → Told s o n m ended
counted_told s o n m ended true b c d p q u v e = cc
counted_told s o n m ended false true c d p q u v e = cc
counted_told s o n m ended false false true d p q u v e = cc
counted_told s o n m ended false false false true p q u v e = cc
counted_told s o n m ended false false false false p q u v e =
    let written : s.written ≡ n = cc in
    let read : o.read ≡ m = cc in
    let seen : o.ended ≡ ended = cc in
    record { once = p; other_once = q; short = u; other_short = v; written = written; read = read; seen = seen }

pub told_of_fate : (s o : HostStream) (n m : ℕ) (ended : Bool) → fate_between s o ≡ Counted n m ended → Told s o n m ended
told_of_fate s o n m ended e =
    counted_told s o n m ended s.reused o.reused (is_long s) (is_long o) refl refl refl refl e

-- ---- a count that didn't stop

le_itself : (k : ℕ) → nat_le k k ≡ true
le_itself k = grind (arith, nat_tests)

below_most : (k n : ℕ) → nat_le k (min k n) ≡ false → n < k
below_most k n e =
    ⊎_elim
    (λ l. l)
    (λ (l : k ≤ n).
    let no : true ≡ false = sym (le_itself k) ∙ (ap (λ (x : ℕ). nat_le k x) (sym (min-eq_left l)) ∙ e) in
    absurd (cc))
    (cases_lt n k)

all_counted : (k n : ℕ) → n < k → min k n ≡ n
all_counted k n l = min-eq_right (omega (arith, l))

-- ---- the lengths of a faithful stream

pub record Holds (s o : HostStream) : Type 0 where
  pub most : o.read ≤ s.written
  pub whole : o.ended ≡ true → o.read ≡ s.written

pub unused_holds : (own peer : Addr) (s : HostStream) → Holds s (unused own peer)
unused_holds own peer s = record { most = omega arith; whole = λ e. cc }

record Lengths (r q : Tcb) : Type 0 where
  most : q.read ≤ length r.written
  whole : (carried_of q).ended ≡ true → q.read ≡ length r.written

front_within : (front whole : List ℕ) → IsFront front whole → length front ≤ length whole
front_within front whole h =
    let long : length whole ≡ length front + length h.behind = ap (λ (xs : List ℕ). length xs) h.is ∙ length-append front h.behind in
    omega (arith, long)

lengths : (from to : Addr) (records : List Tcb) (r q : Tcb) → record_at from to records ≡ Some r → record_at to from records ≡ Some q → IsSound q → IsFaithful (streams.stream_of from to records) → Lengths r q
lengths from to records r q writer reader sound faithful =
    let written : written_by (record_at from to records) ≡ r.written = ap written_by writer in
    let read : read_by (record_at to from records) ≡ take q.read q.received = ap read_by reader in
    let seen : end_seen_by (record_at to from records) ≡ (carried_of q).ended = ap end_seen_by reader in
    let count : length (take q.read q.received) ≡ q.read = length-take-le q.read q.received sound.counted.within in
    let short : length (read_by (record_at to from records)) ≡ q.read = ap (λ (xs : List ℕ). length xs) read ∙ count in
    let long : length (written_by (record_at from to records)) ≡ length r.written = ap (λ (xs : List ℕ). length xs) written in
    let front = front_within _ _ faithful.front in
    record {
      most = omega (arith, short, long, front);
      whole = λ e. sym short ∙ (ap (λ (xs : List ℕ). length xs) (faithful.whole (seen ∙ e)) ∙ long);
    }

module _ (from to : Addr) (records : List Tcb) (s o : HostStream) (writer : IsOnly from to records s) (reader : IsOnly to from records o) where
  abbrev Only : Addr → Addr → HostStream → Type 0
  Only own peer x = IsOnly own peer records x

  written_short : (own peer : Addr) (x : HostStream) (only : Only own peer x) → is_long x ≡ false → length only.tcb.written < 2 ^ 30
  written_short own peer x only short =
      below_most most_counted (length only.tcb.written) (ap (λ (y : HostStream). is_long y) only.is ∙ short)

  only_once : (own peer : Addr) (x : HostStream) → Only own peer x → is_long x ≡ false → IsOnce own peer records
  only_once own peer x only short =
      let once : count_by (is_at own peer) records ≤ 1 = omega (arith, only.once) in
      record {
        once = once;
        short = λ y c at.
            let same = sole (is_at own peer) records only.tcb y once (IsIn_from_Contains only.tcb records only.among) (IsIn_from_Contains y records c) only.ends at in
            subst (λ (z : Tcb). length z.written < 2 ^ 30) same (written_short own peer x only short);
      }

  the_record : (own peer : Addr) (x : HostStream) (only : Only own peer x) → record_at own peer records ≡ Some only.tcb
  the_record own peer x only =
      found_only (is_at own peer) records only.tcb (record_at own peer records) refl (omega (arith, only.once)) only.among only.ends

  pub ends_hold : is_long s ≡ false → is_long o ≡ false → IsSound reader.tcb → (IsSimple from to records → IsFaithful (streams.stream_of from to records)) → Holds s o
  ends_hold short other_short sound faithful =
      let r = writer.tcb in
      let q = reader.tcb in
      let simple : IsSimple from to records = (only_once from to s writer short, only_once to from o reader other_short) in
      let l = lengths from to records r q (the_record from to s writer) (the_record to from o reader) sound (faithful simple) in
      let few = written_short from to s writer short in
      let written : length r.written ≡ s.written = sym (all_counted most_counted (length r.written) few) ∙ ap (λ (y : HostStream). y.written) writer.is in
      let read : q.read ≡ o.read = sym (all_counted most_counted q.read (omega (arith, l.most, few))) ∙ ap (λ (y : HostStream). y.read) reader.is in
      let seen : (carried_of q).ended ≡ o.ended = ap (λ (y : HostStream). y.ended) reader.is in
      record {
        most = omega (arith, l.most, written, read);
        whole = λ e. sym read ∙ (l.whole (seen ∙ e) ∙ written);
      }
