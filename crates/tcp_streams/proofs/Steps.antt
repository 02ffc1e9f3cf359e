-- what a step leaves of an exchange
use Rattle.std.proofs.Common.{◌≡◌, ℕ, ◌+◌, ◌≤◌, inl, inr, ⊎_elim, Bool, cond, ◌&&◌, List, [], ◌∷◌, length, Contains, sym, ap, subst, ◌∙◌, length-append, arith}
use Rattle.std.specs.List.{count_by}
use Rattle.std.specs.List.Sorted.{IsPermutation}
use Rattle.std.proofs.lemmas.List.Sums.{sum_by-cons}
use Rattle.std.proofs.lemmas.List.Sorted.{Contains-permutation, IsPermutation-sym, sum_by-IsPermutation}
use Rattle.sim_base.specs.Addresses.{is_same}
use Rattle.sim_base.specs.declared.address.Addr.{Addr}
use Rattle.sim_base.specs.declared.packet.Packet.{Packet}
use Rattle.sock_tcp.specs.connection.Tcb.{Tcb}
use Rattle.tcp_laws.specs.Acts.{Start, begun_by, IsStart, Act, acted}
use Rattle.tcp_laws.specs.Growth.{GrowsTo}
use Rattle.tcp_laws.specs.Sending.{LoadCarries, AreOf}
use Rattle.tcp_laws.proofs.Holds.{Grows-refl}
use Rattle.tcp_laws.proofs.Segments.{LoadCarries_grows}
use Rattle.tcp_streams.specs.Exchange.{Exchange, Flies, MayAct, Follows, Step}
use Rattle.tcp_streams.specs.Exchange.Step.{acts, begins, goes_on}
use Rattle.tcp_streams.specs.Sound.{IsSound}
use Rattle.tcp_streams.specs.Heard.{SentBy, HasSender, AreHonest}
use Rattle.tcp_streams.specs.Stream.{is_at, IsOnce}
use Rattle.tcp_streams.proofs.Members.{IsIn, IsIn_from_Contains, Contains_here, Contains_there, Contains_cases}
use Rattle.tcp_streams.proofs.Soundness.{acted_sound, acted_honest, acted_grows, begun_sound, begun_honest}

-- each record is still there, grown
pub record Successor (records : List Tcb) (r : Tcb) : Type 0 where
  pub after : Tcb
  pub among : Contains records after
  pub grows : GrowsTo r after

abbrev pub Evolves : List Tcb → List Tcb → Type 0
Evolves before after = (r : Tcb) → Contains before r → Successor after r

abbrev pub AllSound : List Tcb → Type 0
AllSound records = (r : Tcb) → Contains records r → IsSound r

-- where a record comes from
pub data Origin (m : Exchange) (r : Tcb) : Type 0 where
  stays : Contains m.records r → Origin m r
  acted_by : (before : Tcb) (act : Act) → Contains m.records before → MayAct m.flying before act → r ≡ (acted act before).tcb → Origin m r
  begun_as : (start : Start) → IsStart start → Follows m.flying start → r ≡ (begun_by start).tcb → Origin m r

pub moved : (xs ys : List Tcb) (r : Tcb) → IsPermutation xs ys → Contains ys r → Contains xs r
moved xs ys r p c = Contains-permutation ys xs r (IsPermutation-sym xs ys p) c

pub origin : (scope : Addr → Addr → Bool) (m n : Exchange) (r : Tcb) → Step scope m n → Contains n.records r → Origin m r
origin scope m n r (acts before rest act p may q flies) c =
    ⊎_elim
    (λ e. acted_by before act (moved m.records (before ∷ rest) before p (Contains_here before rest)) may e)
    (λ k. stays (moved m.records (before ∷ rest) r p (Contains_there before r rest k)))
    (Contains_cases (acted act before).tcb r rest (Contains-permutation n.records ((acted act before).tcb ∷ rest) r q c))
origin scope m n r (begins start b follows q flies) c =
    ⊎_elim
    (λ e. begun_as start b follows e)
    (λ k. stays k)
    (Contains_cases (begun_by start).tcb r m.records (Contains-permutation n.records ((begun_by start).tcb ∷ m.records) r q c))
origin scope m n r (goes_on q flies) c = stays (Contains-permutation n.records m.records r q c)

-- sound records
origin_sound : (m : Exchange) (r : Tcb) → AllSound m.records → Origin m r → IsSound r
origin_sound m r all (stays c) = all r c
origin_sound m r all (acted_by before act c may e) = subst IsSound (sym e) (acted_sound act before (all before c))
origin_sound m r all (begun_as start b follows e) = subst IsSound (sym e) (begun_sound start b)

pub step_sound : (scope : Addr → Addr → Bool) (m n : Exchange) → Step scope m n → AllSound m.records → AllSound n.records
step_sound scope m n step all r c = origin_sound m r all (origin scope m n r step c)

-- grown records
pub step_evolves : (scope : Addr → Addr → Bool) (m n : Exchange) → Step scope m n → AllSound m.records → Evolves m.records n.records
step_evolves scope m n (acts before rest act p may q flies) all r c =
    ⊎_elim
    (λ e.
    let among = moved n.records ((acted act before).tcb ∷ rest) (acted act before).tcb q (Contains_here (acted act before).tcb rest) in
    let sound = all before (moved m.records (before ∷ rest) before p (Contains_here before rest)) in
    subst (λ (x : Tcb). Successor n.records x) (sym e) (record { after = (acted act before).tcb; among = among; grows = acted_grows act before sound }))
    (λ k. record {
      after = r;
      among = moved n.records ((acted act before).tcb ∷ rest) r q (Contains_there (acted act before).tcb r rest k);
      grows = Grows-refl r;
    })
    (Contains_cases before r rest (Contains-permutation m.records (before ∷ rest) r p c))
step_evolves scope m n (begins start b follows q flies) all r c = record {
  after = r;
  among = moved n.records ((begun_by start).tcb ∷ m.records) r q (Contains_there (begun_by start).tcb r m.records c);
  grows = Grows-refl r;
}
step_evolves scope m n (goes_on q flies) all r c =
    record { after = r; among = moved n.records m.records r q c; grows = Grows-refl r }

-- honest packets
pub one_of : (r : Tcb) (packets : List Packet) (p : Packet) → AreOf r packets → IsIn p packets → SentBy r p
one_of r [] p h k = absurd k
one_of r (q ∷ packets) p h (inl e) = subst (λ (x : Packet). SentBy r x) (sym e) h.0
one_of r (q ∷ packets) p h (inr k) = one_of r packets p h.1 k

abbrev LoadCarriesBy : ℕ → Tcb → Packet → Type 0
LoadCarriesBy iss r p = LoadCarries iss r.written r.control.fin_wanted p.load

sent_grows : (r after : Tcb) (p : Packet) → GrowsTo r after → SentBy r p → SentBy after p
sent_grows r after p g s = record {
  from = s.from ∙ sym g.local;
  to = s.to ∙ sym g.peer;
  load = subst (λ (iss : ℕ). LoadCarriesBy iss after p) (sym g.iss) (LoadCarries_grows r.iss r.written after.written g.more r.control.fin_wanted after.control.fin_wanted p.load g.written g.ended s.load);
}

still_sent : (before after : List Tcb) (p : Packet) → Evolves before after → HasSender before p → HasSender after p
still_sent before after p evolves s =
    let w = evolves s.sender s.among in
    record { sender = w.after; among = w.among; sent = sent_grows s.sender w.after p w.grows s.sent }

-- what flew before, what was sent now, and what came
flown : (scope : Addr → Addr → Bool) (m n : Exchange) (sent : List Packet) (r : Tcb) → Contains n.records r → AreOf r sent → Evolves m.records n.records → Flies scope m.flying sent n.flying → AreHonest scope m → AreHonest scope n
flown scope m n sent r among of evolves flies honest p c =
    ⊎_elim
    (λ before. ⊎_elim (λ k. inl k) (λ s. inr (still_sent m.records n.records p evolves s)) (honest p before))
    (λ new.
    ⊎_elim
    (λ now. inr (record { sender = r; among = among; sent = one_of r sent p of (IsIn_from_Contains p sent now) }))
    (λ k. inl k)
    new)
    (flies p c)

came : (scope : Addr → Addr → Bool) (m n : Exchange) → Evolves m.records n.records → Flies scope m.flying [] n.flying → AreHonest scope m → AreHonest scope n
came scope m n evolves flies honest p c =
    ⊎_elim
    (λ before. ⊎_elim (λ k. inl k) (λ s. inr (still_sent m.records n.records p evolves s)) (honest p before))
    (λ new. ⊎_elim (λ none. absurd (IsIn_from_Contains p [] none)) (λ k. inl k) new)
    (flies p c)

pub step_honest : (scope : Addr → Addr → Bool) (m n : Exchange) → Step scope m n → AllSound m.records → AreHonest scope m → AreHonest scope n
step_honest scope m n (acts before rest act p may q flies) all honest =
    let after = (acted act before).tcb in
    let sound = all before (moved m.records (before ∷ rest) before p (Contains_here before rest)) in
    let evolves = step_evolves scope m n (acts before rest act p may q flies) all in
    flown scope m n (acted act before).sent after (moved n.records (after ∷ rest) after q (Contains_here after rest)) (acted_honest act before sound) evolves flies honest
step_honest scope m n (begins start b follows q flies) all honest =
    let after = (begun_by start).tcb in
    let evolves = step_evolves scope m n (begins start b follows q flies) all in
    flown scope m n (begun_by start).sent after (moved n.records (after ∷ m.records) after q (Contains_here after m.records)) (begun_honest start b) evolves flies honest
step_honest scope m n (goes_on q flies) all honest =
    let evolves = step_evolves scope m n (goes_on q flies) all in
    came scope m n evolves flies honest

-- how many records an end has, and how many bytes they wrote
abbrev is_at_ends : Addr → Addr → Addr → Addr → Bool
is_at_ends own other local peer = is_same local own && is_same peer other

same_places : (own other : Addr) (r after : Tcb) → GrowsTo r after → is_at own other after ≡ is_at own other r
same_places own other r after g =
    ap (λ (x : Addr). is_at_ends own other x after.control.peer) g.local
    ∙ ap (λ (x : Addr). is_at_ends own other r.control.local x) g.peer

count-cons : (test : Tcb → Bool) (x : Tcb) (xs : List Tcb) → count_by test (x ∷ xs) ≡ cond (test x) 1 0 + count_by test xs
count-cons test x xs = sum_by-cons (λ (y : Tcb). cond (test y) 1 0) x xs

count_permutation : (test : Tcb → Bool) (xs ys : List Tcb) → IsPermutation xs ys → count_by test ys ≡ count_by test xs
count_permutation test xs ys p = sum_by-IsPermutation (λ (y : Tcb). cond (test y) 1 0) xs ys p

pub step_counts : (scope : Addr → Addr → Bool) (m n : Exchange) (own other : Addr) → Step scope m n → AllSound m.records → count_by (is_at own other) m.records ≤ count_by (is_at own other) n.records
step_counts scope m n own other (acts before rest act p may q flies) all =
    let test = is_at own other in
    let after = (acted act before).tcb in
    let sound = all before (moved m.records (before ∷ rest) before p (Contains_here before rest)) in
    let same : cond {A = ℕ} (test after) 1 0 ≡ cond (test before) 1 0 = ap (λ b. cond {A = ℕ} b 1 0) (same_places own other before after (acted_grows act before sound)) in
    omega (arith, same, count-cons test before rest, count-cons test after rest, count_permutation test m.records (before ∷ rest) p, count_permutation test n.records (after ∷ rest) q)
step_counts scope m n own other (begins start b follows q flies) all =
    let test = is_at own other in
    let after = (begun_by start).tcb in
    omega (arith, count-cons test after m.records, count_permutation test n.records (after ∷ m.records) q)
step_counts scope m n own other (goes_on q flies) all =
    omega (arith, count_permutation (is_at own other) n.records m.records q)

-- so that what an end had at most once afterwards it had so before
pub once_before : (own other : Addr) (before after : List Tcb) → Evolves before after → count_by (is_at own other) before ≤ count_by (is_at own other) after → IsOnce own other after → IsOnce own other before
once_before own other before after evolves fewer h = record {
  once = omega (arith, fewer, h.once);
  short = λ r c at.
      let s = evolves r c in
      let there = same_places own other r s.after s.grows ∙ at in
      let short = h.short s.after s.among there in
      let long : length s.after.written ≡ length r.written + length s.grows.more = ap length s.grows.written ∙ length-append r.written s.grows.more in
      omega (arith, short, long);
}
