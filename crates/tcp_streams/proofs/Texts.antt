-- where what a record hears stands in what the other one wrote
use Rattle.std.proofs.Common.{◌≡◌, ⊎_elim, ℕ, ◌+◌, ◌-◌, ◌<◌, ◌≤◌, ◌==◌, ◌^◌, List, [], ◌++◌, length, drop, Bool, true, false, refl, sym, ap, subst, ◌∙◌, length-append, arith}
use Rattle.std.proofs.lemmas.Bool.{cases_lt}
use Rattle.sock_tcp.specs.declared.segment.header.Header.{Header}
use Rattle.sock_tcp.specs.declared.segment.number.Distance.{Distance}
use Rattle.sock_tcp.specs.declared.segment.number.Distance.TheVariants.{Ahead, Behind}
use Rattle.sock_tcp.specs.segment.Number.{wire, distance}
use Rattle.sock_tcp.specs.segment.Refusal.{one_if}
use Rattle.sock_tcp.specs.connection.Tcb.{Tcb}
use Rattle.sock_tcp.specs.connection.Arrival.{fresh_text}
use Rattle.tcp_laws.specs.Sending.{IsAt, stream, Carries}
use Rattle.tcp_laws.proofs.Tests.{by_test}
use Rattle.tcp_laws.proofs.Places.{nothing_at}
use Rattle.tcp_laws.proofs.Nearest.{distance_ahead, distance_behind}
use Rattle.tcp_streams.specs.Heard.{Hears, HearsFrom}
use Rattle.tcp_streams.proofs.Fronts.{IsFront_more, IsAt_past, IsAt_long}
use Rattle.tcp_streams.proofs.Ears.{Ear, ear}
use Rattle.tcp_streams.proofs.Ends.{same_number}

-- over what is heard
abbrev pub Hearing : Tcb → Ear → Type 0
Hearing w e = Hears w.iss w.written w.control.fin_wanted e.irs e.rcv e.received e.discarded e.taken

-- a segment of the other record names its own offset
wire_shift : (iss n : ℕ) → wire (wire iss 0) n ≡ wire iss n
unfolding wire
wire_shift iss n = omega arith

wire_add : (seq iss n more : ℕ) → seq ≡ wire iss n → wire seq more ≡ wire iss (n + more)
unfolding wire
wire_add seq iss n more e = omega (arith, e)

wire_same : (iss a b : ℕ) → a < b + 2 ^ 32 → b < a + 2 ^ 32 → wire iss a ≡ wire iss b → a ≡ b
unfolding wire
wire_same iss a b p q e = omega (arith, e)

expected_wire : (w : Tcb) (e : Ear) → Hearing w e → wire e.irs e.rcv ≡ wire w.iss e.rcv
expected_wire w e h = ap (λ n. wire n e.rcv) h.first ∙ wire_shift w.iss e.rcv

one_at_most : (b : Bool) → one_if b ≤ 1
one_at_most true = omega arith
one_at_most false = omega arith

expected_within : (w : Tcb) (e : Ear) → Hearing w e → (1 ≤ e.rcv) × (e.rcv ≤ 2 + length w.written)
expected_within w e h =
    (omega (arith, h.expected), omega (arith, h.expected, h.within, one_at_most e.taken))

-- what is fresh of its text stands where it is expected
ahead_there : (rcv by offset : ℕ) (text whole : List ℕ) → by ≡ offset - rcv → rcv ≤ offset → IsAt offset text whole → IsAt rcv (fresh_text (Ahead by) text) whole
ahead_there rcv by offset text whole e b p =
    by_test (λ (xs : List ℕ). IsAt rcv xs whole) (by == 0) text []
    (λ z. let same : offset ≡ rcv = omega (arith, e, same_number by 0 z) in subst (λ (n : ℕ). IsAt n text whole) same p)
    (λ z. nothing_at rcv whole)

behind_there : (rcv by offset : ℕ) (text whole : List ℕ) → by ≡ rcv - offset → offset < rcv → IsAt offset text whole → IsAt rcv (fresh_text (Behind by) text) whole
behind_there rcv by offset text whole e b p =
    subst (λ (n : ℕ). IsAt n (drop by text) whole) (omega (arith, e)) (IsAt_past offset by text whole p)

pub fresh_there : (w : Tcb) (e : Ear) (h : Header) (text : List ℕ) → length w.written < 2 ^ 30 → Hearing w e → Carries w.iss w.written w.control.fin_wanted h text → IsAt e.rcv (fresh_text (distance (wire e.irs e.rcv) h.seq) text) (stream w.written)
fresh_there w e h text short k c =
    let within = expected_within w e k in
    let P : ℕ → ℕ → Type 0 = λ a b. IsAt e.rcv (fresh_text (distance a b) text) (stream w.written) in
    subst (λ (a : ℕ). P a h.seq) (sym (expected_wire w e k))
    (subst (P (wire w.iss e.rcv)) (sym c.seq)
    (⊎_elim
    (λ b.
    let d = distance_behind w.iss e.rcv c.offset b (omega (arith, within.1)) in
    subst (λ (d : Distance). IsAt e.rcv (fresh_text d text) (stream w.written)) (sym d) (behind_there e.rcv (e.rcv - c.offset) c.offset text (stream w.written) refl b c.part))
    (λ b.
    let d = distance_ahead w.iss e.rcv c.offset b (omega (arith, c.within)) in
    subst (λ (d : Distance). IsAt e.rcv (fresh_text d text) (stream w.written)) (sym d) (ahead_there e.rcv (c.offset - e.rcv) c.offset text (stream w.written) refl b c.part))
    (cases_lt c.offset e.rcv)))

-- text
pub hearing_keeps : (w : Tcb) (e : Ear) (bytes : List ℕ) → e.taken ≡ false → e.discarded ≡ 0 → IsAt e.rcv bytes (stream w.written) → Hearing w e → Hearing w (record e { received = e.received ++ bytes; rcv = e.rcv + length bytes })
hearing_keeps w e bytes untaken none p h =
    let zero : one_if e.taken ≡ 0 = ap one_if untaken in
    let there : e.rcv ≡ 1 + length e.received = omega (arith, h.expected, zero, none) in
    let more = length-append e.received bytes in
    let long = IsAt_long e.rcv bytes (stream w.written) (omega (arith, there, h.within)) p in
    record {
      first = h.first;
      expected = omega (arith, there, zero, none, more);
      within = omega (arith, long, there, none, more);
      front = IsFront_more e.received bytes w.written h.front (subst (λ (n : ℕ). IsAt n bytes (stream w.written)) there p);
      ended = λ t. let no : true ≡ false = sym t ∙ untaken in absurd (cc);
    }

pub hearing_discards : (w : Tcb) (e : Ear) (bytes : List ℕ) → e.taken ≡ false → IsAt e.rcv bytes (stream w.written) → Hearing w e → Hearing w (record e { discarded = e.discarded + length bytes; rcv = e.rcv + length bytes })
hearing_discards w e bytes untaken p h =
    let zero : one_if e.taken ≡ 0 = ap one_if untaken in
    let there : e.rcv ≡ 1 + (length e.received + e.discarded) = omega (arith, h.expected, zero) in
    let long = IsAt_long e.rcv bytes (stream w.written) (omega (arith, there, h.within)) p in
    record {
      first = h.first;
      expected = omega (arith, there, zero);
      within = omega (arith, long, there);
      front = h.front;
      ended = λ t. let no : true ≡ false = sym t ∙ untaken in absurd (cc);
    }

-- the FIN
pub hearing_fin : (w : Tcb) (e : Ear) (h : Header) (text : List ℕ) → length w.written < 2 ^ 30 → e.taken ≡ false → h.fin ≡ true → wire h.seq (length text) ≡ wire e.irs e.rcv → Carries w.iss w.written w.control.fin_wanted h text → Hearing w e → Hearing w (record e { rcv = e.rcv + 1; taken = true })
hearing_fin w e h text short untaken fin at c k =
    let zero : one_if e.taken ≡ 0 = ap one_if untaken in
    let within = expected_within w e k in
    let f = c.fin fin in
    let same : wire w.iss (c.offset + length text) ≡ wire w.iss e.rcv =
    sym (wire_add h.seq w.iss c.offset (length text) c.seq) ∙ (at ∙ expected_wire w e k) in
    let there : c.offset + length text ≡ e.rcv =
    wire_same w.iss (c.offset + length text) e.rcv (omega (arith, f.1)) (omega (arith, within.1)) same in
    let all : length e.received + e.discarded ≡ length w.written = omega (arith, there, f.1, k.expected, zero) in
    record {
      first = k.first;
      expected = omega (arith, k.expected, zero);
      within = k.within;
      front = k.front;
      ended = λ t. (f.0, all);
    }

-- a segment of the other record names its own offset
pub named_ahead : (w r : Tcb) (h : Header) (text : List ℕ) (c : Carries w.iss w.written w.control.fin_wanted h text) → length w.written < 2 ^ 30 → HearsFrom w r → r.rcv ≤ c.offset → distance (wire r.irs r.rcv) h.seq ≡ Ahead (c.offset - r.rcv)
named_ahead w r h text c short k b =
    ap (λ n. distance (wire r.irs r.rcv) n) c.seq
    ∙ (ap (λ n. distance n (wire w.iss c.offset)) (expected_wire w (ear r) k) ∙ distance_ahead w.iss r.rcv c.offset b (omega (arith, c.within)))

pub named_behind : (w r : Tcb) (h : Header) (text : List ℕ) (c : Carries w.iss w.written w.control.fin_wanted h text) → length w.written < 2 ^ 30 → HearsFrom w r → c.offset < r.rcv → distance (wire r.irs r.rcv) h.seq ≡ Behind (r.rcv - c.offset)
named_behind w r h text c short k b =
    let within = expected_within w (ear r) k in
    ap (λ n. distance (wire r.irs r.rcv) n) c.seq
    ∙ (ap (λ n. distance n (wire w.iss c.offset)) (expected_wire w (ear r) k) ∙ distance_behind w.iss r.rcv c.offset b (omega (arith, within.1)))
