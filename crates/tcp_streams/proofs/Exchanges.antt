-- what every exchange keeps of two ends
use Rattle.std.proofs.Common.{◌≡◌, ℕ, ◌+◌, ◌⊎◌, inl, inr, ⊎_elim, Bool, true, false, not, ◌&&◌, List, [], ◌∷◌, ◌++◌, length, Contains, refl, sym, ap, subst, ◌∙◌, length-append, arith}
use Rattle.sim_base.specs.declared.address.Addr.{Addr}
use Rattle.sim_base.specs.declared.packet.Packet.{Packet}
use Rattle.sim_base.specs.declared.packet.Load.{Load}
use Rattle.sim_base.specs.declared.packet.Load.TheVariants.{Udp, Tcp}
use Rattle.sock_tcp.specs.declared.segment.header.Header.{Header}
use Rattle.sock_tcp.specs.segment.Header.{header_of}
use Rattle.sock_tcp.specs.segment.Number.{wire}
use Rattle.sock_tcp.specs.segment.Control.{fresh_control}
use Rattle.sock_tcp.specs.connection.Tcb.{Tcb}
use Rattle.sock_tcp.specs.connection.Process.{fresh_tcb, opened, answered}
use Rattle.sock_tcp.specs.listener.Listen.{asks}
use Rattle.tcp_laws.specs.Acts.{Start, begun_by, Act, acted}
use Rattle.tcp_laws.specs.Acts.Start.{active, passive}
use Rattle.tcp_laws.specs.Acts.Act.{arrival, write, read, flow, shut, close, expiry, error_read}
use Rattle.tcp_laws.specs.Growth.{GrowsTo}
use Rattle.tcp_laws.specs.Sending.{LoadCarries}
use Rattle.tcp_streams.specs.Exchange.{Exchange, IsVoid, Comes, MayAct, AsksFrom, Follows, Step, AreSteps, last_exchange}
use Rattle.tcp_streams.specs.Sound.{IsSound}
use Rattle.tcp_streams.specs.Heard.{IsFront, Hears, HearsFrom, IsPeer, IsHeard, HasSender, AreHonest}
use Rattle.tcp_streams.specs.Stream.{is_at, IsOnce}
use Rattle.tcp_streams.proofs.Fronts.{nothing_front, IsFront_append}
use Rattle.tcp_streams.proofs.Members.{IsIn_from_Contains, sole}
use Rattle.tcp_streams.proofs.Ends.{and_left, and_right, ends_of, is_at_ends}
use Rattle.tcp_streams.proofs.Quiet.{Told, told, IsQuiet, quiet}
use Rattle.tcp_streams.proofs.Hearing.{hears_segment}
use Rattle.tcp_streams.proofs.Soundness.{acted_grows}
use Rattle.tcp_streams.proofs.Steps.{Evolves, AllSound, Origin, origin, step_sound, step_evolves, step_honest, step_counts, once_before}
use Rattle.tcp_streams.proofs.Steps.Origin.{stays, acted_by, begun_as}

-- as the other record grows
front_grows : (front whole longer more : List ℕ) → longer ≡ whole ++ more → IsFront front whole → IsFront front longer
front_grows front whole longer more e h =
    subst (λ (xs : List ℕ). IsFront front xs) (sym e) (IsFront_append front whole more h)

hears_grows : (w after r : Tcb) → GrowsTo w after → HearsFrom w r → HearsFrom after r
hears_grows w after r g h =
    let long : length after.written ≡ length w.written + length g.more = ap length g.written ∙ length-append w.written g.more in
    record {
      first = h.first ∙ ap (λ n. wire n 0) (sym g.iss);
      expected = h.expected;
      within = omega (arith, h.within, long);
      front = front_grows r.received w.written after.written g.more g.written h.front;
      ended = λ t.
          let was = h.ended t in
          let now = g.ended was.0 in
          let none : length g.more ≡ 0 = ap length now.1 in
          (now.0, omega (arith, was.1, long, none));
    }

still_heard : (before after : List Tcb) (r : Tcb) → Evolves before after → IsHeard before r → IsHeard after r
still_heard before after r evolves h =
    ⊎_elim
    (λ z. inl z)
    (λ w.
    let s = evolves w.writer w.among in
    inr (record {
      writer = s.after;
      among = s.among;
      peer = (s.grows.local ∙ w.peer.0, s.grows.peer ∙ w.peer.1);
      hears = hears_grows w.writer s.after r s.grows w.hears;
    }))
    h

-- an act by which nothing is told
heard_quietly : (records : List Tcb) (r after : Tcb) → GrowsTo r after → told after ≡ told r → IsHeard records r → IsHeard records after
heard_quietly records r after g same h =
    ⊎_elim
    (λ z. inl (ap (λ (x : Told). x.rcv) same ∙ z))
    (λ w.
    inr (record {
      writer = w.writer;
      among = w.among;
      peer = (w.peer.0 ∙ sym g.peer, w.peer.1 ∙ sym g.local);
      hears = subst (λ (x : Told). Hears w.writer.iss w.writer.written w.writer.control.fin_wanted x.irs x.rcv x.received x.discarded x.taken) (sym same) w.hears;
    }))
    h

-- the only record at the other end
peer_at : (own other : Addr) (w r : Tcb) → IsPeer w r → is_at own other r ≡ true → is_at other own w ≡ true
peer_at own other w r p at =
    let e = ends_of own other r at in is_at_ends other own w (p.0 ∙ e.1) (p.1 ∙ e.0)

knows : (own other : Addr) (records : List Tcb) (r w : Tcb) → is_at own other r ≡ true → IsOnce other own records → Contains records w → IsPeer w r → IsHeard records r → (r.rcv ≡ 0) ⊎ HearsFrom w r
knows own other records r w at once c p h =
    ⊎_elim
    (λ z. inl z)
    (λ k.
    let same = sole (is_at other own) records k.writer w once.once (IsIn_from_Contains k.writer records k.among) (IsIn_from_Contains w records c) (peer_at own other k.writer r k.peer at) (peer_at own other w r p at) in
    inr (subst (λ (x : Tcb). HearsFrom x r) same k.hears))
    h

heard_segment : (own other : Addr) (records : List Tcb) (r : Tcb) (p : Packet) → IsSound r → is_at own other r ≡ true → IsOnce other own records → p.to ≡ r.control.local → p.from ≡ r.control.peer → HasSender records p → IsHeard records r → IsHeard records (acted (arrival p) r).tcb
heard_segment own other records r p sound at once to from s h =
    let w = s.sender in
    let g = acted_grows (arrival p) r sound in
    let peer : IsPeer w r = (sym s.sent.from ∙ from, sym s.sent.to ∙ to) in
    let short = once.short w s.among (peer_at own other w r peer at) in
    ⊎_elim
    (λ z. inl z)
    (λ k. inr (record {
      writer = w;
      among = s.among;
      peer = (peer.0 ∙ sym g.peer, peer.1 ∙ sym g.local);
      hears = k;
    }))
    (hears_segment w p r short sound.counted s.sent.load (knows own other records r w at once s.among peer h))

-- no packet of these ends comes from elsewhere, but one that tells nothing
void_of : (scope : Addr → Addr → Bool) (own other : Addr) (p : Packet) → scope other own ≡ true → p.to ≡ own → p.from ≡ other → Comes scope p → IsVoid p.load
void_of scope own other p in_scope to from c =
    ⊎_elim
    (λ v. v)
    (λ out.
    let here : scope p.from p.to ≡ true = ap (λ x. scope x p.to) from ∙ (ap (λ x. scope other x) to ∙ in_scope) in
    let no : true ≡ false = sym here ∙ out in
    absurd (cc))
    c

heard_arrival : (scope : Addr → Addr → Bool) (own other : Addr) (m : Exchange) (r : Tcb) (p : Packet) → scope other own ≡ true → IsSound r → AreHonest scope m → is_at own other r ≡ true → IsOnce other own m.records → MayAct m.flying r (arrival p) → IsHeard m.records r → IsHeard m.records (acted (arrival p) r).tcb
heard_arrival scope own other m r p in_scope sound honest at once may h =
    let e = ends_of own other r at in
    ⊎_elim
    (λ c.
    let void = void_of scope own other p in_scope (may.1 ∙ e.0) (may.2 ∙ e.1) c in
    heard_quietly m.records r (acted (arrival p) r).tcb (acted_grows (arrival p) r sound) (quiet (arrival p) r void) h)
    (λ s. heard_segment own other m.records r p sound at once may.1 may.2 s h)
    (honest p may.0)

heard_otherwise : (m : Exchange) (r : Tcb) (act : Act) → IsSound r → IsQuiet act → IsHeard m.records r → IsHeard m.records (acted act r).tcb
heard_otherwise m r act sound q h =
    heard_quietly m.records r (acted act r).tcb (acted_grows act r sound) (quiet act r q) h

heard_act : (scope : Addr → Addr → Bool) (own other : Addr) (m : Exchange) (r : Tcb) (act : Act) → scope other own ≡ true → IsSound r → AreHonest scope m → is_at own other r ≡ true → IsOnce other own m.records → MayAct m.flying r act → IsHeard m.records r → IsHeard m.records (acted act r).tcb
heard_act scope own other m r (arrival p) in_scope sound honest at once may h =
    heard_arrival scope own other m r p in_scope sound honest at once may h
heard_act scope own other m r (write bytes) in_scope sound honest at once may h = heard_otherwise m r (write bytes) sound tt h
heard_act scope own other m r (read count) in_scope sound honest at once may h = heard_otherwise m r (read count) sound tt h
heard_act scope own other m r flow in_scope sound honest at once may h = heard_otherwise m r flow sound tt h
heard_act scope own other m r (shut end) in_scope sound honest at once may h = heard_otherwise m r (shut end) sound tt h
heard_act scope own other m r close in_scope sound honest at once may h = heard_otherwise m r close sound tt h
heard_act scope own other m r expiry in_scope sound honest at once may h = heard_otherwise m r expiry sound tt h
heard_act scope own other m r error_read in_scope sound honest at once may h = heard_otherwise m r error_read sound tt h

-- a record that begins: a SYN that asks has the number of its record's start
not_true : (b : Bool) → not b ≡ true → b ≡ false
not_true true e = cc
not_true false e = refl

no_reset : (h : Header) (X : Type 0) → asks h ≡ true → h.rst ≡ true → X
no_reset h X a e =
    let k = not_true h.rst (and_right (not h.has_ack) (not h.rst) (and_right h.syn (not h.has_ack && not h.rst) a)) in
    let no : true ≡ false = sym e ∙ k in
    absurd (cc)

asks_void : (load : Load) (first : ℕ) (X : Type 0) → AsksFrom first load → IsVoid load → X
asks_void (Udp text) first X a v = absurd a
asks_void (Tcp flags seq ack window text) first X a v =
    no_reset (header_of flags seq ack window) X a.0 v

asks_start : (iss : ℕ) (written : List ℕ) (wanted : Bool) (load : Load) (first : ℕ) → AsksFrom first load → LoadCarries iss written wanted load → first ≡ wire iss 0
asks_start iss written wanted (Udp text) first a c = absurd a
asks_start iss written wanted (Tcp flags seq ack window text) first a (inl e) =
    no_reset (header_of flags seq ack window) _ a.0 e
asks_start iss written wanted (Tcp flags seq ack window text) first a (inr c) =
    let h = header_of flags seq ack window in
    let syn = and_left h.syn (not h.has_ack && not h.rst) a.0 in
    sym a.1 ∙ (c.seq ∙ ap (wire iss) (c.syn syn))

heard_begun : (scope : Addr → Addr → Bool) (own other : Addr) (m : Exchange) (start : Start) → scope other own ≡ true → AreHonest scope m → is_at own other (begun_by start).tcb ≡ true → Follows m.flying start → IsHeard m.records (begun_by start).tcb
unfolding opened answered fresh_tcb fresh_control
heard_begun scope own other m (active local peer iss) in_scope honest at follows = inl refl
heard_begun scope own other m (passive local peer iss seq) in_scope honest at a =
    let e = ends_of own other (answered local peer iss seq).tcb at in
    ⊎_elim
    (λ c. asks_void a.packet.load seq _ a.asks (void_of scope own other a.packet in_scope (a.to ∙ e.0) (a.from ∙ e.1) c))
    (λ s.
    inr (record {
      writer = s.sender;
      among = s.among;
      peer = (sym s.sent.from ∙ a.from, sym s.sent.to ∙ a.to);
      hears = record {
        first = asks_start s.sender.iss s.sender.written s.sender.control.fin_wanted a.packet.load seq a.asks s.sent.load;
        expected = refl;
        within = omega arith;
        front = nothing_front s.sender.written;
        ended = λ t. absurd (cc);
      };
    }))
    (honest a.packet a.flies)

-- what is heard at an end of the other one
abbrev pub HeardAt : Addr → Addr → List Tcb → Type 0
HeardAt own other records =
    (r : Tcb) → Contains records r → is_at own other r ≡ true → IsHeard records r

same_at : (own other : Addr) (r after : Tcb) → GrowsTo r after → is_at own other after ≡ true → is_at own other r ≡ true
same_at own other r after g at =
    let e = ends_of own other after at in is_at_ends own other r (sym g.local ∙ e.0) (sym g.peer ∙ e.1)

heard_from : (scope : Addr → Addr → Bool) (own other : Addr) (m : Exchange) (r : Tcb) → scope other own ≡ true → AllSound m.records → AreHonest scope m → IsOnce other own m.records → HeardAt own other m.records → is_at own other r ≡ true → Origin m r → IsHeard m.records r
heard_from scope own other m r in_scope sound honest once heard at (stays c) = heard r c at
heard_from scope own other m r in_scope sound honest once heard at (acted_by before act c may e) =
    let was = same_at own other before (acted act before).tcb (acted_grows act before (sound before c)) (sym (ap (is_at own other) e) ∙ at) in
    subst (IsHeard m.records) (sym e) (heard_act scope own other m before act in_scope (sound before c) honest was once may (heard before c was))
heard_from scope own other m r in_scope sound honest once heard at (begun_as start b follows e) =
    subst (IsHeard m.records) (sym e) (heard_begun scope own other m start in_scope honest (sym (ap (is_at own other) e) ∙ at) follows)

step_heard : (scope : Addr → Addr → Bool) (own other : Addr) (m n : Exchange) → scope other own ≡ true → Step scope m n → AllSound m.records → AreHonest scope m → IsOnce other own m.records → HeardAt own other m.records → HeardAt own other n.records
step_heard scope own other m n in_scope step sound honest once heard r c at =
    still_heard m.records n.records r (step_evolves scope m n step sound) (heard_from scope own other m r in_scope sound honest once heard at (origin scope m n r step c))

-- over all steps
pub steps_sound : (scope : Addr → Addr → Bool) (m : Exchange) (exchanges : List Exchange) → AreSteps scope m exchanges → AllSound m.records → AllSound (last_exchange m exchanges).records
steps_sound scope m [] steps sound = sound
steps_sound scope m (n ∷ exchanges) steps sound = steps_sound scope n exchanges steps.1 (step_sound scope m n steps.0 sound)

pub steps_honest : (scope : Addr → Addr → Bool) (m : Exchange) (exchanges : List Exchange) → AreSteps scope m exchanges → AllSound m.records → AreHonest scope m → AreHonest scope (last_exchange m exchanges)
steps_honest scope m [] steps sound honest = honest
steps_honest scope m (n ∷ exchanges) steps sound honest =
    steps_honest scope n exchanges steps.1 (step_sound scope m n steps.0 sound) (step_honest scope m n steps.0 sound honest)

once_first : (scope : Addr → Addr → Bool) (own other : Addr) (m : Exchange) (exchanges : List Exchange) → AreSteps scope m exchanges → AllSound m.records → IsOnce own other (last_exchange m exchanges).records → IsOnce own other m.records
once_first scope own other m [] steps sound once = once
once_first scope own other m (n ∷ exchanges) steps sound once =
    let later = once_first scope own other n exchanges steps.1 (step_sound scope m n steps.0 sound) once in
    once_before own other m.records n.records (step_evolves scope m n steps.0 sound) (step_counts scope m n own other steps.0 sound) later

pub steps_heard : (scope : Addr → Addr → Bool) (own other : Addr) (m : Exchange) (exchanges : List Exchange) → scope other own ≡ true → AreSteps scope m exchanges → AllSound m.records → AreHonest scope m → HeardAt own other m.records → IsOnce other own (last_exchange m exchanges).records → HeardAt own other (last_exchange m exchanges).records
steps_heard scope own other m [] in_scope steps sound honest heard once = heard
steps_heard scope own other m (n ∷ exchanges) in_scope steps sound honest heard once =
    let next = step_sound scope m n steps.0 sound in
    let first = once_first scope other own m (n ∷ exchanges) steps sound once in
    steps_heard scope own other n exchanges in_scope steps.1 next (step_honest scope m n steps.0 sound honest) (step_heard scope own other m n in_scope steps.0 sound honest first heard) once
