-- the steps of a part are steps of the whole
use Rattle.std.proofs.Common.{◌≡◌, ◌⊎◌, inl, inr, ⊎_elim, Bool, true, false, ◌||◌, List, [], ◌∷◌, ◌++◌, Contains, refl}
use Rattle.std.proofs.lemmas.List.Elements.{Contains-append_left, Contains-append_right, Contains-append_cases}
use Rattle.std.proofs.lemmas.List.Sorted.{IsPermutation-refl, IsPermutation-sym, IsPermutation-append_left}
use Rattle.sim_base.specs.Addresses.{loopback, is_same_ip}
use Rattle.sim_base.specs.declared.address.Addr.{Addr}
use Rattle.sim_base.specs.declared.packet.Packet.{Packet}
use Rattle.sock_tcp.specs.connection.Tcb.{Tcb}
use Rattle.tcp_laws.specs.Acts.{Start, begun_by, Act, acted}
use Rattle.tcp_laws.specs.Acts.Start.{active, passive}
use Rattle.tcp_laws.specs.Acts.Act.{arrival, write, read, flow, shut, close, expiry, error_read}
use Rattle.tcp_streams.specs.Exchange.{Exchange, Comes, Flies, MayAct, Follows, Step, AreSteps, last_exchange}
use Rattle.tcp_streams.specs.Exchange.Step.{acts, begins, goes_on}
use Rattle.tcp_streams.specs.Frame.{everywhere, inside, IsPart, MovesOn}

-- an exchange with more records and packets
abbrev wider : List Tcb → List Packet → Exchange → Exchange
wider others packets n = record { records = n.records ++ others; flying = n.flying ++ packets }

wider_act : (flying packets : List Packet) (r : Tcb) (act : Act) → MayAct flying r act → MayAct (flying ++ packets) r act
wider_act flying packets r (arrival p) may = (Contains-append_left flying packets p may.0, may.1, may.2)
wider_act flying packets r (write bytes) may = tt
wider_act flying packets r (read count) may = tt
wider_act flying packets r flow may = tt
wider_act flying packets r (shut end) may = tt
wider_act flying packets r close may = tt
wider_act flying packets r expiry may = tt
wider_act flying packets r error_read may = tt

wider_start : (flying packets : List Packet) (start : Start) → Follows flying start → Follows (flying ++ packets) start
wider_start flying packets (active local peer iss) a = tt
wider_start flying packets (passive local peer iss seq) a = record {
  packet = a.packet;
  flies = Contains-append_left flying packets a.packet a.flies;
  to = a.to;
  from = a.from;
  asks = a.asks;
}

wider_flies : (scope : Addr → Addr → Bool) (before sent after packets : List Packet) → Flies scope before sent after → Flies scope (before ++ packets) sent (after ++ packets)
wider_flies scope before sent after packets flies p c =
    ⊎_elim
    (λ a. ⊎_elim (λ b. inl (Contains-append_left before packets p b)) (λ n. inr n) (flies p a))
    (λ k. inl (Contains-append_right before packets p k))
    (Contains-append_cases after packets p c)

wider_step : (scope : Addr → Addr → Bool) (others : List Tcb) (packets : List Packet) (m n : Exchange) → Step scope m n → Step scope (wider others packets m) (wider others packets n)
wider_step scope others packets m n (acts r rest act p may q flies) =
    acts r (rest ++ others) act
    (IsPermutation-append_left others m.records (r ∷ rest) p)
    (wider_act m.flying packets r act may)
    (IsPermutation-append_left others n.records ((acted act r).tcb ∷ rest) q)
    (wider_flies scope m.flying (acted act r).sent n.flying packets flies)
wider_step scope others packets m n (begins start b follows q flies) =
    begins start b
    (wider_start m.flying packets start follows)
    (IsPermutation-append_left others n.records ((begun_by start).tcb ∷ m.records) q)
    (wider_flies scope m.flying (begun_by start).sent n.flying packets flies)
wider_step scope others packets m n (goes_on q flies) =
    goes_on
    (IsPermutation-append_left others n.records m.records q)
    (wider_flies scope m.flying [] n.flying packets flies)

-- whole lists of steps
abbrev pub all_of : Exchange → List Exchange → (Exchange → Exchange) → Exchange → List Exchange
all_of m [] f after = after ∷ []
all_of m (n ∷ exchanges) f after = f n ∷ all_of n exchanges f after

last_all : (m : Exchange) (exchanges : List Exchange) (f : Exchange → Exchange) (first after : Exchange) → last_exchange first (all_of m exchanges f after) ≡ after
last_all m [] f first after = refl
last_all m (n ∷ exchanges) f first after = last_all n exchanges f (f n) after

wider_steps : (scope : Addr → Addr → Bool) (others : List Tcb) (packets : List Packet) (m : Exchange) (exchanges : List Exchange) (after : Exchange) → AreSteps scope m exchanges → Step scope (wider others packets (last_exchange m exchanges)) after → AreSteps scope (wider others packets m) (all_of m exchanges (wider others packets) after)
wider_steps scope others packets m [] after steps last = (last, tt)
wider_steps scope others packets m (n ∷ exchanges) after steps last =
    (wider_step scope others packets m n steps.0, wider_steps scope others packets n exchanges after steps.1 last)

-- from the whole to the part beside the others, and back
enters : (scope : Addr → Addr → Bool) (part : Exchange) (others : List Tcb) (whole : Exchange) → IsPart part others whole → Step scope whole (wider others whole.flying part)
enters scope part others whole h =
    goes_on
    (IsPermutation-sym whole.records (part.records ++ others) h.records)
    (λ p c. inl (⊎_elim (λ k. h.flying p k) (λ k. k) (Contains-append_cases part.flying whole.flying p c)))

leaves : (scope : Addr → Addr → Bool) (part : Exchange) (others : List Tcb) (before after : Exchange) → MovesOn scope part others before after → Step scope (wider others before.flying part) after
leaves scope part others before after h =
    goes_on h.records
    (λ p c.
    ⊎_elim
    (λ k. inl (Contains-append_left part.flying before.flying p k))
    (λ n.
    ⊎_elim
    (λ k. inl (Contains-append_right part.flying before.flying p k))
    (λ k. inr (inr k))
    n)
    (h.flying p c))

pub part_steps : (scope : Addr → Addr → Bool) (part : Exchange) (exchanges : List Exchange) (others : List Tcb) (before after : Exchange) → IsPart part others before → AreSteps scope part exchanges → MovesOn scope (last_exchange part exchanges) others before after → (more : List Exchange) × (AreSteps scope before more) × (last_exchange before more ≡ after)
part_steps scope part exchanges others before after h steps k =
    let f = wider others before.flying in
    let last = leaves scope (last_exchange part exchanges) others before after k in (
      f part ∷ all_of part exchanges f after,
      (enters scope part others before h, wider_steps scope others before.flying part exchanges after steps last),
      last_all part exchanges f (f part) after,
    )

-- what comes to every two ends tells nothing, and so comes to any
narrow_flies : (scope : Addr → Addr → Bool) (before sent after : List Packet) → Flies everywhere before sent after → Flies scope before sent after
narrow_flies scope before sent after flies p c =
    ⊎_elim
    (λ b. inl b)
    (λ n.
    ⊎_elim
    (λ s. inr (inl s))
    (λ k. inr (inr (⊎_elim (λ v. inl v) (λ (no : true ≡ false). absurd (cc)) k)))
    n)
    (flies p c)

narrow_step : (scope : Addr → Addr → Bool) (m n : Exchange) → Step everywhere m n → Step scope m n
narrow_step scope m n (acts r rest act p may q flies) =
    acts r rest act p may q (narrow_flies scope m.flying (acted act r).sent n.flying flies)
narrow_step scope m n (begins start b follows q flies) =
    begins start b follows q (narrow_flies scope m.flying (begun_by start).sent n.flying flies)
narrow_step scope m n (goes_on q flies) = goes_on q (narrow_flies scope m.flying [] n.flying flies)

pub narrow_steps : (scope : Addr → Addr → Bool) (m : Exchange) (exchanges : List Exchange) → AreSteps everywhere m exchanges → AreSteps scope m exchanges
narrow_steps scope m [] steps = tt
narrow_steps scope m (n ∷ exchanges) steps = (narrow_step scope m n steps.0, narrow_steps scope n exchanges steps.1)

-- lists of steps one behind another
pub joined : (scope : Addr → Addr → Bool) (m : Exchange) (exchanges more : List Exchange) → AreSteps scope m exchanges → AreSteps scope (last_exchange m exchanges) more → AreSteps scope m (exchanges ++ more) × (last_exchange m (exchanges ++ more) ≡ last_exchange (last_exchange m exchanges) more)
joined scope m [] more steps next = (next, refl)
joined scope m (n ∷ exchanges) more steps next =
    let rest = joined scope n exchanges more steps.1 next in ((steps.0, rest.0), rest.1)

-- what others do
pub others_step : (scope : Addr → Addr → Bool) (part : Exchange) (flying : List Packet) → ((p : Packet) → Contains flying p → Contains part.flying p ⊎ Comes scope p) → Step scope part (record { records = part.records; flying = flying })
others_step scope part flying h =
    goes_on (IsPermutation-refl part.records) (λ p c. ⊎_elim (λ k. inl k) (λ k. inr (inr k)) (h p c))

neither : (a b : Bool) → a ≡ false → b ≡ false → (a || b) ≡ false
neither true b e k = cc
neither false b e k = k

pub comes_outside : (p : Packet) → is_same_ip p.from.ip loopback ≡ false → is_same_ip p.to.ip loopback ≡ false → Comes inside p
comes_outside p a b =
    inr (neither (is_same_ip p.from.ip loopback) (is_same_ip p.to.ip loopback) a b)
