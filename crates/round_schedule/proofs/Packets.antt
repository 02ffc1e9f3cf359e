-- What a firing makes for its host and for others.
use Rattle.std.proofs.Common.{◌≡◌, ℕ, inl, inr, Bool, true, false, ◌==◌, List, [], ◌∷◌, ◌++◌, All, map, filter, refl, sym, ap, subst, ◌∙◌}
use Rattle.std.specs.Prelude.{if◌then◌else◌, not}
use Rattle.std.proofs.lemmas.Bool.Decides.{Decides-eqb}
use Rattle.std.proofs.lemmas.List.{map-append}
use Rattle.sim_base.specs.declared.event.Event.{Event}
use Rattle.sim_base.specs.declared.event.Parcel.{Parcel}
use Rattle.sim_base.specs.declared.event.What.{What}
use Rattle.sim_base.specs.declared.event.What.TheVariants as what
use Rattle.sim_base.specs.declared.key.Key.{Key}
use Rattle.host_link.specs.declared.line.Line.{Line}
use Rattle.host_link.specs.declared.line.Logged.{Logged as HostLogged}
use Rattle.host_link.specs.Net.{Net}
use Rattle.host_state.specs.Fits.{model}
use Rattle.host_link.specs.Home.{home, home_of}
use Rattle.host_link.specs.Outbox.{own_events, parcels_of, posted, logged}
use Rattle.host_link.specs.Parcels.{parcel_event}
use Rattle.world_order.specs.Round.{events_at}
use Rattle.world_order.specs.World as order
use Rattle.world_order.proofs.Members.{IsIn, Each, Each_from_All, All_from_Each, Each-append, Each_cons}
use Rattle.round_schedule.specs.Standing.{ParcelsStand, line_of, lines_of}

-- ---- its own events

own_by : (b : Bool) (e : Event) (xs ys : List Event) → xs ≡ ys → (if b then e ∷ xs else xs) ≡ (if b then e ∷ ys else ys)
own_by true e xs ys same = ap (λ (l : List Event). e ∷ l) same
own_by false e xs ys same = same

pub own_at : (net : Net) (n : ℕ) (es : List Event) → own_events net n es ≡ events_at (model net) n es
own_at net n [] = refl
own_at net n (e ∷ es) = own_by (home net e == n) e (own_events net n es) (events_at (model net) n es) (own_at net n es)

-- ---- packets for others

-- the events that fire at other hosts
abbrev pub sent : Net → ℕ → List Event → List Event
sent net n es = filter (λ (e : Event). not (home net e == n)) es

abbrev IsFor : Net → Parcel → Type 0
IsFor net p = p.to.index ≡ home net (parcel_event p)

-- an event of the host that fires elsewhere is a packet
packet_of : (net : Net) (number source : ℕ) (key : Key) (w : What) (rest : List Parcel) → source ≡ number → (home_of net source w == number) ≡ false
    → map parcel_event (posted (home_of net source w) key w rest) ≡ record { key = key; what = w } ∷ map parcel_event rest
packet_of net number source key (what.Packet packet) rest own away = refl
packet_of net number source key (what.Start p) rest own away = absurd (let e : (source == number) ≡ true = (Decides-eqb source number).1 own in let f : true ≡ false = sym e ∙ away in cc)
packet_of net number source key (what.Go p) rest own away = absurd (let e : (source == number) ≡ true = (Decides-eqb source number).1 own in let f : true ≡ false = sym e ∙ away in cc)
packet_of net number source key (what.Shutdown p) rest own away = absurd (let e : (source == number) ≡ true = (Decides-eqb source number).1 own in let f : true ≡ false = sym e ∙ away in cc)
packet_of net number source key (what.Alarm target serial) rest own away = absurd (let e : (source == number) ≡ true = (Decides-eqb source number).1 own in let f : true ≡ false = sym e ∙ away in cc)
packet_of net number source key (what.Loop packet) rest own away = absurd (let e : (source == number) ≡ true = (Decides-eqb source number).1 own in let f : true ≡ false = sym e ∙ away in cc)
packet_of net number source key what.Up rest own away = absurd (let e : (source == number) ≡ true = (Decides-eqb source number).1 own in let f : true ≡ false = sym e ∙ away in cc)
packet_of net number source key what.Down rest own away = absurd (let e : (source == number) ≡ true = (Decides-eqb source number).1 own in let f : true ≡ false = sym e ∙ away in cc)

-- it is for the host at which it fires
posted_for : (net : Net) (source : ℕ) (key : Key) (w : What) (rest : List Parcel) → key.source.index ≡ source → Each (IsFor net) rest → Each (IsFor net) (posted (home_of net source w) key w rest)
posted_for net source key (what.Packet packet) rest same more =
    Each_cons (IsFor net) (record { key = key; to = record { index = home_of net source (what.Packet packet) }; packet = packet }) rest
    (ap (λ (s : ℕ). home_of net s (what.Packet packet)) (sym same)) more
posted_for net source key (what.Start p) rest same more = more
posted_for net source key (what.Go p) rest same more = more
posted_for net source key (what.Shutdown p) rest same more = more
posted_for net source key (what.Alarm target serial) rest same more = more
posted_for net source key (what.Loop packet) rest same more = more
posted_for net source key what.Up rest same more = more
posted_for net source key what.Down rest same more = more

packets_by : (net : Net) (n : ℕ) (e : Event) (es : List Event) (b : Bool) → (home net e == n) ≡ b → e.key.source.index ≡ n → map parcel_event (parcels_of net n es) ≡ sent net n es
    → map parcel_event (if b then parcels_of net n es else posted (home net e) e.key e.what (parcels_of net n es)) ≡ (if not b then e ∷ sent net n es else sent net n es)
packets_by net n e es true is own same = same
packets_by net n e es false is own same =
    packet_of net n e.key.source.index e.key e.what (parcels_of net n es) own is ∙ ap (λ (l : List Event). e ∷ l) same

packets_of : (net : Net) (n : ℕ) (es : List Event) → Each (λ (g : Event). g.key.source.index ≡ n) es → map parcel_event (parcels_of net n es) ≡ sent net n es
packets_of net n [] own = refl
packets_of net n (e ∷ es) own = packets_by net n e es (home net e == n) refl (own e (inl refl)) (packets_of net n es (λ g h. own g (inr h)))

for_by : (net : Net) (e : Event) (rest : List Parcel) (b : Bool) → Each (IsFor net) rest → Each (IsFor net) (if b then rest else posted (home net e) e.key e.what rest)
for_by net e rest true more = more
for_by net e rest false more = posted_for net e.key.source.index e.key e.what rest refl more

all_for : (net : Net) (n : ℕ) (es : List Event) → Each (IsFor net) (parcels_of net n es)
all_for net n [] = λ x h. absurd h
all_for net n (e ∷ es) = for_by net e (parcels_of net n es) (home net e == n) (all_for net n es)

-- the parcels of what a host made are its packets for others
pub parcels_sent : (net : Net) (n : ℕ) (es : List Event) → Each (λ (g : Event). g.key.source.index ≡ n) es → ParcelsStand net (parcels_of net n es) (sent net n es)
parcels_sent net n es own = record { events = packets_of net n es own; home = All_from_Each (IsFor net) (parcels_of net n es) (all_for net n es) }

pub parcels_append : (net : Net) (ps qs : List Parcel) (es fs : List Event) → ParcelsStand net ps es → ParcelsStand net qs fs → ParcelsStand net (ps ++ qs) (es ++ fs)
parcels_append net ps qs es fs first second = record {
  events = map-append parcel_event ps qs ∙ ap (λ (l : List Event). l ++ map parcel_event qs) first.events ∙ ap (λ (l : List Event). es ++ l) second.events;
  home = All_from_Each (IsFor net) (ps ++ qs)
      (Each-append (IsFor net) ps qs (Each_from_All (IsFor net) ps first.home) (Each_from_All (IsFor net) qs second.home));
}

-- ---- lines

lines_logged : (key : Key) (ls : List Line) → lines_of (map (logged key) ls) ≡ order.logged key ls
lines_logged key [] = refl
lines_logged key (l ∷ ls) = ap (λ (k : List (order.Logged Line)). line_of (logged key l) ∷ k) (lines_logged key ls)

pub lines_more : (old : List HostLogged) (key : Key) (ls : List Line) → lines_of (old ++ map (logged key) ls) ≡ lines_of old ++ order.logged key ls
lines_more old key ls = map-append line_of old (map (logged key) ls) ∙ ap (λ (l : List (order.Logged Line)). lines_of old ++ l) (lines_logged key ls)
