-- within a host: each turn of a run is steps of its own exchange, in which what has 127.0.0.1 at one end stays
use Rattle.std.proofs.Common.{◌≡◌, ◌≢◌, ◌⊎◌, inl, inr, ⊎_elim, ℕ, zero, suc, ◌==◌, ◌||◌, Bool, true, false, nat_lt, List, [], ◌∷◌, ◌++◌, map, flat_map, Contains, Option, Some, None, slice_get, refl, sym, ap, subst, ◌∙◌, append-nil, arith}
use Rattle.std.proofs.lemmas.Bool.Decides.{nat_tests}
use Rattle.std.specs.List.Sorted.{IsPermutation}
use Rattle.std.proofs.lemmas.List.Elements.{Contains-append_left, Contains-append_right, Contains-append_cases, filter_map-append, filter-append}
use Rattle.std.proofs.lemmas.List.Sorted.{Contains-permutation, IsPermutation-refl, IsPermutation-sym}
use Rattle.sim_base.specs.Addresses.{loopback, is_same_ip}
use Rattle.sim_base.specs.declared.address.Ip.{Ip}
use Rattle.sim_base.specs.declared.address.Addr.{Addr}
use Rattle.sim_base.specs.declared.event.Event.{Event}
use Rattle.sim_base.specs.declared.event.What.{What}
use Rattle.sim_base.specs.declared.event.What.TheVariants as what
use Rattle.sim_base.specs.declared.packet.Packet.{Packet}
use Rattle.tcp_streams.specs.Exchange as streams
use Rattle.tcp_streams.specs.Exchange.{empty_exchange, IsVoid, Comes, AreSteps, last_exchange}
use Rattle.tcp_streams.specs.Exchange.Step.{goes_on}
use Rattle.tcp_streams.specs.Frame.{inside}
use Rattle.tcp_streams.specs.Stream.{IsSimple, stream_of, IsFaithful}
use Rattle.tcp_streams.proofs.Members.{Contains_here, Contains_there, IsIn_from_Contains}
use Rattle.tcp_streams.proofs.Ends.{same_number}
use Rattle.tcp_streams.proofs.Frames.{joined, comes_outside}
use Rattle.tcp_streams.proofs.Promise.{streams}
use Rattle.host_link.specs.declared.line.Line.{Line}
use Rattle.host_link.specs.Net.{Net}
use Rattle.host_rows.specs.declared.row.Row.{Row}
use Rattle.host_state.specs.Fire.{fire}
use Rattle.host_state.specs.Fits.{model}
use Rattle.host_link.specs.Home.{home, home_of}
use Rattle.host_state.specs.HostRecord.{HostRecord}
use Rattle.host_state.specs.Opening.{opening}
use Rattle.host_state.specs.World.{World, opening_world}
use Rattle.world_order.specs.Model.{Fired, with_host, fires_at}
use Rattle.world_order.specs.Round.{events_at}
use Rattle.world_order.specs.World.{after_firing, next}
use Rattle.socket_streams.specs.Records.{packets_of}
use Rattle.socket_streams.specs.Inside.{IsInside, StaysInside}
use Rattle.socket_streams.specs.Leads.{Leads}
use Rattle.socket_streams.proofs.Chains.{both, goes}
use Rattle.socket_streams.proofs.Shares.{same_permutation}
use Rattle.run_streams.specs.Exchanges.{carried_by, carried, packets_carried, link_packets, host_packets, host_records, host_exchange}
use Rattle.run_streams.specs.Run.{IsReached, AreOutside, ArePlaced}
use Rattle.run_streams.specs.Run.IsReached.{begins, turns}
use Rattle.run_streams.proofs.Every.{Every, every_append, every_with, every_here, every_member, given, every_given, filtered, every_filtered, AllAt, set_at}
use Rattle.run_streams.proofs.Links.{IsAway, FitsMade, IsMade, Any}
use Rattle.run_streams.proofs.Hosts.{IsGood, part_of}
use Rattle.run_streams.proofs.Firing.{fired_host, fires_move, fired_good, fired_packets, fires_so}
use Rattle.run_streams.proofs.Worlds.{row_good, row_packets, CarryNone, rows_events, turn_of, made_member}

-- ---- packets between hosts have 127.0.0.1 at no end, but those that tell nothing of a stream

abbrev pub Roams : Packet → Type 0
Roams p = IsVoid p.load ⊎ ((is_same_ip p.from.ip loopback ≡ false) × (is_same_ip p.to.ip loopback ≡ false))

neither_left : (a b : Bool) → (a || b) ≡ false → a ≡ false
neither_left true b e = cc
neither_left false b e = refl

not_from : (b c : Bool) → c ≡ false → (b ≡ true → c ≡ true) → b ≡ false
not_from true c e f = let no : false ≡ true = sym e ∙ f refl in absurd (cc)
not_from false c e f = refl

roams_away : (own : Ip) (p : Packet) → IsAway own p → IsVoid p.load ⊎ IsInside own p.from p.to → Roams p
roams_away own p away h =
    ⊎_elim
    (λ v. inl v)
    (λ k.
    inr (
      not_from (is_same_ip p.from.ip loopback) (is_same_ip p.to.ip loopback || is_same_ip p.to.ip own) away k.from,
      neither_left (is_same_ip p.to.ip loopback) (is_same_ip p.to.ip own) away,
    ))
    h

roams_comes : (p : Packet) → Roams p → Comes inside p
roams_comes p h = ⊎_elim (λ v. inl v) (λ k. comes_outside p k.0 k.1) h

never_both : (b : Bool) (X : Type 0) → b ≡ false → b ≡ true → X
never_both b X e k = let no : false ≡ true = sym e ∙ k in absurd (cc)

roams_inside : (own : Ip) (p : Packet) → Roams p → IsVoid p.load ⊎ IsInside own p.from p.to
roams_inside own p h =
    ⊎_elim
    (λ v. inl v)
    (λ k.
    inr (record {
      from = λ e. never_both (is_same_ip p.from.ip loopback) _ k.0 e;
      to = λ e. never_both (is_same_ip p.to.ip loopback) _ k.1 e;
    }))
    h

abbrev pub RoamsIn : What → Type 0
RoamsIn (what.Packet packet) = Roams packet
RoamsIn (what.Loop packet) = Unit {0}
RoamsIn (what.Start p) = Unit {0}
RoamsIn (what.Go p) = Unit {0}
RoamsIn (what.Shutdown p) = Unit {0}
RoamsIn (what.Alarm target serial) = Unit {0}
RoamsIn what.Up = Unit {0}
RoamsIn what.Down = Unit {0}

-- ---- the events at a host

same_as_itself : (a : ℕ) → (a == a) ≡ true
same_as_itself a = grind (arith, nat_tests)

module _ (net : Net) (i : ℕ) where
  abbrev pub comes_here : Event → Bool
  comes_here e = home net e == i

  abbrev pub packets_at : List Event → List Packet
  packets_at events = packets_carried (events_at (model net) i events)

  -- some of the events
  pub fewer_at : (some all : List Event) (p : Packet) → ((e : Event) → Contains some e → Contains all e) → Contains (packets_at some) p → Contains (packets_at all) p
  fewer_at some all p from c =
      every_given (λ (e : Event). Contains all e × (comes_here e ≡ true)) (λ (q : Packet). Contains (packets_at all) q) carried (events_at (model net) i some) p
      (λ e h is. given carried (events_at (model net) i all) e p (filtered comes_here all e h.0 h.1) is)
      (every_filtered comes_here (λ (e : Event). Contains all e) some (every_here (λ (e : Event). Contains all e) some from))
      c

  pub more_cases : (rest made : List Event) (p : Packet) → Contains (packets_at (rest ++ made)) p → Contains (packets_at rest) p ⊎ Contains (packets_at made) p
  more_cases rest made p c =
      Contains-append_cases (packets_at rest) (packets_at made) p
      (subst (λ (xs : List Packet). Contains xs p)
      (ap (λ (events : List Event). packets_carried events) (filter-append comes_here rest made) ∙ filter_map-append carried (events_at (model net) i rest) (events_at (model net) i made))
      c)

  -- all of them carry what these do
  pub all_carried : (events : List Event) (p : Packet) → Contains (packets_at events) p → Contains (packets_carried events) p
  all_carried events p c =
      every_given (λ (e : Event). Contains events e × (comes_here e ≡ true)) (λ (q : Packet). Contains (packets_carried events) q) carried (events_at (model net) i events) p
      (λ e h is. given carried events e p h.0 is)
      (every_filtered comes_here (λ (e : Event). Contains events e) events (every_here (λ (e : Event). Contains events e) events (λ e k. k)))
      c

-- an event that another host makes for it roams
roams_here : (net : Net) (i k : ℕ) (own : Ip) (w : What) (p : Packet) → i ≢ k → FitsMade Any own w → RoamsIn w → (home_of net k w == i) ≡ true → carried_by w ≡ Some p → Roams p
roams_here net i k own (what.Packet packet) p apart fits roams here is = let same : packet ≡ p = cc in subst Roams same roams
roams_here net i k own (what.Loop packet) p apart fits roams here is = absurd (apart (sym (same_number k i here)))
roams_here net i k own (what.Start q) p apart fits roams here is = cc
roams_here net i k own (what.Go q) p apart fits roams here is = cc
roams_here net i k own (what.Shutdown q) p apart fits roams here is = cc
roams_here net i k own (what.Alarm target serial) p apart fits roams here is = cc
roams_here net i k own what.Up p apart fits roams here is = cc
roams_here net i k own what.Down p apart fits roams here is = cc

abbrev IsSentOut : Ip → ℕ → Event → Type 0
IsSentOut own k e = IsMade Any own k e × RoamsIn e.what

made_roam : (net : Net) (i k : ℕ) (own : Ip) (made : List Event) (p : Packet) → i ≢ k → Every (IsSentOut own k) made → Contains (packets_at net i made) p → Roams p
made_roam net i k own made p apart each c =
    every_given (λ (e : Event). IsSentOut own k e × (comes_here net i e ≡ true)) Roams carried (events_at (model net) i made) p
    (λ e h is.
    let source : e.key.source.index ≡ k = h.0.0.0 in
    roams_here net i k own e.what p apart h.0.0.1 h.0.1 (subst (λ (n : ℕ). (home_of net n e.what == i) ≡ true) source h.1) is)
    (every_filtered (comes_here net i) (IsSentOut own k) made each)
    c

-- ---- a host of a run, with the events that wait

pub record IsHoused (net : Net) (i : ℕ) (h : HostRecord) (events : List Event) : Type 0 where
  pub own : Ip
  pub good : IsGood own i h
  pub exchanges : List streams.Exchange
  pub steps : AreSteps inside empty_exchange exchanges
  pub last : last_exchange empty_exchange exchanges ≡ host_exchange net i h events
  pub stays : StaysInside own (host_exchange net i h events)

pub record AllHoused (net : Net) (w : World) : Type 0 where
  pub hosts : AllAt (λ i h. IsHoused net i h w.events) w.hosts
  pub roams : Every (λ (e : Event). RoamsIn e.what) w.events

on_to : (net : Net) (i : ℕ) (h k : HostRecord) (events more : List Event) (housed : IsHoused net i h events) → IsGood housed.own i k → Leads inside housed.own (host_exchange net i h events) (host_exchange net i k more) → IsHoused net i k more
on_to net i h k events more housed good leads =
    let after = subst (λ (n : streams.Exchange). AreSteps inside n leads.exchanges) (sym housed.last) leads.steps in
    let all = joined inside empty_exchange housed.exchanges leads.exchanges housed.steps after in
    record {
      own = housed.own;
      good = good;
      exchanges = housed.exchanges ++ leads.exchanges;
      steps = all.0;
      last = all.1 ∙ (ap (λ (n : streams.Exchange). last_exchange n leads.exchanges) housed.last ∙ leads.last);
      stays = leads.inside housed.stays;
    }

-- what others do leaves it: of the events there are fewer, and others whose packets roam
others_do : (net : Net) (i : ℕ) (h : HostRecord) (events more : List Event) → ((p : Packet) → Contains (packets_at net i more) p → Contains (packets_at net i events) p ⊎ Roams p) → IsHoused net i h events → IsHoused net i h more
others_do net i h events more from housed =
    let before = packets_at net i events in
    let packets = host_packets h in
    let fits : (p : Packet) → Contains (packets ++ packets_at net i more) p → Contains (packets ++ before) p ⊎ Roams p =
    λ p c.
    ⊎_elim
    (λ a. inl (Contains-append_left packets before p a))
    (λ a. ⊎_elim (λ b. inl (Contains-append_right packets before p b)) (λ b. inr b) (from p a))
    (Contains-append_cases packets (packets_at net i more) p c) in
    on_to net i h h events more housed housed.good (record {
      exchanges = host_exchange net i h more ∷ [];
      steps = (goes_on (IsPermutation-refl (host_records h)) (λ p c. ⊎_elim (λ a. inl a) (λ b. inr (inr (roams_comes p b))) (fits p c)), tt);
      last = refl;
      inside = λ s. record {
        outside = s.outside;
        sound = s.sound;
        ends = s.ends;
        packets = λ p c. ⊎_elim (λ a. s.packets p a) (λ b. roams_inside housed.own p b) (fits p c);
      };
    })

pub rest_there : (w : World) (e : Event) (rest : List Event) → IsPermutation w.events (e ∷ rest) → (x : Event) → Contains rest x → Contains w.events x
rest_there w e rest taken x c =
    Contains-permutation (e ∷ rest) w.events x (IsPermutation-sym w.events (e ∷ rest) taken) (Contains_there e x rest c)

rest_roams : (w : World) (e : Event) (rest : List Event) → IsPermutation w.events (e ∷ rest) → Every (λ (x : Event). RoamsIn x.what) w.events → Every (λ (x : Event). RoamsIn x.what) rest
rest_roams w e rest taken each =
    every_here (λ (x : Event). RoamsIn x.what) rest (λ x c. every_member (λ (y : Event). RoamsIn y.what) w.events x each (rest_there w e rest taken x c))

-- where no host is there the event goes
nobody : (net : Net) (w : World) (e : Event) (rest : List Event) → IsPermutation w.events (e ∷ rest) → AllHoused net w → AllHoused net (after_firing w e rest (fires_at (model net) w.hosts e None))
nobody net w e rest taken all = record {
  hosts = λ i h at.
      others_do net i h w.events (rest ++ [])
      (λ p c. inl (fewer_at net i rest w.events p (rest_there w e rest taken) (subst (λ (events : List Event). Contains (packets_at net i events) p) (append-nil rest) c)))
      (all.hosts i h at);
  roams = every_append (λ (x : Event). RoamsIn x.what) rest [] (rest_roams w e rest taken all.roams) tt;
}

-- a host fires
record Fires (net : Net) (e : Event) (h : HostRecord) (rest : List Event) : Type 0 where
  housed : IsHoused net (home net e) (fire net h e).host (rest ++ (fire net h e).made)
  sent : (own : Ip) × Every (IsSentOut own (home net e)) (fire net h e).made

sent_roams : (own : Ip) (w : What) → ((p : Packet) → carried_by w ≡ Some p → IsVoid p.load ⊎ IsInside own p.from p.to) → FitsMade Any own w → RoamsIn w
sent_roams own (what.Packet packet) f h = roams_away own packet h.1 (f packet refl)
sent_roams own (what.Loop packet) f h = tt
sent_roams own (what.Start p) f h = tt
sent_roams own (what.Go p) f h = tt
sent_roams own (what.Shutdown p) f h = tt
sent_roams own (what.Alarm target serial) f h = tt
sent_roams own what.Up f h = tt
sent_roams own what.Down f h = tt

fires_at_home : (net : Net) (w : World) (e : Event) (rest : List Event) (h : HostRecord) → IsPermutation w.events (e ∷ rest) → Every (λ (x : Event). RoamsIn x.what) w.events → IsHoused net (home net e) h w.events → Fires net e h rest
fires_at_home net w e rest h taken roams housed =
    let i = home net e in
    let own = housed.own in
    let flying = packets_at net i w.events in
    let there : Contains w.events e = Contains-permutation (e ∷ rest) w.events e (IsPermutation-sym w.events (e ∷ rest) taken) (Contains_here e rest) in
    let here : (i == i) ≡ true = same_as_itself i in
    let m = fires_move net inside own i [] flying e h
    (λ p is. given carried (events_at (model net) i w.events) e p (filtered (comes_here net i) w.events e there here) is)
    housed.good in
    let after : HostRecord = fired_host net h e in
    let f = fire net h e in
    let out = packets_of h.parts.shared.outlet in
    let left = packets_of after.parts.shared.outlet in
    let enters = goes inside own (host_exchange net i h w.events) (part_of [] flying h)
    (same_permutation (host_records h ++ []) (host_records h) (append-nil (host_records h)))
    (λ p c.
    inl (⊎_elim
    (λ a.
    ⊎_elim
    (λ b. Contains-append_right (host_packets h) flying p b)
    (λ b. Contains-append_left (host_packets h) flying p (Contains-append_left (link_packets h.link) out p b))
    (Contains-append_cases flying (link_packets h.link) p a))
    (λ a. Contains-append_left (host_packets h) flying p (Contains-append_right (link_packets h.link) out p a))
    (Contains-append_cases (flying ++ link_packets h.link) out p c))) in
    let fits : (p : Packet) → Contains (host_packets after) p → Contains ((flying ++ link_packets after.link) ++ left) p =
    λ p c.
    ⊎_elim
    (λ a. Contains-append_left (flying ++ link_packets after.link) left p (Contains-append_right flying (link_packets after.link) p a))
    (λ a. Contains-append_right (flying ++ link_packets after.link) left p a)
    (Contains-append_cases (link_packets after.link) left p c) in
    let leaves = goes inside own (part_of [] flying after) (host_exchange net i f.host (rest ++ f.made))
    (same_permutation (host_records f.host) (host_records after ++ []) (sym (append-nil (host_records after))))
    (λ p c.
    inl (⊎_elim
    (λ a. fits p (fired_packets net e h p a))
    (λ a.
    ⊎_elim
    (λ b. Contains-append_left (flying ++ link_packets after.link) left p (Contains-append_left flying (link_packets after.link) p (fewer_at net i rest w.events p (rest_there w e rest taken) b)))
    (λ b. fits p (Contains-append_left (link_packets after.link) left p (made_member after.link p (all_carried net i after.link.made p b))))
    (more_cases net i rest after.link.made p a))
    (Contains-append_cases (host_packets f.host) (packets_at net i (rest ++ after.link.made)) p c))) in
    let led = both inside own (host_exchange net i h w.events) (part_of [] flying h) (part_of [] flying after) enters m.leads in
    let stays = led.inside housed.stays in
    record {
      housed = on_to net i h f.host w.events (rest ++ f.made) housed (fired_good net own i e h m.good)
          (both inside own (host_exchange net i h w.events) (part_of [] flying after) (host_exchange net i f.host (rest ++ f.made)) led leaves);
      sent = (
        own,
        every_with (IsMade Any own i) (IsSentOut own i) after.link.made
            (λ g c made. (
              made,
              sent_roams own g.what
                  (λ p is. stays.packets p (fits p (Contains-append_left (link_packets after.link) left p (made_member after.link p (given carried after.link.made g p c is)))))
                  made.1,
            ))
            m.good.link.made,
      );
    }

somebody : (net : Net) (w : World) (e : Event) (rest : List Event) (h : HostRecord) → slice_get w.hosts (home net e) ≡ Some h → IsPermutation w.events (e ∷ rest) → AllHoused net w → AllHoused net (after_firing w e rest (with_host w.hosts (home net e) (fire net h e)))
somebody net w e rest h at taken all =
    let k = home net e in
    let f = fire net h e in
    let fires = fires_at_home net w e rest h taken all.roams (all.hosts k h at) in
    record {
      hosts = set_at (λ i x. IsHoused net i x (rest ++ f.made)) w.hosts k f.host
          (λ i x apart there.
          others_do net i x w.events (rest ++ f.made)
          (λ p c.
          ⊎_elim
          (λ a. inl (fewer_at net i rest w.events p (rest_there w e rest taken) a))
          (λ a. inr (made_roam net i k fires.sent.0 f.made p apart fires.sent.1 a))
          (more_cases net i rest f.made p c))
          (all.hosts i x there))
          fires.housed;
      roams = every_append (λ (x : Event). RoamsIn x.what) rest f.made (rest_roams w e rest taken all.roams)
          (every_with (IsSentOut fires.sent.0 k) (λ (x : Event). RoamsIn x.what) f.made (λ x c sent. sent.1) fires.sent.1);
    }

fires_housed : (net : Net) (w : World) (e : Event) (rest : List Event) (o : Option HostRecord) → slice_get w.hosts (home net e) ≡ o → IsPermutation w.events (e ∷ rest) → nat_lt e.key.due.nanos net.stop.nanos ≡ true → AllHoused net w → AllHoused net (after_firing w e rest (fires_at (model net) w.hosts e o))
fires_housed net w e rest None at taken due all = nobody net w e rest taken all
fires_housed net w e rest (Some h) at taken due all =
    subst (λ (f : Fired HostRecord Line). AllHoused net (after_firing w e rest (with_host w.hosts (home net e) f))) (sym (fires_so net h e due)) (somebody net w e rest h at taken all)

turn_housed : (net : Net) (w v : World) → next (model net) net.stop.nanos w ≡ Some v → AllHoused net w → AllHoused net v
turn_housed net w v k all =
    let turn = turn_of net w v k in
    subst (AllHoused net) turn.is (fires_housed net w turn.event turn.rest (slice_get w.hosts (home net turn.event)) refl turn.taken turn.due all)

-- ---- the opening world

pub rows_at : (P : ℕ → HostRecord → Type 0) (rows : List Row) → ((i : ℕ) (row : Row) → slice_get rows i ≡ Some row → P i (opening row).host) → AllAt P (map (λ (row : Row). (opening row).host) rows)
rows_at P [] f i h e = cc
rows_at P (row ∷ rows) f zero h e = let same : (opening row).host ≡ h = cc in subst (P 0) same (f 0 row refl)
rows_at P (row ∷ rows) f (suc i) h e = rows_at (λ j x. P (suc j) x) rows (λ j r q. f (suc j) r q) i h e

silent_roams : (w : What) → ((p : Packet) → carried_by w ≡ Some p → ⊥) → RoamsIn w
silent_roams (what.Packet packet) f = absurd (f packet refl)
silent_roams (what.Loop packet) f = tt
silent_roams (what.Start p) f = tt
silent_roams (what.Go p) f = tt
silent_roams (what.Shutdown p) f = tt
silent_roams (what.Alarm target serial) f = tt
silent_roams what.Up f = tt
silent_roams what.Down f = tt

row_housed : (net : Net) (i : ℕ) (row : Row) (events : List Event) → row.host.index ≡ i → is_same_ip row.address loopback ≡ false → CarryNone events → IsHoused net i (opening row).host events
row_housed net i row events at outside none =
    let h : HostRecord = (opening row).host in
    let never : (p : Packet) → Contains (host_packets h ++ packets_at net i events) p → ⊥ =
    λ p c.
    ⊎_elim
    (λ a. row_packets net row p a)
    (λ a. none p (all_carried net i events p a))
    (Contains-append_cases (host_packets h) (packets_at net i events) p c) in
    record {
      own = row.address;
      good = subst (λ (n : ℕ). IsGood row.address n h) at (row_good net row);
      exchanges = host_exchange net i h events ∷ [];
      steps = (goes_on (IsPermutation-refl []) (λ p c. absurd (never p c)), tt);
      last = refl;
      stays = record {
        outside = outside;
        sound = λ r c. absurd (IsIn_from_Contains r [] c);
        ends = λ r c. absurd (IsIn_from_Contains r [] c);
        packets = λ p c. absurd (never p c);
      };
    }

opening_housed : (net : Net) (rows : List Row) → AreOutside rows → ArePlaced rows → AllHoused net (opening_world rows)
opening_housed net rows outside placed =
    let events = flat_map (λ (row : Row). (opening row).made) rows in
    let none = rows_events net rows in
    record {
      hosts = rows_at (λ i h. IsHoused net i h events) rows (λ i row at. row_housed net i row events (placed i row at) (outside i row at) none);
      roams = every_here (λ (e : Event). RoamsIn e.what) events (λ e c. silent_roams e.what (λ p is. none p (given carried events e p c is)));
    }

pub run_housed : (net : Net) (rows : List Row) (w : World) → AreOutside rows → ArePlaced rows → IsReached net (opening_world rows) w → AllHoused net w
run_housed net rows w outside placed (begins v same) = subst (AllHoused net) same (opening_housed net rows outside placed)
run_housed net rows w outside placed (turns u v reached k) =
    turn_housed net u v k (run_housed net rows u outside placed reached)

-- the promise within a host
pub within : (net : Net) (rows : List Row) (w : World) (i : ℕ) (h : HostRecord) (from to : Addr) → AreOutside rows → ArePlaced rows → IsReached net (opening_world rows) w → slice_get w.hosts i ≡ Some h → inside from to ≡ true → IsSimple from to (host_records h) → IsFaithful (stream_of from to (host_records h))
within net rows w i h from to outside placed reached at is_inside simple =
    let housed = (run_housed net rows w outside placed reached).hosts i h at in
    subst (λ (n : streams.Exchange). IsFaithful (stream_of from to n.records)) housed.last
    (streams inside housed.exchanges from to is_inside housed.steps (subst (λ (n : streams.Exchange). IsSimple from to n.records) (sym housed.last) simple))
