-- in every world that a run reaches the records of each host are at home, and packets that stay at a host come by Loop alone
use Rattle.std.proofs.Common.{◌≡◌, ℕ, zero, suc, ◌+◌, ◌&&◌, ◌||◌, Bool, true, false, nat_lt, List, [], ◌∷◌, map, flat_map, Contains, Option, Some, None, unwrap_or, slice_get, refl, sym, ap, subst, ◌∙◌, arith}
use Rattle.std.specs.List.{position_from}
use Rattle.std.proofs.lemmas.Bool.Decides.{nat_tests}
use Rattle.std.specs.List.Sorted.{IsPermutation}
use Rattle.std.proofs.lemmas.List.Sorted.{Contains-permutation, IsPermutation-sym}
use Rattle.sim_base.specs.Addresses.{loopback, is_same_ip, host_at}
use Rattle.sim_base.specs.declared.address.Ip.{Ip}
use Rattle.sim_base.specs.declared.event.Event.{Event}
use Rattle.sim_base.specs.declared.event.What.{What}
use Rattle.sim_base.specs.declared.event.What.TheVariants as what
use Rattle.sim_base.specs.declared.packet.Packet.{Packet}
use Rattle.net_iface.specs.declared.lane.Waiting.{Waiting}
use Rattle.tcp_laws.proofs.Tests.{by_test}
use Rattle.tcp_streams.proofs.Members.{Contains_here}
use Rattle.host_link.specs.declared.line.Line.{Line}
use Rattle.host_link.specs.Net.{Net}
use Rattle.host_rows.specs.declared.row.Row.{Row}
use Rattle.run_files.specs.Captures.{is_own, is_loopback}
use Rattle.host_state.specs.Fire.{fire, has_acted}
use Rattle.host_state.specs.Fits.{model}
use Rattle.host_link.specs.Home.{home, home_of}
use Rattle.host_state.specs.HostRecord.{HostRecord}
use Rattle.host_state.specs.Opening.{host_begins, opening}
use Rattle.host_state.specs.World.{World, opening_world}
use Rattle.world_order.specs.Model.{Fired, with_host, fires_at}
use Rattle.world_order.specs.World.{after_firing, next}
use Rattle.socket_laws.proofs.HereActs.{here_always}
use Rattle.socket_streams.specs.Home.{AreAtHome}
use Rattle.socket_streams.proofs.OwnEnds.{none_own, own_home}
use Rattle.run_streams.specs.Exchanges.{carried_by, carried, host_records}
use Rattle.run_streams.specs.Run.{IsReached, AreHosts}
use Rattle.run_streams.specs.Run.IsReached.{begins, turns}
use Rattle.run_streams.proofs.Every.{Every, every_append, every_with, every_here, every_member, given, AllAt, set_at}
use Rattle.run_streams.proofs.Firing.{fires_so}
use Rattle.run_streams.proofs.HomeLinks.{HasHost, Departs, Comes, Loops, FitsSent, IsSent, IsLineOf, loops_loopback, second_of}
use Rattle.run_streams.proofs.HomeWalk.{IsFiring, FitsIn, event_home}
use Rattle.run_streams.proofs.Insides.{rest_there, rows_at}
use Rattle.run_streams.proofs.Links.{IsAway}
use Rattle.run_streams.proofs.Worlds.{row_carries, rows_events, turn_of}

-- the host of an address is the one of the row that has it
record FoundAt (test : Ip → Bool) (start : ℕ) (hosts : List Ip) (k : ℕ) : Type 0 where
  place : ℕ
  address : Ip
  is : k ≡ start + place
  there : slice_get hosts place ≡ Some address
  passes : test address ≡ true

found_at : (test : Ip → Bool) (start : ℕ) (hosts : List Ip) (k : ℕ) → position_from test start hosts ≡ Some k → FoundAt test start hosts k
found_at test start [] k e = cc
found_at test start (x ∷ xs) k e =
    by_test (λ (o : Option ℕ). o ≡ Some k → FoundAt test start (x ∷ xs) k) (test x) (Some start) (position_from test (start + 1) xs)
    (λ yes q. let same : start ≡ k = cc in record { place = 0; address = x; is = omega (arith, same); there = refl; passes = yes })
    (λ no q.
    let f = found_at test (start + 1) xs k q in
    record { place = suc f.place; address = f.address; is = omega (arith, f.is); there = f.there; passes = f.passes })
    e

same_option : {A : Type 0} (o : Option A) (a b : A) → o ≡ Some a → o ≡ Some b → a ≡ b
same_option o a b e k = let both : Some a ≡ Some b = sym e ∙ k in cc

address_of : (rows : List Row) (i : ℕ) (row : Row) → slice_get rows i ≡ Some row → slice_get (map (λ (r : Row). r.address) rows) i ≡ Some row.address
address_of [] i row e = cc
address_of (x ∷ xs) zero row e = let same : x ≡ row = cc in ap (λ (r : Row). Some r.address) same
address_of (x ∷ xs) (suc i) row e = address_of xs i row e

host_has : (net : Net) (rows : List Row) (ip : Ip) (i : ℕ) (row : Row) → AreHosts net rows → host_at net.known.book ip ≡ Some i → slice_get rows i ≡ Some row → is_same_ip ip row.address ≡ true
unfolding host_at
host_has net rows ip i row are e there =
    let addresses = map (λ (r : Row). r.address) rows in
    let f = found_at (is_same_ip ip) 0 addresses i (ap (λ (book : List Ip). position_from (is_same_ip ip) 0 book) (sym are.listed) ∙ e) in
    let place : i ≡ f.place = omega (arith, f.is) in
    let here = address_of rows i row there in
    let found = subst (λ (k : ℕ). slice_get addresses k ≡ Some f.address) (sym place) f.there in
    subst (λ (a : Ip). is_same_ip ip a ≡ true) (same_option (slice_get addresses i) f.address row.address found here) f.passes

-- from the address of some host to one that isn't that host's
pub record Travels (p : Packet) : Type 0 where
  pub sender : Ip
  pub departs : Departs sender p

-- what an event carries: to an address that some host has, or past the network within the host that made it
abbrev FitsEvent : Net → List Row → ℕ → What → Type 0
FitsEvent net rows source (what.Packet packet) = HasHost net packet.to.ip × Travels packet
FitsEvent net rows source (what.Loop packet) = (row : Row) → slice_get rows source ≡ Some row → Loops row.address packet
FitsEvent net rows source (what.Start p) = Unit {0}
FitsEvent net rows source (what.Go p) = Unit {0}
FitsEvent net rows source (what.Shutdown p) = Unit {0}
FitsEvent net rows source (what.Alarm target serial) = Unit {0}
FitsEvent net rows source what.Up = Unit {0}
FitsEvent net rows source what.Down = Unit {0}

abbrev Fits : Net → List Row → Event → Type 0
Fits net rows e = FitsEvent net rows e.key.source.index e.what

packet_there : (net : Net) (rows : List Row) (ip : Ip) (source k : ℕ) (o : Option ℕ) (row : Row) → AreHosts net rows → host_at net.known.book ip ≡ o → o ≡ Some k → slice_get rows (unwrap_or o source) ≡ Some row → is_same_ip ip row.address ≡ true
packet_there net rows ip source k None row are e there at = cc
packet_there net rows ip source k (Some i) row are e there at = host_has net rows ip i row are e at

-- ---- addresses

same_ip : (a b : Ip) → is_same_ip a b ≡ true → a.bits ≡ b.bits
same_ip a b e = grind (arith, nat_tests)

is_same : (a b : Ip) → a.bits ≡ b.bits → is_same_ip a b ≡ true
is_same a b e = grind (arith, nat_tests)

no_true : (b : Bool) → b ≡ true → b ≡ false → ⊥
no_true b e k = cc

neither : (a b : Bool) → (a ≡ true → ⊥) → (b ≡ true → ⊥) → (a || b) ≡ false
neither true b f g = absurd (f refl)
neither false true f g = absurd (g refl)
neither false false f g = refl

not_first : (a b : Bool) → (a || b) ≡ false → a ≡ true → ⊥
not_first true b e k = cc
not_first false b e k = cc

not_second : (a b : Bool) → (a || b) ≡ false → b ≡ true → ⊥
not_second true b e k = cc
not_second false b e k = cc

-- a sender's address isn't that of the host to which the packet goes, nor 127.0.0.1
from_afar : (sender own : Ip) (p : Packet) → Departs sender p → is_same_ip p.to.ip own ≡ true → is_own own p.from.ip ≡ false
from_afar sender own p h to =
    neither (is_same_ip p.from.ip loopback) (is_same_ip p.from.ip own)
    (λ e.
    no_true (is_same_ip sender loopback)
    (is_same sender loopback (sym (same_ip p.from.ip sender h.from) ∙ same_ip p.from.ip loopback e))
    h.outside)
    (λ e.
    not_second (is_same_ip p.to.ip loopback) (is_same_ip p.to.ip sender) h.away
    (is_same p.to.ip sender (same_ip p.to.ip own to ∙ (sym (same_ip p.from.ip own e) ∙ same_ip p.from.ip sender h.from))))

-- so a packet on the network is loopback at no host
pub travels_not : (own : Ip) (p : Packet) → Travels p → is_loopback own p ≡ false
travels_not own p h = by_both (is_own own p.from.ip) (is_same_ip p.to.ip loopback) (is_same_ip p.to.ip own)
    (not_first (is_same_ip p.to.ip loopback) (is_same_ip p.to.ip h.sender) h.departs.away)
    (λ to. from_afar h.sender own p h.departs to)
  where
    by_both : (from loop to : Bool) → (loop ≡ true → ⊥) → (to ≡ true → from ≡ false) → (from && (loop || to)) ≡ false
    by_both true true to f g = absurd (f refl)
    by_both true false true f g = g refl
    by_both true false false f g = refl
    by_both false loop to f g = refl

packet_comes : (own : Ip) (p : Packet) → Travels p → is_same_ip p.to.ip own ≡ true → Comes own p
packet_comes own p h to = record {
  outside = not_true (is_same_ip p.to.ip loopback) (not_first (is_same_ip p.to.ip loopback) (is_same_ip p.to.ip h.sender) h.departs.away);
  home = second_of (is_same_ip p.to.ip loopback) (is_same_ip p.to.ip own) to;
  far = from_afar h.sender own p h.departs to;
}
  where
    not_true : (b : Bool) → (b ≡ true → ⊥) → b ≡ false
    not_true true f = absurd (f refl)
    not_true false f = refl

comes_home : (net : Net) (rows : List Row) (source : ℕ) (w : What) (row : Row) → AreHosts net rows → slice_get rows (home_of net source w) ≡ Some row → FitsEvent net rows source w → FitsIn row.address w
comes_home net rows source (what.Packet packet) row are at fits =
    packet_comes row.address packet fits.1 (packet_there net rows packet.to.ip source fits.0.0 (host_at net.known.book packet.to.ip) row are refl fits.0.1 at)
comes_home net rows source (what.Loop packet) row are at fits = fits row at
comes_home net rows source (what.Start q) row are at fits = tt
comes_home net rows source (what.Go q) row are at fits = tt
comes_home net rows source (what.Shutdown q) row are at fits = tt
comes_home net rows source (what.Alarm target serial) row are at fits = tt
comes_home net rows source what.Up row are at fits = tt
comes_home net rows source what.Down row are at fits = tt

-- what a host makes fits
sent_fits : (net : Net) (rows : List Row) (i source : ℕ) (w : What) (row : Row) → slice_get rows i ≡ Some row → source ≡ i → FitsSent net row.address w → FitsEvent net rows source w
sent_fits net rows i source (what.Packet packet) row at same fits = (fits.0, record { sender = row.address; departs = fits.1 })
sent_fits net rows i source (what.Loop packet) row at same fits =
    λ other there.
    let one = same_option (slice_get rows i) row other at (subst (λ (k : ℕ). slice_get rows k ≡ Some other) same there) in
    subst (λ (r : Row). Loops r.address packet) one fits
sent_fits net rows i source (what.Start p) row at same fits = tt
sent_fits net rows i source (what.Go p) row at same fits = tt
sent_fits net rows i source (what.Shutdown p) row at same fits = tt
sent_fits net rows i source (what.Alarm target serial) row at same fits = tt
sent_fits net rows i source what.Up row at same fits = tt
sent_fits net rows i source what.Down row at same fits = tt

silent_fits : (net : Net) (rows : List Row) (source : ℕ) (w : What) → ((p : Packet) → carried_by w ≡ Some p → ⊥) → FitsEvent net rows source w
silent_fits net rows source (what.Packet packet) f = absurd (f packet refl)
silent_fits net rows source (what.Loop packet) f = absurd (f packet refl)
silent_fits net rows source (what.Start p) f = tt
silent_fits net rows source (what.Go p) f = tt
silent_fits net rows source (what.Shutdown p) f = tt
silent_fits net rows source (what.Alarm target serial) f = tt
silent_fits net rows source what.Up f = tt
silent_fits net rows source what.Down f = tt

-- ---- a host of a run, and a world

-- it has the address of its row, and its records are at home
pub record IsHomed (rows : List Row) (i : ℕ) (h : HostRecord) : Type 0 where
  pub row : Row
  pub there : slice_get rows i ≡ Some row
  pub address : h.row.address ≡ row.address
  pub records : AreAtHome row.address (host_records h)

-- whatever fires next: it has logged nothing yet
record Stays (net : Net) (rows : List Row) (i : ℕ) (h : HostRecord) : Type 0 where
  row : Row
  there : slice_get rows i ≡ Some row
  firing : (cause : What) → IsFiring net row.address i cause h

record AllStay (net : Net) (rows : List Row) (w : World) : Type 0 where
  hosts : AllAt (Stays net rows) w.hosts
  events : Every (Fits net rows) w.events

module _ (net : Net) (rows : List Row) (are : AreHosts net rows) where
  rest_fits : (w : World) (e : Event) (rest : List Event) → IsPermutation w.events (e ∷ rest) → Every (Fits net rows) w.events → Every (Fits net rows) rest
  rest_fits w e rest taken each =
      every_here (Fits net rows) rest (λ x c. every_member (Fits net rows) w.events x each (rest_there w e rest taken x c))

  nobody : (w : World) (e : Event) (rest : List Event) → IsPermutation w.events (e ∷ rest) → AllStay net rows w → AllStay net rows (after_firing w e rest (fires_at (model net) w.hosts e None))
  nobody w e rest taken all = record {
    hosts = all.hosts;
    events = every_append (Fits net rows) rest [] (rest_fits w e rest taken all.events) tt;
  }

  -- a host fires
  acted : (e : Event) (h : HostRecord) (i : ℕ) → home net e ≡ i → Fits net rows e → (s : Stays net rows i h) → IsFiring net s.row.address i e.what (has_acted net e h)
  acted e h i at fits s =
      event_home net s.row.address i e.what (are.outside i s.row s.there) e h refl
      (comes_home net rows e.key.source.index e.what s.row are (subst (λ (k : ℕ). slice_get rows k ≡ Some s.row) (sym at) s.there) fits)
      (s.firing e.what)

  fired : (own : Ip) (n : ℕ) (cause next : What) (e : Event) (h : HostRecord) → IsFiring net own n cause (has_acted net e h) → IsFiring net own n next (fire net h e).host
  fired own n cause next e h k = record {
    address = k.address;
    here = record { own = k.here.own; bound = k.here.bound };
    fit = k.fit;
    link = record { number = k.link.number; up = k.link.up; down = k.link.down; made = tt; lines = tt };
  }

  somebody : (w : World) (e : Event) (rest : List Event) (h : HostRecord) → slice_get w.hosts (home net e) ≡ Some h → Contains w.events e → IsPermutation w.events (e ∷ rest) → AllStay net rows w → AllStay net rows (after_firing w e rest (with_host w.hosts (home net e) (fire net h e)))
  somebody w e rest h at there taken all =
      let i = home net e in
      let s = all.hosts i h at in
      let f = fire net h e in
      let after = acted e h i refl (every_member (Fits net rows) w.events e all.events there) s in
      record {
        hosts = set_at (Stays net rows) w.hosts i f.host (λ j x apart here. all.hosts j x here)
            (record { row = s.row; there = s.there; firing = λ next. fired s.row.address i e.what next e h after });
        events = every_append (Fits net rows) rest f.made (rest_fits w e rest taken all.events)
            (every_with (IsSent net s.row.address i) (Fits net rows) f.made
            (λ x c sent. sent_fits net rows i x.key.source.index x.what s.row s.there sent.0 sent.1) after.link.made);
      }

  fires_stay : (w : World) (e : Event) (rest : List Event) (o : Option HostRecord) → slice_get w.hosts (home net e) ≡ o → IsPermutation w.events (e ∷ rest) → nat_lt e.key.due.nanos net.stop.nanos ≡ true → AllStay net rows w → AllStay net rows (after_firing w e rest (fires_at (model net) w.hosts e o))
  fires_stay w e rest None at taken due all = nobody w e rest taken all
  fires_stay w e rest (Some h) at taken due all =
      let there : Contains w.events e = Contains-permutation (e ∷ rest) w.events e (IsPermutation-sym w.events (e ∷ rest) taken) (Contains_here e rest) in
      subst (λ (f : Fired HostRecord Line). AllStay net rows (after_firing w e rest (with_host w.hosts (home net e) f))) (sym (fires_so net h e due)) (somebody w e rest h at there taken all)

  turn_stays : (w v : World) → next (model net) net.stop.nanos w ≡ Some v → AllStay net rows w → AllStay net rows v
  turn_stays w v k all =
      let turn = turn_of net w v k in
      subst (AllStay net rows) turn.is (fires_stay w turn.event turn.rest (slice_get w.hosts (home net turn.event)) refl turn.taken turn.due all)

  -- the opening world
  row_stays : (i : ℕ) (row : Row) → slice_get rows i ≡ Some row → Stays net rows i (opening row).host
  row_stays i row at =
      let up = row_carries net (Departs row.address) row in
      let down = row_carries net (Comes row.address) row in
      record {
        row = row;
        there = at;
        firing = λ cause. record {
          address = refl;
          here = here_always net.known.book row.address [] [];
          fit = none_own row.address [];
          link = record { number = down.number ∙ are.placed i row at; up = every_with (λ (w : Waiting). Departs row.address w.packet × IsAway row.address w.packet) (λ (w : Waiting). Departs row.address w.packet) (host_begins row).link.up.waiting (λ w c h. h.0) up.up; down = down.down; made = tt; lines = tt };
        };
      }

  opening_stays : AllStay net rows (opening_world rows)
  opening_stays =
      let events = flat_map (λ (row : Row). (opening row).made) rows in
      let none = rows_events net rows in
      record {
        hosts = rows_at (Stays net rows) rows row_stays;
        events = every_here (Fits net rows) events
            (λ e c. silent_fits net rows e.key.source.index e.what (λ p is. none p (given carried events e p c is)));
      }

  run_stays : (w : World) → IsReached net (opening_world rows) w → AllStay net rows w
  run_stays w (begins v same) = subst (AllStay net rows) same opening_stays
  run_stays w (turns u v reached k) = turn_stays u v k (run_stays u reached)

  pub run_homed : (w : World) → IsReached net (opening_world rows) w → (i : ℕ) (h : HostRecord) → slice_get w.hosts i ≡ Some h → IsHomed rows i h
  run_homed w reached i h at =
      let s = (run_stays w reached).hosts i h at in
      let firing = s.firing what.Up in
      record { row = s.row; there = s.there; address = firing.address; records = own_home s.row.address h.parts.sockets h.parts.shared.outlet firing.fit }

  pub records_home : (w : World) → IsReached net (opening_world rows) w → (i : ℕ) (h : HostRecord) → slice_get w.hosts i ≡ Some h → AreAtHome h.row.address (host_records h)
  records_home w reached i h at =
      let homed = run_homed w reached i h at in
      subst (λ (a : Ip). AreAtHome a (host_records h)) (sym homed.address) homed.records

  -- ---- packets that stay at their host

  carried_fits : (w : World) (e : Event) → IsReached net (opening_world rows) w → Contains w.events e → Fits net rows e
  carried_fits w e reached there = every_member (Fits net rows) w.events e (run_stays w reached).events there

  -- a Loop has both ends at its host
  loop_fits : (source : ℕ) (w : What) (p : Packet) (row : Row) → w ≡ what.Loop p → FitsEvent net rows source w → slice_get rows (home_of net source w) ≡ Some row → is_loopback row.address p ≡ true
  loop_fits source w p row is fits at =
      loops_loopback row.address p
      ((subst (λ (x : What). FitsEvent net rows source x) is fits) row (subst (λ (x : What). slice_get rows (home_of net source x) ≡ Some row) is at))

  pub past_network : (w : World) (e : Event) (p : Packet) (h : HostRecord) → IsReached net (opening_world rows) w → Contains w.events e → e.what ≡ what.Loop p → slice_get w.hosts (home net e) ≡ Some h → is_loopback h.row.address p ≡ true
  past_network w e p h reached there is at =
      let homed = run_homed w reached (home net e) h at in
      subst (λ (a : Ip). is_loopback a p ≡ true) (sym homed.address)
      (loop_fits e.key.source.index e.what p homed.row is (carried_fits w e reached there) homed.there)

  pub on_network : (w : World) (e : Event) (p : Packet) (own : Ip) → IsReached net (opening_world rows) w → Contains w.events e → e.what ≡ what.Packet p → is_loopback own p ≡ false
  on_network w e p own reached there is =
      travels_not own p (subst (λ (x : What). FitsEvent net rows e.key.source.index x) is (carried_fits w e reached there)).1

  -- the lines of a firing
  pub lines_tell : (w : World) (e : Event) (h : HostRecord) → IsReached net (opening_world rows) w → Contains w.events e → slice_get w.hosts (home net e) ≡ Some h → Every (IsLineOf (home net e) h.row.address e.what) (fire net h e).lines
  lines_tell w e h reached there at =
      let s = (run_stays w reached).hosts (home net e) h at in
      let after = acted e h (home net e) refl (carried_fits w e reached there) s in
      subst (λ (a : Ip). Every (IsLineOf (home net e) a e.what) (fire net h e).lines) (sym (s.firing e.what).address) after.link.lines
