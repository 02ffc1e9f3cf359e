-- What acts on a link add: events numbered on, each due later than the one that fires, packets by their routes' latencies.
use Rattle.std.proofs.Common.{◌≡◌, ◌≢◌, ℕ, ◌+◌, ◌-◌, ◌^◌, ◌<◌, ◌≤◌, ◌==◌, ◌||◌, max, min, Bool, true, false, List, [], ◌∷◌, ◌++◌, length, Option, Some, None, option_and_then, nat_lt, nat_le, refl, sym, ap, subst, ◌∙◌, append_assoc, append-nil, length-append, arith, rules, tests}
use Rattle.std.specs.Prelude.{All, IsSome, if◌then◌else◌}
use Rattle.std.proofs.lemmas.Bool.Decides.{nat_tests}
use Rattle.std.proofs.lemmas.List.Elements.{All-nil, All-cons, All-append}
use Rattle.sim_base.specs.Units.{latest_time}
use Rattle.sim_base.specs.declared.act.Act.{Act}
use Rattle.sim_base.specs.declared.act.Act.TheVariants.{Send, Lost, FullUp, Codel}
use Rattle.sim_base.specs.declared.address.Ip.{Ip}
use Rattle.sim_base.specs.declared.event.Event.{Event}
use Rattle.sim_base.specs.declared.event.What.{What}
use Rattle.sim_base.specs.declared.event.What.TheVariants as what
use Rattle.sim_base.specs.declared.packet.Packet.{Packet}
use Rattle.sim_base.specs.declared.size.TheConstants.{MAX_PACKET}
use Rattle.sim_base.specs.declared.time.Time.{Time}
use Rattle.sim_base.specs.Addresses.{host_at}
use Rattle.sim_base.specs.Packet.{packet_size}
use Rattle.gml_graph.specs.Edges.{lossless}
use Rattle.net_iface.specs.declared.codel.TheConstants.{LARGEST}
use Rattle.net_iface.specs.declared.lane.TheConstants.{WAITING}
use Rattle.net_iface.specs.declared.lane.Pushed.{Pushed}
use Rattle.net_iface.specs.declared.lane.Pushed.TheVariants.{Leaves, Waits, Dropped}
use Rattle.net_iface.specs.declared.lane.Waiting.{Waiting}
use Rattle.net_iface.specs.Lane.{LaneState, Left, AllFit, waiting_size, lane_at, pushed_first, pushed_behind, pushed_on, pushed, taken_front, with_rest, with_taken, leaving, released}
use Rattle.host_wants.specs.declared.outlet.Want.{Want}
use Rattle.host_wants.specs.declared.outlet.Want.TheVariants as wanted
use Rattle.host_wants.specs.Wanted.{Wanted, draws_word, without_wants}
use Rattle.world_order.specs.Premises.{AreNumbered, IsFar}
use Rattle.host_link.specs.Net.{Net}
use Rattle.host_state.specs.Fits.{FitsWhat, IsEventOf, IsLatency, IsLookaheadOf, IsShort}
use Rattle.host_link.specs.Home.{home, home_of}
use Rattle.host_link.specs.Wants.{does_want, does_all, does_wants}
use Rattle.host_state.specs.Host.{does_wanted}
use Rattle.host_state.specs.HostRecord.{HostRecord}
use Rattle.host_link.specs.Lanes.{with_up, with_down}
use Rattle.host_link.specs.Link.{LinkState, numbers, makes, later, not_before_next, event_of, logs}
use Rattle.host_link.specs.Sending.{Wire, route_from, route_to, is_bootstrapping, loses, travels, takes_its_chance, takes_route, takes_route_if, leaves, leave_all, makes_if, goes_on, goes_up, stays_here, loops, sends, drop_all, up_comes}

-- an event that a host with this number made at a time
pub record IsMade (net : Net) (lookahead : Option ℕ) (number : ℕ) (now : Time) (g : Event) : Type 0 where
  pub later : now.nanos < g.key.due.nanos
  pub far : home net g ≢ number → IsFar lookahead now.nanos g.key.due.nanos
  pub event : IsEventOf net g

-- a link of a host of the net
pub record IsSound (net : Net) (l : LinkState) : Type 0 where
  pub within : l.number < length net.known.book
  pub early : l.time.nanos ≤ latest_time
  pub limited : l.next ≤ 2 ^ 64 - 1
  pub up : AllFit l.up.waiting
  pub down : AllFit l.down.waiting

abbrev pub AllSmall : List Packet → Type 0
AllSmall [] = Unit {0}
AllSmall (p ∷ ps) = (packet_size p ≤ MAX_PACKET) × AllSmall ps

-- one link grows to another
pub record Grows (net : Net) (lookahead : Option ℕ) (l m : LinkState) : Type 0 where
  pub number : m.number ≡ l.number
  pub time : m.time ≡ l.time
  pub more : List Event
  pub made : m.made ≡ l.made ++ more
  pub numbered : AreNumbered l.number l.next more
  pub counted : m.next ≡ l.next + length more
  pub each : All (IsMade net lookahead l.number l.time) more
  pub sound : IsSound net m

AreNumbered_append : (source n : ℕ) (xs ys : List Event) → AreNumbered source n xs → AreNumbered source (n + length xs) ys → AreNumbered source n (xs ++ ys)
AreNumbered_append source n [] ys h k = subst (λ (m : ℕ). AreNumbered source m ys) (omega arith) k
AreNumbered_append source n (x ∷ xs) ys h k =
    (h.0, h.1, AreNumbered_append source (n + 1) xs ys h.2 (subst (λ (m : ℕ). AreNumbered source m ys) (omega arith) k))

pub by_if : {A : Type 0} (P : A → Type 0) (b : Bool) (x y : A) → (b ≡ true → P x) → (b ≡ false → P y) → P (if b then x else y)
by_if P true x y h k = h refl
by_if P false x y h k = k refl

far_enough : (o : Option ℕ) (latency now : ℕ) → IsLatency o latency → IsShort o → now ≤ latest_time → IsFar o now (max (min (now + latency) (2 ^ 64 - 1)) (now + 1))
far_enough None latency now h short early = absurd h
far_enough (Some n) latency now h short early = omega arith

-- ---- lanes

AllFit_behind : (ws : List Waiting) (w : Waiting) → AllFit ws → waiting_size w ≤ LARGEST → AllFit (ws ++ w ∷ [])
AllFit_behind [] w h small = (small, tt)
AllFit_behind (x ∷ ws) w h small = (h.0, AllFit_behind ws w h.1 small)

-- what a push gives and leaves is small
abbrev pub IsSmallPush : Pushed → Type 0
IsSmallPush (Leaves p) = packet_size p ≤ MAX_PACKET
IsSmallPush _ = Unit {0}

abbrev pub FitsPush : Pushed × LaneState → Type 0
FitsPush t = IsSmallPush t.0 × AllFit t.1.waiting

push_first : (now : Time) (packet : Packet) (lane : LaneState) → packet_size packet ≤ MAX_PACKET → AllFit lane.waiting → FitsPush (pushed_first now packet lane)
push_first now packet lane small fit =
    by_if FitsPush (nat_le (packet_size packet) lane.bucket.tokens) _ _ (λ _. (small, fit)) (λ _. (tt, AllFit_behind lane.waiting _ fit small))

push_behind : (now : Time) (packet : Packet) (lane : LaneState) → packet_size packet ≤ MAX_PACKET → AllFit lane.waiting → FitsPush (pushed_behind now packet lane)
push_behind now packet lane small fit =
    by_if FitsPush (nat_lt (length lane.waiting) WAITING) _ _ (λ _. (tt, AllFit_behind lane.waiting _ fit small)) (λ _. (tt, fit))

push_on : (now : Time) (packet : Packet) (lane : LaneState) (ws : List Waiting) → packet_size packet ≤ MAX_PACKET → AllFit lane.waiting → FitsPush (pushed_on now packet lane ws)
push_on now packet lane [] small fit = push_first now packet lane small fit
push_on now packet lane (w ∷ ws) small fit = push_behind now packet lane small fit

pub pushed_fits : (now : Time) (packet : Packet) (lane : LaneState) → packet_size packet ≤ MAX_PACKET → AllFit lane.waiting → FitsPush (pushed now packet lane)
pushed_fits now packet lane small fit = push_on now packet (lane_at now lane) lane.waiting small fit

abbrev FitsLeft : Left → Type 0
FitsLeft left = AllSmall left.packets × AllFit left.lane.waiting

with_taken_fits : (dropped : Bool) (packet : Packet) (left : Left) → packet_size packet ≤ MAX_PACKET → FitsLeft left → FitsLeft (with_taken dropped packet left)
with_taken_fits true packet left small fits = fits
with_taken_fits false packet left small fits = ((small, fits.0), fits.1)

leaving_fits : (now : Time) (lane : LaneState) (ws : List Waiting) → AllFit ws → FitsLeft (leaving now lane ws)
leaving_fits now lane [] fit = (tt, tt)
leaving_fits now lane (w ∷ ws) fit =
    by_if FitsLeft (nat_le (waiting_size w) lane.bucket.tokens) _ _
    (λ _. with_taken_fits _ w.packet _ fit.0 (leaving_fits now (taken_front now w (with_rest lane ws)).1 ws fit.1))
    (λ _. (tt, fit))

pub released_fits : (now : Time) (lane : LaneState) → AllFit lane.waiting → AllSmall (released now lane).packets × AllFit (released now lane).lane.waiting
released_fits now lane fit = leaving_fits now (lane_at now lane) lane.waiting fit

-- ---- links

module _ (net : Net) (lookahead : Option ℕ) (routes : IsLookaheadOf net lookahead) (short : IsShort lookahead) where
  pub grows_not : (l : LinkState) → IsSound net l → Grows net lookahead l l
  grows_not l sound = record {
    number = refl;
    time = refl;
    more = [];
    made = sym (append-nil l.made);
    numbered = tt;
    counted = omega arith;
    each = All-nil _;
    sound = sound;
  }

  pub grows_on : (l m n : LinkState) → Grows net lookahead l m → (IsSound net m → Grows net lookahead m n) → Grows net lookahead l n
  grows_on l m n first then_ =
      let second : Grows net lookahead m n = then_ first.sound in
      let each : All (IsMade net lookahead l.number l.time) second.more =
      subst (λ (t : Time). All (IsMade net lookahead l.number t) second.more) first.time
      (subst (λ (k : ℕ). All (IsMade net lookahead k m.time) second.more) first.number second.each) in
      let numbered : AreNumbered l.number (l.next + length first.more) second.more =
      subst (λ (k : ℕ). AreNumbered l.number k second.more) first.counted
      (subst (λ (k : ℕ). AreNumbered k m.next second.more) first.number second.numbered) in
      record {
        number = second.number ∙ first.number;
        time = second.time ∙ first.time;
        more = first.more ++ second.more;
        made = second.made ∙ (ap (λ (es : List Event). es ++ second.more) first.made ∙ append_assoc l.made first.more second.more);
        numbered = AreNumbered_append l.number l.next first.more second.more first.numbered numbered;
        counted = omega (arith, length-append first.more second.more, second.counted, first.counted);
        each = All-append (IsMade net lookahead l.number l.time) first.more second.more first.each each;
        sound = second.sound;
      }

  -- an event is made, if there is a number left
  grows_if : (l : LinkState) (due : Time) (w : What) (b : Bool) → nat_lt l.next (2 ^ 64 - 1) ≡ b → IsSound net l
      → IsMade net lookahead l.number l.time (event_of l due w)
      → Grows net lookahead l (if b then record l { next = l.next + 1; made = l.made ++ event_of l due w ∷ [] } else l)
  grows_if l due w false is sound made = grows_not l sound
  grows_if l due w true is sound made = record {
    number = refl;
    time = refl;
    more = event_of l due w ∷ [];
    made = refl;
    numbered = (refl, refl, tt);
    counted = refl;
    each = All-cons (IsMade net lookahead l.number l.time) (event_of l due w) [] made (All-nil _);
    sound = record { within = sound.within; early = sound.early; limited = search (rules, tests); up = sound.up; down = sound.down };
  }

  pub grows_makes : (l : LinkState) (due : Time) (w : What) → IsSound net l
      → (home_of net l.number w ≢ l.number → IsFar lookahead l.time.nanos (max due.nanos (l.time.nanos + 1))) → FitsWhat net w
      → Grows net lookahead l (makes due w l)
  unfolding numbers
  grows_makes l due w sound far fits =
      grows_if l (not_before_next l.time due) w (nat_lt l.next (2 ^ 64 - 1)) refl sound
      (record { later = omega arith; far = far; event = record { source = sound.within; what = fits } })

  pub grows_logs : (l : LinkState) (act : Act) (packet : Packet) → IsSound net l → Grows net lookahead l (logs act packet l)
  unfolding logs
  grows_logs l act packet sound = record {
    number = refl;
    time = refl;
    more = [];
    made = sym (append-nil l.made);
    numbered = tt;
    counted = omega arith;
    each = All-nil _;
    sound = record { within = sound.within; early = sound.early; limited = sound.limited; up = sound.up; down = sound.down };
  }

  abbrev G : LinkState → LinkState → Type 0
  G l m = Grows net lookahead l m

  pub grows_made_if : (l : LinkState) (due : Option Time) (w : What) → IsSound net l → (home_of net l.number w ≡ l.number) → FitsWhat net w → G l (makes_if due w l)
  grows_made_if l None w sound own fits = grows_not l sound
  grows_made_if l (Some due) w sound own fits = grows_makes l due w sound (λ differ. absurd (differ own)) fits

  grows_travels : (l : LinkState) (latency : Time) (packet : Packet) (other : ℕ) → IsSound net l → packet_size packet ≤ MAX_PACKET
      → host_at net.known.book packet.to.ip ≡ Some other → IsLatency lookahead latency.nanos → G l (travels latency packet l)
  grows_travels l latency packet other sound small there far =
      grows_makes l (later l.time latency.nanos) (what.Packet packet) sound (λ _. far_enough lookahead latency.nanos l.time.nanos far short sound.early)
      (small, subst IsSome (sym there) (search rules))

  from_if : (n other : ℕ) (route : Time × ℕ) (b : Bool) → (other == n) ≡ b → (if b then None else route_from net n other) ≡ Some route → IsLatency lookahead route.0.nanos
  from_if n other route true is e = absurd (cc)
  from_if n other route false is e =
      let apart : n ≢ other = λ same. let t : (other == n) ≡ true = grind (arith, nat_tests) in absurd (cc) in
      routes n other route.0 route.1 apart e

  from_found : (n : ℕ) (route : Time × ℕ) (found : Option ℕ) → option_and_then (λ other. if other == n then None else route_from net n other) found ≡ Some route
      → (other : ℕ) × ((found ≡ Some other) × IsLatency lookahead route.0.nanos)
  from_found n route None e = absurd (cc)
  from_found n route (Some other) e = (other, (refl, from_if n other route (other == n) refl e))

  from_route_to : (n : ℕ) (ip : Ip) (route : Time × ℕ) → route_to net n ip ≡ Some route
      → (other : ℕ) × ((host_at net.known.book ip ≡ Some other) × IsLatency lookahead route.0.nanos)
  unfolding route_to
  from_route_to n ip route e = from_found n route (host_at net.known.book ip) e

  grows_chance : (l : LinkState) (route : Time × ℕ) (packet : Packet) (t : ℕ × Wanted) → G l (travels route.0 packet l) → IsSound net l → G l (takes_its_chance route packet l t).0
  grows_chance l route packet t travel sound =
      by_if (G l) (loses route.1 t.0) _ _ (λ _. grows_logs l Lost packet sound) (λ _. travel)

  grows_route : (l : LinkState) (sure : Bool) (route : Time × ℕ) (packet : Packet) (wanted : Wanted) → G l (travels route.0 packet l) → IsSound net l
      → G l (takes_route sure route packet (l, wanted)).0
  unfolding takes_route
  grows_route l sure route packet wanted travel sound =
      by_if (λ (v : Wire). G l v.0) (sure || nat_le lossless route.1) _ _ (λ _. travel) (λ _. grows_chance l route packet (draws_word wanted) travel sound)

  grows_route_if : (l : LinkState) (sure : Bool) (n : ℕ) (found : Option (Time × ℕ)) (packet : Packet) (wanted : Wanted) → route_to net n packet.to.ip ≡ found
      → IsSound net l → packet_size packet ≤ MAX_PACKET → G l (takes_route_if sure found packet (l, wanted)).0
  grows_route_if l sure n None packet wanted e sound small = grows_not l sound
  grows_route_if l sure n (Some route) packet wanted e sound small =
      let told = from_route_to n packet.to.ip route e in
      grows_route l sure route packet wanted (grows_travels l route.0 packet told.0 sound small told.1.0 told.1.1) sound

  pub grows_leaves : (packet : Packet) (w : Wire) → IsSound net w.0 → packet_size packet ≤ MAX_PACKET → G w.0 (leaves net packet w).0
  unfolding leaves
  grows_leaves packet w sound small =
      grows_on w.0 (logs Send packet w.0) _ (grows_logs w.0 Send packet sound)
      (λ next. grows_route_if (logs Send packet w.0) (is_bootstrapping net w.0.time) w.0.number (route_to net w.0.number packet.to.ip) packet w.1 refl next small)

  pub grows_leave_all : (packets : List Packet) (w : Wire) → IsSound net w.0 → AllSmall packets → G w.0 (leave_all net packets w).0
  unfolding leave_all
  grows_leave_all [] w sound small = grows_not w.0 sound
  grows_leave_all (p ∷ ps) w sound small =
      grows_on w.0 (leaves net p w).0 _ (grows_leaves p w sound small.0) (λ next. grows_leave_all ps (leaves net p w) next small.1)

  pub grows_drop_all : (packets : List Packet) (l : LinkState) → IsSound net l → G l (drop_all packets l)
  unfolding drop_all
  grows_drop_all [] l sound = grows_not l sound
  grows_drop_all (p ∷ ps) l sound = grows_on l (logs Codel p l) _ (grows_logs l Codel p sound) (λ next. grows_drop_all ps (logs Codel p l) next)

  -- a lane changes
  grows_up : (l : LinkState) (lane : LaneState) → IsSound net l → AllFit lane.waiting → G l (with_up lane l)
  grows_up l lane sound fit = record {
    number = refl;
    time = refl;
    more = [];
    made = sym (append-nil l.made);
    numbered = tt;
    counted = omega arith;
    each = All-nil _;
    sound = record { within = sound.within; early = sound.early; limited = sound.limited; up = fit; down = sound.down };
  }

  pub grows_down : (l : LinkState) (lane : LaneState) → IsSound net l → AllFit lane.waiting → G l (with_down lane l)
  grows_down l lane sound fit = record {
    number = refl;
    time = refl;
    more = [];
    made = sym (append-nil l.made);
    numbered = tt;
    counted = omega arith;
    each = All-nil _;
    sound = record { within = sound.within; early = sound.early; limited = sound.limited; up = sound.up; down = fit };
  }

  grows_goes_on : (pushed : Pushed) (w : Wire) → IsSound net w.0 → IsSmallPush pushed → G w.0 (goes_on net pushed w).0
  grows_goes_on (Leaves p) w sound small = grows_leaves p w sound small
  grows_goes_on (Waits due) w sound small = grows_made_if w.0 due what.Up sound refl tt
  grows_goes_on (Dropped p) w sound small = grows_logs w.0 FullUp p sound

  grows_goes_up : (packet : Packet) (w : Wire) → IsSound net w.0 → packet_size packet ≤ MAX_PACKET → G w.0 (goes_up net packet w).0
  unfolding goes_up
  grows_goes_up packet w sound small =
      let t = pushed w.0.time packet w.0.up in
      let fits = pushed_fits w.0.time packet w.0.up small sound.up in
      by_if (λ (v : Wire). G w.0 v.0) (is_bootstrapping net w.0.time) _ _ (λ _. grows_leaves packet w sound small)
      (λ _. grows_on w.0 (with_up t.1 w.0) _ (grows_up w.0 t.1 sound fits.1) (λ next. grows_goes_on t.0 (with_up t.1 w.0, w.1) next fits.0))

  grows_loops : (packet : Packet) (l : LinkState) → IsSound net l → G l (loops packet l)
  grows_loops packet l sound =
      grows_on l (logs Send packet l) _ (grows_logs l Send packet sound)
      (λ next. grows_makes (logs Send packet l) (later l.time 1) (what.Loop packet) next (λ differ. absurd (differ refl)) tt)

  pub grows_sends : (own : Ip) (packet : Packet) (w : Wire) → IsSound net w.0 → G w.0 (sends net own packet w).0
  unfolding sends
  grows_sends own packet w sound =
      by_if (λ (v : Wire). G w.0 v.0) (nat_lt MAX_PACKET (packet_size packet)) _ _ (λ _. grows_not w.0 sound)
      (λ is.
      let small : packet_size packet ≤ MAX_PACKET = search (rules, tests) in
      by_if (λ (v : Wire). G w.0 v.0) (stays_here own packet) _ _ (λ _. grows_loops packet w.0 sound) (λ _. grows_goes_up packet w sound small))

  pub grows_up_comes : (w : Wire) → IsSound net w.0 → G w.0 (up_comes net w).0
  unfolding up_comes
  grows_up_comes w sound =
      let r = released w.0.time w.0.up in
      let fits = released_fits w.0.time w.0.up sound.up in
      let start : LinkState = with_up r.lane w.0 in
      let dropped : LinkState = drop_all r.dropped start in
      grows_on w.0 start _ (grows_up w.0 r.lane sound fits.1)
      (λ a. grows_on start dropped _ (grows_drop_all r.dropped start a)
      (λ b. grows_on dropped (leave_all net r.packets (dropped, w.1)).0 _ (grows_leave_all r.packets (dropped, w.1) b fits.0)
      (λ d. grows_made_if _ r.next what.Up d refl tt)))

  grows_wants : (own : Ip) (wants : List Want) (w : Wire) → IsSound net w.0 → G w.0 (does_all net own wants w).0
  unfolding does_all does_want
  grows_wants own [] w sound = grows_not w.0 sound
  grows_wants own (wanted.Send p ∷ ws) w sound =
      grows_on w.0 (sends net own p w).0 _ (grows_sends own p w sound) (λ next. grows_wants own ws (sends net own p w) next)
  grows_wants own (wanted.Alarm target serial due ∷ ws) w sound =
      let m : LinkState = makes due (what.Alarm target serial) w.0 in
      grows_on w.0 m _ (grows_makes w.0 due (what.Alarm target serial) sound (λ differ. absurd (differ refl)) tt) (λ next. grows_wants own ws (m, w.1) next)

  -- ---- hosts

  abbrev H : HostRecord → HostRecord → Type 0
  H h k = G h.link k.link

  pub grows_does_wanted : (h : HostRecord) → IsSound net h.link → H h (does_wanted net h)
  unfolding does_wanted does_wants
  grows_does_wanted h sound = grows_wants h.row.address h.parts.shared.outlet.wants (h.link, without_wants h.parts.shared.outlet) sound
