-- what a link has for its own host comes to an address of the host, past the network from one of its own and from there from none;
-- what it sends to the network goes from the host's own address to one of some other host; and lines tell which of the two it was
use Rattle.std.proofs.Common.{◌≡◌, ℕ, ◌&&◌, ◌||◌, ◌==◌, Bool, true, false, nat_lt, nat_le, List, [], ◌∷◌, Option, Some, None, if◌then◌else◌, refl, ◌∙◌}
use Rattle.std.specs.List.{AllByRecursion, filter_map}
use Rattle.sim_base.specs.Addresses.{loopback, is_same_ip, host_at}
use Rattle.sim_base.specs.Packet.{packet_size}
use Rattle.base_texts.specs.Quantity.{◌>>=◌}
use Rattle.sim_base.specs.Units.{max_u64}
use Rattle.sim_base.specs.declared.act.Act.{Act}
use Rattle.sim_base.specs.declared.act.Act.TheVariants.{Send, Lost, FullUp, Codel}
use Rattle.sim_base.specs.declared.address.Ip.{Ip}
use Rattle.sim_base.specs.declared.event.Event.{Event}
use Rattle.sim_base.specs.declared.event.What.{What}
use Rattle.sim_base.specs.declared.event.What.TheVariants as what
use Rattle.sim_base.specs.declared.packet.Packet.{Packet}
use Rattle.sim_base.specs.declared.size.TheConstants.{MAX_PACKET}
use Rattle.sim_base.specs.declared.time.Time.{Time}
use Rattle.gml_graph.specs.Edges.{lossless}
use Rattle.net_iface.specs.declared.lane.Pushed.{Pushed}
use Rattle.net_iface.specs.declared.lane.Pushed.TheVariants.{Leaves, Waits, Dropped}
use Rattle.net_iface.specs.Lane.{LaneState, pushed, released}
use Rattle.tcp_laws.proofs.Tests.{by_test}
use Rattle.host_wants.specs.declared.outlet.Want.{Want}
use Rattle.host_wants.specs.declared.outlet.Want.TheVariants as wanted
use Rattle.host_wants.specs.Wanted.{Wanted, draws_word, without_wants}
use Rattle.host_link.specs.declared.line.Line.{Line}
use Rattle.host_link.specs.Net.{Net}
use Rattle.run_files.specs.Captures.{is_own, is_loopback}
use Rattle.host_link.specs.Wants.{does_want, does_all, does_wants}
use Rattle.host_link.specs.Lanes.{with_up, with_down}
use Rattle.host_link.specs.Link.{LinkState, event_of, not_before_next, numbers, makes, later, logs}
use Rattle.host_link.specs.Sending.{Wire, route_from, route_to, is_bootstrapping, loses, takes_its_chance, takes_route, takes_route_if, leaves, leave_all, makes_if, goes_on, goes_up, stays_here, sends, drop_all, up_comes}
use Rattle.socket_streams.specs.Inside.{IsHome}
use Rattle.socket_streams.specs.Records.{packet_in, packets_of}
use Rattle.socket_streams.proofs.OwnEnds.{OwnPacket}
use Rattle.run_streams.proofs.Every.{Every, every_append, every_with}
use Rattle.run_streams.proofs.Lanes.{EachWaits, PushFits, push_fits, release_fits, release_drops}
use Rattle.run_streams.specs.Past.{stays, TellsStays}

-- the address is that of a host
abbrev pub HasHost : Net → Ip → Type 0
HasHost net ip = (k : ℕ) × (host_at net.known.book ip ≡ Some k)

-- from the host's own address to one that isn't the host's
pub record Departs (own : Ip) (p : Packet) : Type 0 where
  pub outside : is_same_ip own loopback ≡ false
  pub from : is_same_ip p.from.ip own ≡ true
  pub away : stays_here own p ≡ false

-- to the host's own address from one that isn't the host's
pub record Comes (own : Ip) (p : Packet) : Type 0 where
  pub outside : is_same_ip p.to.ip loopback ≡ false
  pub home : IsHome own p.to.ip
  pub far : is_own own p.from.ip ≡ false

-- both ends are the host's
pub record Loops (own : Ip) (p : Packet) : Type 0 where
  pub from : IsHome own p.from.ip
  pub to : IsHome own p.to.ip

-- an event that a host makes
abbrev pub FitsSent : Net → Ip → What → Type 0
FitsSent net own (what.Packet packet) = HasHost net packet.to.ip × Departs own packet
FitsSent net own (what.Loop packet) = Loops own packet
FitsSent net own (what.Start p) = Unit {0}
FitsSent net own (what.Go p) = Unit {0}
FitsSent net own (what.Shutdown p) = Unit {0}
FitsSent net own (what.Alarm target serial) = Unit {0}
FitsSent net own what.Up = Unit {0}
FitsSent net own what.Down = Unit {0}

abbrev pub IsSent : Net → Ip → ℕ → Event → Type 0
IsSent net own n e = (e.key.source.index ≡ n) × FitsSent net own e.what

-- a line that the host logs as an event fires
abbrev pub IsLineOf : ℕ → Ip → What → Line → Type 0
IsLineOf n own cause line = (line.host.index ≡ n) × TellsStays own cause line

-- the link as an event fires
pub record HomeLink (net : Net) (own : Ip) (n : ℕ) (cause : What) (l : LinkState) : Type 0 where
  pub number : l.number ≡ n
  pub up : EachWaits (Departs own) l.up.waiting
  pub down : EachWaits (Comes own) l.down.waiting
  pub made : Every (IsSent net own n) l.made
  pub lines : Every (IsLineOf n own cause) l.lines

-- ---- what is loopback

true_and : (a b : Bool) → a ≡ true → (a && b) ≡ b
true_and true b e = refl
true_and false b e = cc

and_false : (a b : Bool) → b ≡ false → (a && b) ≡ false
and_false true b e = e
and_false false b e = refl

false_and : (a b : Bool) → a ≡ false → (a && b) ≡ false
false_and true b e = cc
false_and false b e = refl

-- what has an own end of the host is loopback where it is for the host itself
own_stays : (own : Ip) (p : Packet) → IsHome own p.from.ip → is_loopback own p ≡ stays_here own p
own_stays own p home = true_and (is_own own p.from.ip) (is_own own p.to.ip) home

pub loops_loopback : (own : Ip) (p : Packet) → Loops own p → is_loopback own p ≡ true
loops_loopback own p h = own_stays own p h.from ∙ h.to

departs_not : (own : Ip) (p : Packet) → Departs own p → is_loopback own p ≡ false
departs_not own p h = and_false (is_own own p.from.ip) (is_own own p.to.ip) h.away

pub comes_not : (own : Ip) (p : Packet) → Comes own p → is_loopback own p ≡ false
comes_not own p h = false_and (is_own own p.from.ip) (is_own own p.to.ip) h.far

pub second_of : (a b : Bool) → b ≡ true → (a || b) ≡ true
second_of true b e = refl
second_of false b e = e

departs_home : (own : Ip) (p : Packet) → Departs own p → IsHome own p.from.ip
departs_home own p h = second_of (is_same_ip p.from.ip loopback) (is_same_ip p.from.ip own) h.from

-- what is sent and isn't for the host itself departs: it isn't from 127.0.0.1
departs_by : (loop other to : Bool) → (loop || other) ≡ true → (loop ≡ true → to ≡ true) → to ≡ false → other ≡ true
departs_by true other to home inside away = let yes : to ≡ true = inside refl in absurd cc
departs_by false other to home inside away = home

departs : (own : Ip) (p : Packet) → is_same_ip own loopback ≡ false → OwnPacket own p → stays_here own p ≡ false → Departs own p
departs own p outside h away = record {
  outside = outside;
  from = departs_by (is_same_ip p.from.ip loopback) (is_same_ip p.from.ip own) (stays_here own p) h.home h.inside away;
  away = away;
}

-- a route leads to a host
found_host : (net : Net) (ip : Ip) (o : Option ℕ) (f : ℕ → Option (Time × ℕ)) (route : Time × ℕ) → host_at net.known.book ip ≡ o → (o >>= f) ≡ Some route → HasHost net ip
found_host net ip None f route at e = cc
found_host net ip (Some k) f route at e = (k, at)

route_host : (net : Net) (host : ℕ) (ip : Ip) (route : Time × ℕ) → route_to net host ip ≡ Some route → HasHost net ip
unfolding route_to
route_host net host ip route e =
    found_host net ip (host_at net.known.book ip) (λ (other : ℕ). if other == host then None else route_from net host other) route refl e

module _ (net : Net) (own : Ip) (n : ℕ) (cause : What) where
  abbrev G : LinkState → Type 0
  G l = HomeLink net own n cause l

  -- the link, while these are wanted
  abbrev pub HomeWire : List Want → Wire → Type 0
  HomeWire ws v = G v.0 × (v.1.wants ≡ ws)

  pub home_numbers : (due : Time) (w : What) (l : LinkState) → FitsSent net own w → G l → G (numbers due w l)
  unfolding numbers
  home_numbers due w l fits h =
      by_test G (nat_lt l.next max_u64) _ l
      (λ e. record { number = h.number; up = h.up; down = h.down; made = every_append (IsSent net own n) l.made (event_of l due w ∷ []) h.made ((h.number, fits), tt); lines = h.lines })
      (λ e. h)

  pub home_makes : (due : Time) (w : What) (l : LinkState) → FitsSent net own w → G l → G (makes due w l)
  home_makes due w l fits h = home_numbers (not_before_next l.time due) w l fits h

  pub home_makes_if : (due : Option Time) (w : What) (l : LinkState) → FitsSent net own w → G l → G (makes_if due w l)
  home_makes_if None w l fits h = h
  home_makes_if (Some due) w l fits h = home_makes due w l fits h

  -- a line more
  pub home_logs : (act : Act) (packet : Packet) (l : LinkState) → is_loopback own packet ≡ stays own cause act packet → G l → G (logs act packet l)
  unfolding logs
  home_logs act packet l tells h = record {
    number = h.number;
    up = h.up;
    down = h.down;
    made = h.made;
    lines = every_append (IsLineOf n own cause) l.lines (record { time = l.time; host = record { index = l.number }; act = act; packet = packet } ∷ []) h.lines ((h.number, tells), tt);
  }

  home_up : (lane : LaneState) (l : LinkState) → EachWaits (Departs own) lane.waiting → G l → G (with_up lane l)
  home_up lane l each h = record { number = h.number; up = each; down = h.down; made = h.made; lines = h.lines }

  pub home_down : (lane : LaneState) (l : LinkState) → EachWaits (Comes own) lane.waiting → G l → G (with_down lane l)
  home_down lane l each h = record { number = h.number; up = h.up; down = each; made = h.made; lines = h.lines }

  pub home_drop_all : (packets : List Packet) (l : LinkState) → Every (λ (p : Packet). is_loopback own p ≡ false) packets → G l → G (drop_all packets l)
  unfolding drop_all
  home_drop_all [] l each h = h
  home_drop_all (p ∷ ps) l each h = home_drop_all ps (logs Codel p l) each.1 (home_logs Codel p l each.0 h)

  module _ (ws : List Want) where
    abbrev W : Wire → Type 0
    W v = HomeWire ws v

    -- a packet leaves
    chance : (route : Time × ℕ) (packet : Packet) (l : LinkState) (t : ℕ × Wanted) → HasHost net packet.to.ip → Departs own packet → t.1.wants ≡ ws → G l → W (takes_its_chance route packet l t)
    chance route packet l t to departs quiet h =
        (by_test G (loses route.1 t.0) _ _ (λ e. home_logs Lost packet l (departs_not own packet departs) h) (λ e. home_makes (later l.time route.0.nanos) (what.Packet packet) l (to, departs) h), quiet)

    routed : (sure : Bool) (route : Time × ℕ) (packet : Packet) (v : Wire) → HasHost net packet.to.ip → Departs own packet → W v → W (takes_route sure route packet v)
    unfolding takes_route
    routed sure route packet v to departs h =
        by_test W (sure || nat_le lossless route.1) _ _
        (λ e. (home_makes (later v.0.time route.0.nanos) (what.Packet packet) v.0 (to, departs) h.0, h.1))
        (λ e. chance route packet v.0 (draws_word v.1) to departs h.1 h.0)

    routed_if : (sure : Bool) (host : ℕ) (route : Option (Time × ℕ)) (packet : Packet) (v : Wire) → route_to net host packet.to.ip ≡ route → Departs own packet → W v → W (takes_route_if sure route packet v)
    routed_if sure host None packet v e departs h = h
    routed_if sure host (Some route) packet v e departs h = routed sure route packet v (route_host net host packet.to.ip route e) departs h

    left : (packet : Packet) (v : Wire) → Departs own packet → W v → W (leaves net packet v)
    unfolding leaves
    left packet v departs h =
        routed_if (is_bootstrapping net v.0.time) v.0.number (route_to net v.0.number packet.to.ip) packet (logs Send packet v.0, v.1) refl departs
        (home_logs Send packet v.0 (own_stays own packet (departs_home own packet departs)) h.0, h.1)

    all_left : (packets : List Packet) (v : Wire) → Every (Departs own) packets → W v → W (leave_all net packets v)
    unfolding leave_all
    all_left [] v each h = h
    all_left (p ∷ ps) v each h = all_left ps (leaves net p v) each.1 (left p v each.0 h)

    went_on : (t : Pushed) (v : Wire) → PushFits (Departs own) t → W v → W (goes_on net t v)
    went_on (Leaves packet) v fits h = left packet v fits h
    went_on (Waits due) v fits h = (home_makes_if due what.Up v.0 tt h.0, h.1)
    went_on (Dropped packet) v fits h = (home_logs FullUp packet v.0 (departs_not own packet fits) h.0, h.1)

    went_up : (packet : Packet) (v : Wire) → Departs own packet → W v → W (goes_up net packet v)
    unfolding goes_up
    went_up packet v departs h =
        by_test W (is_bootstrapping net v.0.time) _ _
        (λ e. left packet v departs h)
        (λ e.
        let t = pushed v.0.time packet v.0.up in
        let fits = push_fits (Departs own) v.0.time packet v.0.up departs h.0.up in
        went_on t.0 (with_up t.1 v.0, v.1) fits.0 (home_up t.1 v.0 fits.1 h.0, h.1))

    sent : (packet : Packet) (v : Wire) → is_same_ip own loopback ≡ false → OwnPacket own packet → W v → W (sends net own packet v)
    unfolding sends
    sent packet v outside mine h =
        by_test W (nat_lt MAX_PACKET (packet_size packet)) _ _
        (λ e. h)
        (λ e. by_test W (stays_here own packet) _ _
        (λ k. (
          home_makes (later v.0.time 1) (what.Loop packet) (logs Send packet v.0) (record { from = mine.home; to = k })
              (home_logs Send packet v.0 (own_stays own packet mine.home) h.0),
          h.1,
        ))
        (λ away. went_up packet v (departs own packet outside mine away) h))

    -- what is wanted is done
    all_done : (wants : List Want) (v : Wire) → is_same_ip own loopback ≡ false → AllByRecursion (OwnPacket own) (filter_map packet_in wants) → W v → W (does_all net own wants v)
    unfolding does_all does_want
    all_done [] v outside each h = h
    all_done (wanted.Send packet ∷ wants) v outside each h =
        all_done wants (sends net own packet v) outside each.1 (sent packet v outside each.0 h)
    all_done (wanted.Alarm target serial due ∷ wants) v outside each h =
        all_done wants (makes due (what.Alarm target serial) v.0, v.1) outside each (home_makes due (what.Alarm target serial) v.0 tt h.0, h.1)

  pub home_up_comes : (v : Wire) → G v.0 → HomeWire v.1.wants (up_comes net v)
  unfolding up_comes
  home_up_comes v h =
      let r = released v.0.time v.0.up in
      let fits = release_fits (Departs own) v.0.time v.0.up h.up in
      let drops = release_drops (Departs own) v.0.time v.0.up h.up in
      let start : LinkState = with_up r.lane v.0 in
      let dropped : LinkState = drop_all r.dropped start in
      let over = all_left v.1.wants r.packets (dropped, v.1) fits.0 (home_drop_all r.dropped start (every_with (Departs own) (λ (p : Packet). is_loopback own p ≡ false) r.dropped (λ p c departs. departs_not own p departs) drops) (home_up r.lane v.0 fits.1 h), refl) in
      (home_makes_if r.next what.Up (leave_all net r.packets (dropped, v.1)).0 tt over.0, over.1)

  pub home_wants : (v : Wire) → is_same_ip own loopback ≡ false → AllByRecursion (OwnPacket own) (packets_of v.1) → G v.0 → HomeWire [] (does_wants net own v)
  unfolding does_wants
  home_wants v outside each h = all_done [] v.1.wants (v.0, without_wants v.1) outside each (h, refl)
