-- What acts leave of a link: lanes of packets that are not too large, and lines of such packets at the link's time.
use Rattle.std.proofs.Common.{◌≡◌, ℕ, ◌≤◌, ◌||◌, Bool, List, [], ◌∷◌, Option, Some, None, nat_lt, nat_le, rules, tests}
use Rattle.std.specs.List.{AllByRecursion}
use Rattle.sim_base.specs.declared.act.Act.{Act}
use Rattle.sim_base.specs.declared.act.Act.TheVariants.{Send, Lost, FullUp, Codel}
use Rattle.sim_base.specs.declared.address.Ip.{Ip}
use Rattle.sim_base.specs.declared.event.Event.{Event}
use Rattle.sim_base.specs.declared.event.What.{What}
use Rattle.sim_base.specs.declared.event.What.TheVariants as what
use Rattle.sim_base.specs.declared.packet.Packet.{Packet}
use Rattle.sim_base.specs.declared.size.TheConstants.{MAX_PACKET}
use Rattle.sim_base.specs.declared.time.Time.{Time}
use Rattle.sim_base.specs.Packet.{packet_size}
use Rattle.sim_base.specs.Units.{max_u64}
use Rattle.gml_graph.specs.Edges.{lossless}
use Rattle.net_iface.specs.declared.lane.Pushed.{Pushed}
use Rattle.net_iface.specs.declared.lane.Pushed.TheVariants.{Leaves, Waits, Dropped}
use Rattle.net_iface.specs.Lane.{AllFit, pushed, released}
use Rattle.host_wants.specs.declared.outlet.Want.{Want}
use Rattle.host_wants.specs.declared.outlet.Want.TheVariants as wanted
use Rattle.host_wants.specs.Wanted.{Wanted, draws_word}
use Rattle.host_link.specs.declared.line.Line.{Line}
use Rattle.host_link.specs.Net.{Net}
use Rattle.host_link.specs.Wants.{does_want, does_all}
use Rattle.host_link.specs.Lanes.{with_up}
use Rattle.host_link.specs.Link.{LinkState, numbers, makes, later, not_before_next, event_of, logs}
use Rattle.host_link.specs.Sending.{Wire, route_to, is_bootstrapping, loses, takes_its_chance, takes_route, takes_route_if, leaves, leave_all, makes_if, goes_on, goes_up, stays_here, loops, sends, drop_all, up_comes}
use Rattle.host_state.proofs.Growth.{by_if}
use Rattle.host_laws.proofs.Walks.{PushIs}
use Rattle.run_fits.proofs.Bytes.{all_append}
use Rattle.capture_laws.proofs.Lanes.{IsSmall, pushed_fits, left_fits}

-- what comes past the network is not too large
abbrev pub FitsLoop : What → Type 0
FitsLoop (what.Loop packet) = packet_size packet ≤ MAX_PACKET
FitsLoop _ = Unit {0}

abbrev pub IsSmallLoop : Event → Type 0
IsSmallLoop e = FitsLoop e.what

pub record IsAt (now : Time) (line : Line) : Type 0 where
  pub time : line.time ≡ now
  pub size : packet_size line.packet ≤ MAX_PACKET

pub record Keeps (now : Time) (l : LinkState) : Type 0 where
  pub time : l.time ≡ now
  pub up : AllFit l.up.waiting
  pub down : AllFit l.down.waiting
  pub made : AllByRecursion IsSmallLoop l.made
  pub lines : AllByRecursion (IsAt now) l.lines

module _ (now : Time) where
  abbrev K : LinkState → Type 0
  K l = Keeps now l

  -- of a link with a generator
  abbrev W : Wire → Type 0
  W w = Keeps now w.0

  numbers_keep : (l : LinkState) (due : Time) (w : What) → FitsLoop w → K l → K (numbers due w l)
  unfolding numbers
  numbers_keep l due w fits k =
      by_if K (nat_lt l.next max_u64) _ _
      (λ e. record { time = k.time; up = k.up; down = k.down; made = all_append IsSmallLoop l.made (event_of l due w ∷ []) k.made (fits, tt); lines = k.lines })
      (λ e. k)

  pub makes_keep : (l : LinkState) (due : Time) (w : What) → FitsLoop w → K l → K (makes due w l)
  makes_keep l due w fits k = numbers_keep l (not_before_next l.time due) w fits k

  pub makes_if_keep : (l : LinkState) (due : Option Time) (w : What) → FitsLoop w → K l → K (makes_if due w l)
  makes_if_keep l None w fits k = k
  makes_if_keep l (Some due) w fits k = makes_keep l due w fits k

  pub logs_keep : (l : LinkState) (act : Act) (packet : Packet) → packet_size packet ≤ MAX_PACKET → K l → K (logs act packet l)
  unfolding logs
  logs_keep l act packet small k = record {
    time = k.time;
    up = k.up;
    down = k.down;
    made = k.made;
    lines = all_append (IsAt now) l.lines (record { time = l.time; host = record { index = l.number }; act = act; packet = packet } ∷ []) k.lines
        (record { time = k.time; size = small }, tt);
  }

  -- a packet leaves
  chance_keep : (l : LinkState) (route : Time × ℕ) (packet : Packet) (t : ℕ × Wanted) → packet_size packet ≤ MAX_PACKET → K l → K (takes_its_chance route packet l t).0
  chance_keep l route packet t small k =
      by_if K (loses route.1 t.0) _ _ (λ e. logs_keep l Lost packet small k) (λ e. makes_keep l (later l.time route.0.nanos) (what.Packet packet) tt k)

  route_keep : (sure : Bool) (route : Time × ℕ) (packet : Packet) (w : Wire) → packet_size packet ≤ MAX_PACKET → W w → W (takes_route sure route packet w)
  unfolding takes_route
  route_keep sure route packet w small k =
      by_if W (sure || nat_le lossless route.1) _ _
      (λ e. makes_keep w.0 (later w.0.time route.0.nanos) (what.Packet packet) tt k)
      (λ e. chance_keep w.0 route packet (draws_word w.1) small k)

  route_if_keep : (sure : Bool) (found : Option (Time × ℕ)) (packet : Packet) (w : Wire) → packet_size packet ≤ MAX_PACKET → W w → W (takes_route_if sure found packet w)
  route_if_keep sure None packet w small k = k
  route_if_keep sure (Some route) packet w small k = route_keep sure route packet w small k

  module _ (net : Net) where
    leaves_keep : (packet : Packet) (w : Wire) → packet_size packet ≤ MAX_PACKET → W w → W (leaves net packet w)
    unfolding leaves
    leaves_keep packet w small k =
        route_if_keep (is_bootstrapping net w.0.time) (route_to net w.0.number packet.to.ip) packet (logs Send packet w.0, w.1) small (logs_keep w.0 Send packet small k)

    leave_all_keep : (packets : List Packet) (w : Wire) → AllByRecursion IsSmall packets → W w → W (leave_all net packets w)
    unfolding leave_all
    leave_all_keep [] w small k = k
    leave_all_keep (p ∷ ps) w small k = leave_all_keep ps (leaves net p w) small.1 (leaves_keep p w small.0 k)

    goes_on_keep : (pushed : Pushed) (w : Wire) → PushIs IsSmall pushed → W w → W (goes_on net pushed w)
    goes_on_keep (Leaves p) w small k = leaves_keep p w small k
    goes_on_keep (Waits due) w small k = makes_if_keep w.0 due what.Up tt k
    goes_on_keep (Dropped p) w small k = logs_keep w.0 FullUp p small k

    pub drop_all_keep : (packets : List Packet) (l : LinkState) → AllByRecursion IsSmall packets → K l → K (drop_all packets l)
    unfolding drop_all
    drop_all_keep [] l small k = k
    drop_all_keep (p ∷ ps) l small k = drop_all_keep ps (logs Codel p l) small.1 (logs_keep l Codel p small.0 k)

    goes_up_keep : (packet : Packet) (w : Wire) → packet_size packet ≤ MAX_PACKET → W w → W (goes_up net packet w)
    unfolding goes_up
    goes_up_keep packet w small k =
        let t = pushed w.0.time packet w.0.up in
        let fits = pushed_fits w.0.time packet w.0.up small k.up in
        by_if W (is_bootstrapping net w.0.time) _ _
        (λ e. leaves_keep packet w small k)
        (λ e. goes_on_keep t.0 (with_up t.1 w.0, w.1) fits.0 (record { time = k.time; up = fits.1; down = k.down; made = k.made; lines = k.lines }))

    loops_keep : (packet : Packet) (l : LinkState) → packet_size packet ≤ MAX_PACKET → K l → K (loops packet l)
    loops_keep packet l small k =
        makes_keep (logs Send packet l) (later l.time 1) (what.Loop packet) small (logs_keep l Send packet small k)

    sends_keep : (own : Ip) (packet : Packet) (w : Wire) → W w → W (sends net own packet w)
    unfolding sends
    sends_keep own packet w k =
        by_if W (nat_lt MAX_PACKET (packet_size packet)) _ _ (λ e. k)
        (λ is.
        let small : packet_size packet ≤ MAX_PACKET = search (rules, tests) in
        by_if W (stays_here own packet) _ _ (λ e. loops_keep packet w.0 small k) (λ e. goes_up_keep packet w small k))

    pub up_comes_keep : (w : Wire) → W w → W (up_comes net w)
    unfolding up_comes
    up_comes_keep w k =
        let r = released w.0.time w.0.up in
        let fits = left_fits w.0.time w.0.up k.up in
        let start : LinkState = with_up r.lane w.0 in
        let dropped : LinkState = drop_all r.dropped start in
        let begun : K start = record { time = k.time; up = fits.waiting; down = k.down; made = k.made; lines = k.lines } in
        makes_if_keep _ r.next what.Up tt
        (leave_all_keep r.packets (dropped, w.1) fits.packets (drop_all_keep r.dropped start fits.dropped begun))

    pub wants_keep : (own : Ip) (wants : List Want) (w : Wire) → W w → W (does_all net own wants w)
    unfolding does_all does_want
    wants_keep own [] w k = k
    wants_keep own (wanted.Send p ∷ ws) w k = wants_keep own ws (sends net own p w) (sends_keep own p w k)
    wants_keep own (wanted.Alarm target serial due ∷ ws) w k =
        wants_keep own ws (makes due (what.Alarm target serial) w.0, w.1) (makes_keep w.0 due (what.Alarm target serial) tt k)
