-- what acts leave of a link: lanes, events and lines of whole packets
use Rattle.std.proofs.Common.{Bool, List, [], None, Option, Some, nat_le, nat_lt, ℕ, ◌||◌, ◌∷◌}
use Rattle.pcap_text.specs.Laws.{IsWhole}
use Rattle.run_fits.proofs.Bytes.{all_append}
use Rattle.host_laws.proofs.Walks.{PushIs}
use Rattle.run_fits.proofs.Lanes.{AllWait, left_whole, pushed_whole}
use Rattle.run_fits.specs.Packets.{AreWhole, WantFits, WantsFit}
use Rattle.tcp_laws.proofs.Tests.{by_test}
use Rattle.host_wants.specs.declared.outlet.Want.TheVariants as want
use Rattle.net_iface.specs.Lane.{pushed, released}
use Rattle.std.specs.List.{AllByRecursion}
use Rattle.sim_base.specs.declared.act.Act.{Act}
use Rattle.sim_base.specs.declared.act.Act.TheVariants.{Send, Lost, FullUp, Codel}
use Rattle.sim_base.specs.declared.address.Ip.{Ip}
use Rattle.sim_base.specs.declared.event.Event.{Event}
use Rattle.sim_base.specs.declared.event.What.{What}
use Rattle.sim_base.specs.declared.event.What.TheVariants as what
use Rattle.sim_base.specs.declared.packet.Packet.{Packet}
use Rattle.sim_base.specs.declared.size.TheConstants.{MAX_PACKET}
use Rattle.sim_base.specs.declared.time.Time.{Time}
use Rattle.sim_base.specs.Packet.{packet_size}
use Rattle.sim_base.specs.Units.{max_u64}
use Rattle.gml_graph.specs.Edges.{lossless}
use Rattle.net_iface.specs.declared.lane.Pushed.{Pushed}
use Rattle.net_iface.specs.declared.lane.Pushed.TheVariants.{Leaves, Waits, Dropped}
use Rattle.host_wants.specs.declared.outlet.Want.{Want}
use Rattle.host_wants.specs.Wanted.{Wanted, draws_word}
use Rattle.host_link.specs.declared.line.Line.{Line}
use Rattle.host_link.specs.Net.{Net}
use Rattle.host_link.specs.Wants.{does_want, does_all}
use Rattle.host_link.specs.Lanes.{with_up}
use Rattle.host_link.specs.Link.{LinkState, numbers, makes, later, not_before_next, event_of, logs}
use Rattle.host_link.specs.Sending.{Wire, route_to, is_bootstrapping, loses, takes_its_chance, takes_route, takes_route_if, leaves, leave_all, makes_if, goes_on, goes_up, stays_here, loops, sends, drop_all, up_comes}

-- an event that brings a packet brings a whole one
abbrev pub WhatFits : What → Type 0
WhatFits (what.Loop packet) = IsWhole packet
WhatFits (what.Packet packet) = IsWhole packet
WhatFits _ = Unit {0}

abbrev pub EventFits : Event → Type 0
EventFits e = WhatFits e.what

abbrev pub LineFits : Line → Type 0
LineFits l = IsWhole l.packet

abbrev pub LinkFits : LinkState → Type 0
LinkFits l = AllWait l.up.waiting × AllWait l.down.waiting × AllByRecursion EventFits l.made × AllByRecursion LineFits l.lines

-- a link with what is wanted
abbrev pub WireFits : Wire → Type 0
WireFits w = LinkFits w.0 × WantsFit w.1

pub numbers_fit : (l : LinkState) (due : Time) (w : What) → WhatFits w → LinkFits l → LinkFits (numbers due w l)
unfolding numbers
numbers_fit l due w fits h =
    by_test LinkFits (nat_lt l.next max_u64) _ _
    (λ e. (h.0, h.1, all_append EventFits l.made (event_of l due w ∷ []) h.2 (fits, tt), h.3))
    (λ e. h)

pub makes_fit : (l : LinkState) (due : Time) (w : What) → WhatFits w → LinkFits l → LinkFits (makes due w l)
makes_fit l due w fits h = numbers_fit l (not_before_next l.time due) w fits h

pub makes_if_fit : (l : LinkState) (due : Option Time) (w : What) → WhatFits w → LinkFits l → LinkFits (makes_if due w l)
makes_if_fit l None w fits h = h
makes_if_fit l (Some due) w fits h = makes_fit l due w fits h

pub logs_fit : (l : LinkState) (act : Act) (packet : Packet) → IsWhole packet → LinkFits l → LinkFits (logs act packet l)
unfolding logs
logs_fit l act packet whole h = (h.0, h.1, h.2, all_append LineFits l.lines (record { time = l.time; host = record { index = l.number }; act = act; packet = packet } ∷ []) h.3 (whole, tt))

-- ---- a packet leaves

chance_fits : (l : LinkState) (route : Time × ℕ) (packet : Packet) (t : ℕ × Wanted) → IsWhole packet → WireFits (l, t.1) → WireFits (takes_its_chance route packet l t)
chance_fits l route packet t whole h = (
  by_test LinkFits (loses route.1 t.0) _ _
      (λ e. logs_fit l Lost packet whole h.0)
      (λ e. makes_fit l (later l.time route.0.nanos) (what.Packet packet) whole h.0),
  h.1,
)

route_fits : (sure : Bool) (route : Time × ℕ) (packet : Packet) (w : Wire) → IsWhole packet → WireFits w → WireFits (takes_route sure route packet w)
unfolding takes_route
route_fits sure route packet w whole h =
    by_test WireFits (sure || nat_le lossless route.1) _ _
    (λ e. (makes_fit w.0 (later w.0.time route.0.nanos) (what.Packet packet) whole h.0, h.1))
    (λ e. chance_fits w.0 route packet (draws_word w.1) whole h)

route_if_fits : (sure : Bool) (found : Option (Time × ℕ)) (packet : Packet) (w : Wire) → IsWhole packet → WireFits w → WireFits (takes_route_if sure found packet w)
route_if_fits sure None packet w whole h = h
route_if_fits sure (Some route) packet w whole h = route_fits sure route packet w whole h

module _ (net : Net) where
  leaves_fit : (packet : Packet) (w : Wire) → IsWhole packet → WireFits w → WireFits (leaves net packet w)
  unfolding leaves
  leaves_fit packet w whole h =
      route_if_fits (is_bootstrapping net w.0.time) (route_to net w.0.number packet.to.ip) packet (logs Send packet w.0, w.1) whole (logs_fit w.0 Send packet whole h.0, h.1)

  leave_all_fit : (packets : List Packet) (w : Wire) → AreWhole packets → WireFits w → WireFits (leave_all net packets w)
  unfolding leave_all
  leave_all_fit [] w whole h = h
  leave_all_fit (p ∷ packets) w whole h = leave_all_fit packets (leaves net p w) whole.1 (leaves_fit p w whole.0 h)

  goes_on_fits : (pushed : Pushed) (w : Wire) → PushIs IsWhole pushed → WireFits w → WireFits (goes_on net pushed w)
  goes_on_fits (Leaves p) w whole h = leaves_fit p w whole h
  goes_on_fits (Waits due) w whole h = (makes_if_fit w.0 due what.Up tt h.0, h.1)
  goes_on_fits (Dropped p) w whole h = (logs_fit w.0 FullUp p whole h.0, h.1)

  pub drop_all_fit : (packets : List Packet) (l : LinkState) → AreWhole packets → LinkFits l → LinkFits (drop_all packets l)
  unfolding drop_all
  drop_all_fit [] l whole h = h
  drop_all_fit (p ∷ packets) l whole h = drop_all_fit packets (logs Codel p l) whole.1 (logs_fit l Codel p whole.0 h)

  goes_up_fits : (packet : Packet) (w : Wire) → IsWhole packet → WireFits w → WireFits (goes_up net packet w)
  unfolding goes_up
  goes_up_fits packet w whole h =
      let t = pushed w.0.time packet w.0.up in
      let put = pushed_whole w.0.time packet w.0.up whole h.0.0 in
      by_test WireFits (is_bootstrapping net w.0.time) _ _
      (λ e. leaves_fit packet w whole h)
      (λ e. goes_on_fits t.0 (with_up t.1 w.0, w.1) put.0 ((put.1, h.0.1, h.0.2, h.0.3), h.1))

  loops_fit : (packet : Packet) (l : LinkState) → IsWhole packet → LinkFits l → LinkFits (loops packet l)
  loops_fit packet l whole h =
      makes_fit (logs Send packet l) (later l.time 1) (what.Loop packet) whole (logs_fit l Send packet whole h)

  sends_wire : (own : Ip) (packet : Packet) (w : Wire) → IsWhole packet → WireFits w → WireFits (sends net own packet w)
  unfolding sends
  sends_wire own packet w whole h =
      by_test WireFits (nat_lt MAX_PACKET (packet_size packet)) _ _
      (λ e. h)
      (λ e. by_test WireFits (stays_here own packet) _ _ (λ k. (loops_fit packet w.0 whole h.0, h.1)) (λ k. goes_up_fits packet w whole h))

  pub up_fits : (w : Wire) → WireFits w → WireFits (up_comes net w)
  unfolding up_comes
  up_fits w h =
      let r = released w.0.time w.0.up in
      let left = left_whole w.0.time w.0.up h.0.0 in
      let start : LinkState = with_up r.lane w.0 in
      let dropped : LinkState = drop_all r.dropped start in
      let k = leave_all_fit r.packets (dropped, w.1) left.0 (drop_all_fit r.dropped start left.1 (left.2, h.0.1, h.0.2, h.0.3), h.1) in
      (makes_if_fit _ r.next what.Up tt k.0, k.1)

  pub wants_done : (own : Ip) (wants : List Want) (w : Wire) → AllByRecursion WantFits wants → WireFits w → WireFits (does_all net own wants w)
  unfolding does_all does_want
  wants_done own [] w wanted h = h
  wants_done own (want.Send p ∷ wants) w wanted h = wants_done own wants (sends net own p w) wanted.1 (sends_wire own p w wanted.0 h)
  wants_done own (want.Alarm target serial due ∷ wants) w wanted h =
      wants_done own wants (makes due (what.Alarm target serial) w.0, w.1) wanted.1 (makes_fit w.0 due (what.Alarm target serial) tt h.0, h.1)
