-- the packets of a link: what it sends, keeps and makes came from what it had; what it sends to the network is for another host
use Rattle.std.proofs.Common.{◌≡◌, ⊎_elim, ℕ, ◌||◌, Bool, false, nat_lt, nat_le, List, [], ◌∷◌, ◌++◌, Contains, Option, Some, None, refl, subst}
use Rattle.std.proofs.lemmas.List.Elements.{Contains-append_left, Contains-append_right, Contains-append_cases}
use Rattle.sim_base.specs.Packet.{packet_size}
use Rattle.sim_base.specs.Units.{max_u64}
use Rattle.sim_base.specs.declared.act.Act.{Act}
use Rattle.sim_base.specs.declared.act.Act.TheVariants.{Send, Lost, FullUp, Codel}
use Rattle.sim_base.specs.declared.address.Ip.{Ip}
use Rattle.sim_base.specs.declared.event.Event.{Event}
use Rattle.sim_base.specs.declared.event.What.{What}
use Rattle.sim_base.specs.declared.event.What.TheVariants as what
use Rattle.sim_base.specs.declared.packet.Packet.{Packet}
use Rattle.sim_base.specs.declared.size.TheConstants.{MAX_PACKET}
use Rattle.sim_base.specs.declared.time.Time.{Time}
use Rattle.gml_graph.specs.Edges.{lossless}
use Rattle.net_iface.specs.declared.lane.Pushed.{Pushed}
use Rattle.net_iface.specs.declared.lane.Pushed.TheVariants.{Leaves, Waits, Dropped}
use Rattle.net_iface.specs.declared.lane.Waiting.{Waiting}
use Rattle.net_iface.specs.Lane.{LaneState, pushed, released}
use Rattle.tcp_laws.proofs.Tests.{by_test}
use Rattle.host_wants.specs.declared.outlet.Want.{Want}
use Rattle.host_wants.specs.declared.outlet.Want.TheVariants as wanted
use Rattle.host_wants.specs.Wanted.{Wanted, draws_word, without_wants}
use Rattle.host_link.specs.Net.{Net}
use Rattle.host_link.specs.Wants.{does_want, does_all, does_wants}
use Rattle.host_link.specs.Lanes.{with_up, with_down}
use Rattle.host_link.specs.Link.{LinkState, event_of, not_before_next, numbers, makes, later, logs}
use Rattle.host_link.specs.Sending.{Wire, route_to, is_bootstrapping, loses, takes_its_chance, takes_route, takes_route_if, leaves, leave_all, makes_if, goes_on, goes_up, stays_here, loops, sends, drop_all, up_comes}
use Rattle.run_streams.specs.Exchanges.{carried_by, carried, packets_carried, waiting_in, link_packets}
use Rattle.run_streams.proofs.Every.{Every, every_append, every_with, mapped, every_mapped, given, every_given}
use Rattle.run_streams.proofs.Lanes.{EachWaits, PushFits, push_fits, release_fits}

-- a packet for another host
abbrev pub IsAway : Ip → Packet → Type 0
IsAway own p = stays_here own p ≡ false

-- an event that a host makes
abbrev pub FitsMade : (Packet → Type 0) → Ip → What → Type 0
FitsMade S own (what.Packet packet) = S packet × IsAway own packet
FitsMade S own (what.Loop packet) = S packet
FitsMade S own (what.Start p) = Unit {0}
FitsMade S own (what.Go p) = Unit {0}
FitsMade S own (what.Shutdown p) = Unit {0}
FitsMade S own (what.Alarm target serial) = Unit {0}
FitsMade S own what.Up = Unit {0}
FitsMade S own what.Down = Unit {0}

abbrev pub IsMade : (Packet → Type 0) → Ip → ℕ → Event → Type 0
IsMade S own n e = (e.key.source.index ≡ n) × FitsMade S own e.what

-- all that a link has
pub record Carries (S : Packet → Type 0) (own : Ip) (n : ℕ) (l : LinkState) : Type 0 where
  pub number : l.number ≡ n
  pub up : EachWaits (λ p. S p × IsAway own p) l.up.waiting
  pub down : EachWaits S l.down.waiting
  pub made : Every (IsMade S own n) l.made

abbrev pub Any : Packet → Type 0
Any p = Unit {0}

-- what a made event carries
made_carries : (S : Packet → Type 0) (own : Ip) (w : What) (p : Packet) → FitsMade S own w → carried_by w ≡ Some p → S p
made_carries S own (what.Packet packet) p h e = let same : packet ≡ p = cc in subst S same h.0
made_carries S own (what.Loop packet) p h e = let same : packet ≡ p = cc in subst S same h
made_carries S own (what.Start k) p h e = cc
made_carries S own (what.Go k) p h e = cc
made_carries S own (what.Shutdown k) p h e = cc
made_carries S own (what.Alarm target serial) p h e = cc
made_carries S own what.Up p h e = cc
made_carries S own what.Down p h e = cc

made_as : (S T : Packet → Type 0) (own : Ip) (w : What) → ((p : Packet) → carried_by w ≡ Some p → T p) → FitsMade S own w → FitsMade T own w
made_as S T own (what.Packet packet) f h = (f packet refl, h.1)
made_as S T own (what.Loop packet) f h = f packet refl
made_as S T own (what.Start k) f h = tt
made_as S T own (what.Go k) f h = tt
made_as S T own (what.Shutdown k) f h = tt
made_as S T own (what.Alarm target serial) f h = tt
made_as S T own what.Up f h = tt
made_as S T own what.Down f h = tt

-- all of it is among the link's packets, and nothing else is
pub link_member : (S : Packet → Type 0) (own : Ip) (n : ℕ) (l : LinkState) (p : Packet) → Carries S own n l → Contains (link_packets l) p → S p
link_member S own n l p h c =
    ⊎_elim
    (λ k. (every_mapped (λ q. S q × IsAway own q) (λ (w : Waiting). w.packet) l.up.waiting p h.up k).0)
    (λ m.
    ⊎_elim
    (λ k. every_mapped S (λ (w : Waiting). w.packet) l.down.waiting p h.down k)
    (λ k. every_given (IsMade S own n) S carried l.made p (λ e made is. made_carries S own e.what p made.1 is) h.made k)
    (Contains-append_cases (waiting_in l.down) (packets_carried l.made) p m))
    (Contains-append_cases (waiting_in l.up) (waiting_in l.down ++ packets_carried l.made) p c)

pub link_as : (S T : Packet → Type 0) (own : Ip) (n : ℕ) (l : LinkState) → ((p : Packet) → Contains (link_packets l) p → T p) → Carries S own n l → Carries T own n l
link_as S T own n l f h =
    let up = waiting_in l.up in
    let down = waiting_in l.down in
    let made = packets_carried l.made in
    record {
      number = h.number;
      up = every_with (λ (w : Waiting). S w.packet × IsAway own w.packet) (λ (w : Waiting). T w.packet × IsAway own w.packet) l.up.waiting
          (λ w c k. (f w.packet (Contains-append_left up (down ++ made) w.packet (mapped (λ (x : Waiting). x.packet) l.up.waiting w c)), k.1))
          h.up;
      down = every_with (λ (w : Waiting). S w.packet) (λ (w : Waiting). T w.packet) l.down.waiting
          (λ w c k. f w.packet (Contains-append_right up (down ++ made) w.packet (Contains-append_left down made w.packet (mapped (λ (x : Waiting). x.packet) l.down.waiting w c))))
          h.down;
      made = every_with (IsMade S own n) (IsMade T own n) l.made
          (λ e c k. (k.0, made_as S T own e.what (λ p is. f p (Contains-append_right up (down ++ made) p (Contains-append_right down made p (given carried l.made e p c is)))) k.1))
          h.made;
    }

module _ (net : Net) (S : Packet → Type 0) (own : Ip) (n : ℕ) where
  abbrev C : LinkState → Type 0
  C l = Carries S own n l

  -- a link, with a generator and these wants
  pub record Wired (wants : List Want) (v : Wire) : Type 0 where
    pub link : C v.0
    pub quiet : v.1.wants ≡ wants

  pub carries_numbers : (due : Time) (w : What) (l : LinkState) → FitsMade S own w → C l → C (numbers due w l)
  unfolding numbers
  carries_numbers due w l fits h =
      by_test C (nat_lt l.next max_u64) _ l
      (λ e. record {
        number = h.number;
        up = h.up;
        down = h.down;
        made = every_append (IsMade S own n) l.made (event_of l due w ∷ []) h.made ((h.number, fits), tt);
      })
      (λ e. h)

  pub carries_makes : (due : Time) (w : What) (l : LinkState) → FitsMade S own w → C l → C (makes due w l)
  carries_makes due w l fits h = carries_numbers (not_before_next l.time due) w l fits h

  pub carries_makes_if : (due : Option Time) (w : What) (l : LinkState) → FitsMade S own w → C l → C (makes_if due w l)
  carries_makes_if None w l fits h = h
  carries_makes_if (Some due) w l fits h = carries_makes due w l fits h

  pub carries_logs : (act : Act) (packet : Packet) (l : LinkState) → C l → C (logs act packet l)
  unfolding logs
  carries_logs act packet l h = record { number = h.number; up = h.up; down = h.down; made = h.made }

  pub carries_up : (lane : LaneState) (l : LinkState) → EachWaits (λ p. S p × IsAway own p) lane.waiting → C l → C (with_up lane l)
  carries_up lane l each h = record { number = h.number; up = each; down = h.down; made = h.made }

  pub carries_down : (lane : LaneState) (l : LinkState) → EachWaits S lane.waiting → C l → C (with_down lane l)
  carries_down lane l each h = record { number = h.number; up = h.up; down = each; made = h.made }

  pub carries_drop_all : (packets : List Packet) (l : LinkState) → C l → C (drop_all packets l)
  unfolding drop_all
  carries_drop_all [] l h = h
  carries_drop_all (p ∷ ps) l h = carries_drop_all ps (logs Codel p l) (carries_logs Codel p l h)

  -- a packet leaves
  chance : (ws : List Want) (route : Time × ℕ) (packet : Packet) (l : LinkState) (t : ℕ × Wanted) → S packet → IsAway own packet → C l → t.1.wants ≡ ws → Wired ws (takes_its_chance route packet l t)
  chance ws route packet l t here away h quiet = record {
    link = by_test C (loses route.1 t.0) _ _ (λ e. carries_logs Lost packet l h) (λ e. carries_makes (later l.time route.0.nanos) (what.Packet packet) l (here, away) h);
    quiet = quiet;
  }

  routed : (ws : List Want) (sure : Bool) (route : Time × ℕ) (packet : Packet) (v : Wire) → S packet → IsAway own packet → Wired ws v → Wired ws (takes_route sure route packet v)
  unfolding takes_route
  routed ws sure route packet v here away h =
      by_test (Wired ws) (sure || nat_le lossless route.1) _ _
      (λ e. record { link = carries_makes (later v.0.time route.0.nanos) (what.Packet packet) v.0 (here, away) h.link; quiet = h.quiet })
      (λ e. chance ws route packet v.0 (draws_word v.1) here away h.link h.quiet)

  routed_if : (ws : List Want) (sure : Bool) (route : Option (Time × ℕ)) (packet : Packet) (v : Wire) → S packet → IsAway own packet → Wired ws v → Wired ws (takes_route_if sure route packet v)
  routed_if ws sure None packet v here away h = h
  routed_if ws sure (Some route) packet v here away h = routed ws sure route packet v here away h

  left : (ws : List Want) (packet : Packet) (v : Wire) → S packet → IsAway own packet → Wired ws v → Wired ws (leaves net packet v)
  unfolding leaves
  left ws packet v here away h =
      routed_if ws (is_bootstrapping net v.0.time) (route_to net v.0.number packet.to.ip) packet (logs Send packet v.0, v.1) here away
      (record { link = carries_logs Send packet v.0 h.link; quiet = h.quiet })

  all_left : (ws : List Want) (packets : List Packet) (v : Wire) → Every (λ p. S p × IsAway own p) packets → Wired ws v → Wired ws (leave_all net packets v)
  unfolding leave_all
  all_left ws [] v each h = h
  all_left ws (p ∷ ps) v each h = all_left ws ps (leaves net p v) each.1 (left ws p v each.0.0 each.0.1 h)

  went_on : (ws : List Want) (t : Pushed) (v : Wire) → PushFits (λ p. S p × IsAway own p) t → Wired ws v → Wired ws (goes_on net t v)
  went_on ws (Leaves packet) v fits h = left ws packet v fits.0 fits.1 h
  went_on ws (Waits due) v fits h = record { link = carries_makes_if due what.Up v.0 tt h.link; quiet = h.quiet }
  went_on ws (Dropped packet) v fits h = record { link = carries_logs FullUp packet v.0 h.link; quiet = h.quiet }

  went_up : (ws : List Want) (packet : Packet) (v : Wire) → S packet → IsAway own packet → Wired ws v → Wired ws (goes_up net packet v)
  unfolding goes_up
  went_up ws packet v here away h =
      by_test (Wired ws) (is_bootstrapping net v.0.time) _ _
      (λ e. left ws packet v here away h)
      (λ e.
      let t = pushed v.0.time packet v.0.up in
      let fits = push_fits (λ p. S p × IsAway own p) v.0.time packet v.0.up (here, away) h.link.up in
      went_on ws t.0 (with_up t.1 v.0, v.1) fits.0 (record { link = carries_up t.1 v.0 fits.1 h.link; quiet = h.quiet }))

  looped : (packet : Packet) (l : LinkState) → S packet → C l → C (loops packet l)
  looped packet l here h =
      carries_makes (later l.time 1) (what.Loop packet) (logs Send packet l) here (carries_logs Send packet l h)

  sent : (ws : List Want) (packet : Packet) (v : Wire) → S packet → Wired ws v → Wired ws (sends net own packet v)
  unfolding sends
  sent ws packet v here h =
      by_test (Wired ws) (nat_lt MAX_PACKET (packet_size packet)) _ _
      (λ e. record { link = h.link; quiet = h.quiet })
      (λ e. by_test (Wired ws) (stays_here own packet) _ _
      (λ k. record { link = looped packet v.0 here h.link; quiet = h.quiet })
      (λ away. went_up ws packet v here away h))

  pub came_up : (ws : List Want) (v : Wire) → Wired ws v → Wired ws (up_comes net v)
  unfolding up_comes
  came_up ws v h =
      let r = released v.0.time v.0.up in
      let fits = release_fits (λ p. S p × IsAway own p) v.0.time v.0.up h.link.up in
      let start : LinkState = with_up r.lane v.0 in
      let dropped : LinkState = drop_all r.dropped start in
      let gone = all_left ws r.packets (dropped, v.1) fits.0 (record { link = carries_drop_all r.dropped start (carries_up r.lane v.0 fits.1 h.link); quiet = h.quiet }) in
      record { link = carries_makes_if r.next what.Up (leave_all net r.packets (dropped, v.1)).0 tt gone.link; quiet = gone.quiet }

  -- what is wanted is done
  abbrev pub FitsWant : Want → Type 0
  FitsWant (wanted.Send packet) = S packet
  FitsWant (wanted.Alarm target serial due) = Unit {0}

  all_done : (ws : List Want) (wants : List Want) (v : Wire) → Every FitsWant wants → Wired ws v → Wired ws (does_all net own wants v)
  unfolding does_all does_want
  all_done ws [] v each h = h
  all_done ws (wanted.Send packet ∷ wants) v each h = all_done ws wants (sends net own packet v) each.1 (sent ws packet v each.0 h)
  all_done ws (wanted.Alarm target serial due ∷ wants) v each h =
      all_done ws wants (makes due (what.Alarm target serial) v.0, v.1) each.1
      (record { link = carries_makes due (what.Alarm target serial) v.0 tt h.link; quiet = h.quiet })

  pub wants_done : (v : Wire) → Every FitsWant v.1.wants → C v.0 → Wired [] (does_wants net own v)
  unfolding does_wants
  wants_done v each h = all_done [] v.1.wants (v.0, without_wants v.1) each (record { link = h; quiet = refl })
