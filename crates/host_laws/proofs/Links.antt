-- What acts leave of a link.
use Rattle.std.proofs.Common.{◌≡◌, ℕ, ◌≤◌, ◌||◌, Bool, true, false, List, [], ◌∷◌, ◌++◌, Option, Some, None, nat_lt, nat_le, refl, sym, ap, ◌∙◌, append_assoc, append-nil, arith}
use Rattle.std.specs.Prelude.{if◌then◌else◌}
use Rattle.sim_base.specs.declared.act.Act.{Act}
use Rattle.sim_base.specs.declared.act.Act.TheVariants.{Send, Lost, FullUp, Codel}
use Rattle.sim_base.specs.declared.address.Ip.{Ip}
use Rattle.sim_base.specs.declared.event.Event.{Event}
use Rattle.sim_base.specs.declared.event.What.{What}
use Rattle.sim_base.specs.declared.event.What.TheVariants as what
use Rattle.sim_base.specs.declared.packet.Packet.{Packet}
use Rattle.sim_base.specs.declared.size.TheConstants.{MAX_PACKET}
use Rattle.sim_base.specs.declared.time.Time.{Time}
use Rattle.sim_base.specs.Packet.{packet_size}
use Rattle.sim_base.specs.Units.{max_u64}
use Rattle.gml_graph.specs.Edges.{lossless}
use Rattle.net_iface.specs.declared.lane.Pushed.{Pushed}
use Rattle.net_iface.specs.declared.lane.Pushed.TheVariants.{Leaves, Waits, Dropped}
use Rattle.net_iface.specs.Lane.{pushed, released}
use Rattle.host_wants.specs.declared.outlet.Want.{Want}
use Rattle.host_wants.specs.declared.outlet.Want.TheVariants as wanted
use Rattle.host_wants.specs.Wanted.{Wanted, draws_word}
use Rattle.host_link.specs.Net.{Net}
use Rattle.host_link.specs.Wants.{does_want, does_all}
use Rattle.host_link.specs.Lanes.{with_up}
use Rattle.host_link.specs.Link.{LinkState, numbers, makes, later, not_before_next, event_of, logs}
use Rattle.host_link.specs.Sending.{Wire, route_to, is_bootstrapping, loses, travels, takes_its_chance, takes_route, takes_route_if, leaves, leave_all, makes_if, goes_on, goes_up, stays_here, loops, sends, drop_all, up_comes}

-- its number and its time stay, it has made more events, and its next number is no smaller
pub record IsLater (l m : LinkState) : Type 0 where
  pub number : m.number ≡ l.number
  pub time : m.time ≡ l.time
  pub more : List Event
  pub made : m.made ≡ l.made ++ more
  pub next : l.next ≤ m.next

pub stays : (l : LinkState) → IsLater l l
stays l = record { number = refl; time = refl; more = []; made = sym (append-nil l.made); next = omega arith }

pub then_later : (l m n : LinkState) → IsLater l m → IsLater m n → IsLater l n
then_later l m n first second = record {
  number = second.number ∙ first.number;
  time = second.time ∙ first.time;
  more = first.more ++ second.more;
  made = second.made ∙ (ap (λ (es : List Event). es ++ second.more) first.made ∙ append_assoc l.made first.more second.more);
  next = omega (arith, first.next, second.next);
}

pub by_if : {A : Type 0} (P : A → Type 0) (b : Bool) (x y : A) → (b ≡ true → P x) → (b ≡ false → P y) → P (if b then x else y)
by_if P true x y h k = h refl
by_if P false x y h k = k refl

-- an event is made
made_later : (l : LinkState) (due : Time) (w : What) → IsLater l (numbers due w l)
unfolding numbers
made_later l due w =
    by_if (IsLater l) (nat_lt l.next max_u64) _ _
    (λ e. record { number = refl; time = refl; more = event_of l due w ∷ []; made = refl; next = omega arith })
    (λ e. stays l)

pub makes_later : (l : LinkState) (due : Time) (w : What) → IsLater l (makes due w l)
makes_later l due w = made_later l (not_before_next l.time due) w

pub makes_if_later : (l : LinkState) (due : Option Time) (w : What) → IsLater l (makes_if due w l)
makes_if_later l None w = stays l
makes_if_later l (Some due) w = makes_later l due w

pub logs_later : (l : LinkState) (act : Act) (packet : Packet) → IsLater l (logs act packet l)
unfolding logs
logs_later l act packet = record { number = refl; time = refl; more = []; made = sym (append-nil l.made); next = omega arith }

-- a packet leaves
travels_later : (l : LinkState) (latency : Time) (packet : Packet) → IsLater l (travels latency packet l)
travels_later l latency packet = makes_later l (later l.time latency.nanos) (what.Packet packet)

chance_later : (l : LinkState) (route : Time × ℕ) (packet : Packet) (t : ℕ × Wanted) → IsLater l (takes_its_chance route packet l t).0
chance_later l route packet t =
    by_if (IsLater l) (loses route.1 t.0) _ _ (λ e. logs_later l Lost packet) (λ e. travels_later l route.0 packet)

route_later : (sure : Bool) (route : Time × ℕ) (packet : Packet) (w : Wire) → IsLater w.0 (takes_route sure route packet w).0
unfolding takes_route
route_later sure route packet w =
    by_if (λ (v : Wire). IsLater w.0 v.0) (sure || nat_le lossless route.1) _ _
    (λ e. travels_later w.0 route.0 packet)
    (λ e. chance_later w.0 route packet (draws_word w.1))

route_if_later : (sure : Bool) (found : Option (Time × ℕ)) (packet : Packet) (w : Wire) → IsLater w.0 (takes_route_if sure found packet w).0
route_if_later sure None packet w = stays w.0
route_if_later sure (Some route) packet w = route_later sure route packet w

module _ (net : Net) where
  leaves_later : (packet : Packet) (w : Wire) → IsLater w.0 (leaves net packet w).0
  unfolding leaves
  leaves_later packet w =
      let l : LinkState = logs Send packet w.0 in
      then_later w.0 l _ (logs_later w.0 Send packet) (route_if_later (is_bootstrapping net w.0.time) (route_to net w.0.number packet.to.ip) packet (l, w.1))

  leave_all_later : (packets : List Packet) (w : Wire) → IsLater w.0 (leave_all net packets w).0
  unfolding leave_all
  leave_all_later [] w = stays w.0
  leave_all_later (p ∷ ps) w = then_later w.0 (leaves net p w).0 _ (leaves_later p w) (leave_all_later ps (leaves net p w))

  pub drop_all_later : (packets : List Packet) (l : LinkState) → IsLater l (drop_all packets l)
  unfolding drop_all
  drop_all_later [] l = stays l
  drop_all_later (p ∷ ps) l = then_later l (logs Codel p l) _ (logs_later l Codel p) (drop_all_later ps (logs Codel p l))

  goes_on_later : (pushed : Pushed) (w : Wire) → IsLater w.0 (goes_on net pushed w).0
  goes_on_later (Leaves p) w = leaves_later p w
  goes_on_later (Waits due) w = makes_if_later w.0 due what.Up
  goes_on_later (Dropped p) w = logs_later w.0 FullUp p

  -- a lane is no part of what stays
  goes_up_later : (packet : Packet) (w : Wire) → IsLater w.0 (goes_up net packet w).0
  unfolding goes_up
  goes_up_later packet w =
      let t = pushed w.0.time packet w.0.up in
      let start : LinkState = with_up t.1 w.0 in
      by_if (λ (v : Wire). IsLater w.0 v.0) (is_bootstrapping net w.0.time) _ _
      (λ e. leaves_later packet w)
      (λ e. then_later w.0 start _ (record { number = refl; time = refl; more = []; made = sym (append-nil w.0.made); next = omega arith }) (goes_on_later t.0 (start, w.1)))

  loops_later : (packet : Packet) (l : LinkState) → IsLater l (loops packet l)
  loops_later packet l =
      then_later l (logs Send packet l) _ (logs_later l Send packet) (makes_later (logs Send packet l) (later l.time 1) (what.Loop packet))

  sends_later : (own : Ip) (packet : Packet) (w : Wire) → IsLater w.0 (sends net own packet w).0
  unfolding sends
  sends_later own packet w =
      by_if (λ (v : Wire). IsLater w.0 v.0) (nat_lt MAX_PACKET (packet_size packet)) _ _
      (λ e. stays w.0)
      (λ e. by_if (λ (v : Wire). IsLater w.0 v.0) (stays_here own packet) _ _ (λ k. loops_later packet w.0) (λ k. goes_up_later packet w))

  pub up_comes_later : (w : Wire) → IsLater w.0 (up_comes net w).0
  unfolding up_comes
  up_comes_later w =
      let r = released w.0.time w.0.up in
      let start : LinkState = with_up r.lane w.0 in
      let dropped : LinkState = drop_all r.dropped start in
      then_later w.0 start _ (record { number = refl; time = refl; more = []; made = sym (append-nil w.0.made); next = omega arith })
      (then_later start dropped _ (drop_all_later r.dropped start)
      (then_later dropped (leave_all net r.packets (dropped, w.1)).0 _ (leave_all_later r.packets (dropped, w.1)) (makes_if_later _ r.next what.Up)))

  pub wants_later : (own : Ip) (wants : List Want) (w : Wire) → IsLater w.0 (does_all net own wants w).0
  unfolding does_all does_want
  wants_later own [] w = stays w.0
  wants_later own (wanted.Send p ∷ ws) w =
      then_later w.0 (sends net own p w).0 _ (sends_later own p w) (wants_later own ws (sends net own p w))
  wants_later own (wanted.Alarm target serial due ∷ ws) w =
      let m : LinkState = makes due (what.Alarm target serial) w.0 in
      then_later w.0 m _ (makes_later w.0 due (what.Alarm target serial)) (wants_later own ws (m, w.1))
