-- What events leave of a host's link.
use Rattle.std.proofs.Common.{◌≡◌, List, [], ◌∷◌, refl}
use Rattle.std.specs.List.{AllByRecursion}
use Rattle.sim_base.specs.declared.act.Act.TheVariants.{FullDown}
use Rattle.sim_base.specs.declared.event.Event.{Event}
use Rattle.sim_base.specs.declared.event.What.TheVariants as what
use Rattle.sim_base.specs.declared.packet.Packet.{Packet}
use Rattle.sim_base.specs.declared.time.Time.{Time}
use Rattle.net_iface.specs.Lane.{LaneState, AllFit, pushed, released}
use Rattle.host_calls.specs.Events.{arrives}
use Rattle.host_wants.specs.Wanted.{without_wants}
use Rattle.host_link.specs.declared.line.Line.{Line}
use Rattle.host_link.specs.Net.{Net}
use Rattle.host_link.specs.Wants.{does_wants}
use Rattle.host_link.specs.Lanes.{with_down}
use Rattle.host_link.specs.Link.{later, logs}
use Rattle.host_state.specs.Arriving.{is_handed_over, comes_to_router, down_comes}
use Rattle.host_state.specs.Fire.{at_time, has_acted, fire}
use Rattle.host_state.specs.Host.{with_link, with_parts, wire_of, does_wanted}
use Rattle.host_state.specs.HostRecord.{HostRecord}
use Rattle.host_laws.proofs.Walks.{HandsKeep, StepsKeep, router_keeps, down_keeps, event_keeps}
use Rattle.capture_laws.proofs.Lanes.{IsSmall, pushed_fits, left_fits}
use Rattle.capture_laws.proofs.Keeping.{FitsLoop, IsSmallLoop, IsAt, Keeps, makes_keep, makes_if_keep, logs_keep, drop_all_keep, up_comes_keep, wants_keep}

module _ (now : Time) (net : Net) where
  abbrev H : HostRecord → Type 0
  H h = Keeps now h.link

  doing_wanted : (h : HostRecord) → H h → H (does_wanted net h)
  unfolding does_wanted does_wants
  doing_wanted h k =
      wants_keep now net h.row.address h.parts.shared.outlet.wants (h.link, without_wants h.parts.shared.outlet) k

  handed : (packet : Packet) (h : HostRecord) → IsSmall packet → H h → H (is_handed_over net packet h)
  unfolding is_handed_over
  handed packet h small k =
      let r = arrives h.link.time packet h.parts in
      doing_wanted (with_parts r.1 (with_link (logs r.0 packet h.link) h)) (logs_keep now h.link r.0 packet small k)

  hands : HandsKeep net IsSmall H
  hands = record {
    handed = λ packet h small k. handed packet h small k;
    full = λ packet h small k. logs_keep now h.link FullDown packet small k;
    next = λ due h k. makes_if_keep now h.link due what.Down tt k;
  }

  -- a lane that holds what fits
  with_lane : (h : HostRecord) (lane : LaneState) → AllFit lane.waiting → H h → Keeps now (with_down lane h.link)
  with_lane h lane fit k = record { time = k.time; up = k.up; down = fit; made = k.made; lines = k.lines }

  coming_to_router : (packet : Packet) (h : HostRecord) → IsSmall packet → H h → H (comes_to_router net packet h)
  coming_to_router packet h small k =
      let fits = pushed_fits h.link.time packet h.link.down small k.down in
      router_keeps net IsSmall H hands packet h (fits.0, with_lane h (pushed h.link.time packet h.link.down).1 fits.1 k)

  coming_down : (h : HostRecord) → H h → H (down_comes net h)
  coming_down h k =
      let r = released h.link.time h.link.down in
      let fits = left_fits h.link.time h.link.down k.down in
      down_keeps net IsSmall H hands h
      (fits.packets, drop_all_keep now net r.dropped (with_down r.lane h.link) fits.dropped (with_lane h r.lane fits.waiting k))

  steps : StepsKeep net FitsLoop H
  steps = record {
    acted = λ h parts act k. k;
    wanted = λ h k. doing_wanted h k;
    beside = λ processes h k. k;
    pauses = λ nanos p h k. makes_keep now h.link (later h.link.time nanos) (what.Go p) tt k;
    up = λ h k. up_comes_keep now net (wire_of h) k;
    down = λ h fits k. coming_down h k;
    loops = λ packet h small k. handed packet h small k;
    comes = λ packet h fits small k. handed packet h small k;
    routed = λ packet h fits small k. coming_to_router packet h small k;
  }

-- a host between firings
pub record IsIdle (h : HostRecord) : Type 0 where
  pub up : AllFit h.link.up.waiting
  pub down : AllFit h.link.down.waiting
  pub made : h.link.made ≡ []
  pub lines : h.link.lines ≡ []

none_made : (es : List Event) → es ≡ [] → AllByRecursion IsSmallLoop es
none_made [] is = tt
none_made (e ∷ es) is = absurd (cc)

none_logged : (now : Time) (ls : List Line) → ls ≡ [] → AllByRecursion (IsAt now) ls
none_logged now [] is = tt
none_logged now (l ∷ ls) is = absurd (cc)

pub has_kept : (net : Net) (e : Event) (h : HostRecord) → FitsLoop e.what → IsIdle h → Keeps e.key.due (has_acted net e h).link
has_kept net e h fits idle =
    let now = e.key.due in
    let first : Keeps now (at_time now h).link = record { time = refl; up = idle.up; down = idle.down; made = none_made h.link.made idle.made; lines = none_logged now h.link.lines idle.lines } in
    event_keeps net FitsLoop (λ (k : HostRecord). Keeps now k.link) (steps now net) e h fits first

pub fired_idle : (net : Net) (e : Event) (h : HostRecord) → FitsLoop e.what → IsIdle h → IsIdle (fire net h e).host
fired_idle net e h fits idle =
    let k = has_kept net e h fits idle in
    record { up = k.up; down = k.down; made = refl; lines = refl }
