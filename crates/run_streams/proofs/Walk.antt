-- every event at a host
use Rattle.std.proofs.Common.{◌≡◌, ℕ, Bool, List, ◌++◌, Contains, Some, refl}
use Rattle.std.proofs.lemmas.List.Elements.{Contains-append_left, Contains-append_right}
use Rattle.sim_base.specs.declared.act.Act.TheVariants.{FullDown}
use Rattle.sim_base.specs.declared.address.Ip.{Ip}
use Rattle.sim_base.specs.declared.address.Addr.{Addr}
use Rattle.sim_base.specs.declared.event.Event.{Event}
use Rattle.sim_base.specs.declared.event.What.{What}
use Rattle.sim_base.specs.declared.event.What.TheVariants as what
use Rattle.sim_base.specs.declared.packet.Packet.{Packet}
use Rattle.sim_base.specs.declared.time.Time.{Time}
use Rattle.net_iface.specs.declared.lane.Waiting.{Waiting}
use Rattle.net_iface.specs.Lane.{Release, pushed, released}
use Rattle.sock_tcp.specs.connection.Tcb.{Tcb}
use Rattle.host_calls.specs.Parts.{PartsRecord}
use Rattle.host_link.specs.Net.{Net}
use Rattle.host_link.specs.Lanes.{with_down}
use Rattle.host_link.specs.Link.{makes, later, logs, comes_to}
use Rattle.host_link.specs.Sending.{makes_if, drop_all, up_comes}
use Rattle.guest_process.specs.declared.process.Process.{Process}
use Rattle.host_state.specs.Arriving.{comes_to_router, down_comes}
use Rattle.host_state.specs.Fire.{at_time, has_acted}
use Rattle.host_state.specs.Host.{with_link, with_parts, on_wire, wire_of, does_wanted}
use Rattle.host_state.specs.HostRecord.{HostRecord}
use Rattle.host_laws.proofs.Walks.{HandsKeep, PartsAct, StepsKeep, router_keeps, down_keeps, event_keeps}
use Rattle.host_laws.proofs.Walks.PartsAct.{Calls, Begins, Ends, Rings, Turns, LetsGo}
use Rattle.call_streams.proofs.Table.{call_moves, ended_moves, starts_move, alarmed_moves}
use Rattle.call_streams.specs.Parts.{sockets_in}
use Rattle.socket_streams.specs.May.{Moves}
use Rattle.socket_streams.proofs.Moving.{moves_none}
use Rattle.run_streams.specs.Exchanges.{carried_by, waiting_in, packets_carried, link_packets}
use Rattle.run_streams.proofs.Every.{every_here, mapped}
use Rattle.run_streams.proofs.Lanes.{EachWaits, push_fits, release_fits}
use Rattle.run_streams.proofs.Links.{carries_makes, carries_makes_if, carries_logs, carries_down, carries_drop_all, came_up}
use Rattle.run_streams.proofs.Hosts.{IsGood, HostMoves, on, parts_move, link_moves, wire_moves, did_wanted, narrowed}
use Rattle.run_streams.proofs.Handing.{handed}

-- what an act of its parts does to a host's sockets
pub act_moves : (net : Net) (flying : List Packet) (h : HostRecord) (parts : PartsRecord) → PartsAct net h parts → Moves net.known.book flying (sockets_in h.parts) (sockets_in parts)
act_moves net flying h parts (Calls p number arguments) = call_moves net.known flying h.link.time p number arguments h.parts
act_moves net flying h parts (Begins p s is) = starts_move net.known.book flying p s.memory h.parts
act_moves net flying h parts (Ends p) = ended_moves net.known.book flying h.link.time p h.parts
act_moves net flying h parts (Rings target serial) = alarmed_moves net.known.book flying h.link.time target serial h.parts
act_moves net flying h parts (Turns p cpu task there) = moves_none net.known.book flying (sockets_in h.parts)
act_moves net flying h parts (LetsGo p) = moves_none net.known.book flying (sockets_in h.parts)

-- what an event carries is on its way
abbrev pub FliesIn : List Packet → What → Type 0
FliesIn flying w = (p : Packet) → carried_by w ≡ Some p → Contains flying p

module _ (net : Net) (scope : Addr → Addr → Bool) (own : Ip) (n : ℕ) (others : List Tcb) (flying : List Packet) where
  abbrev H : HostRecord → HostRecord → Type 0
  H h k = HostMoves net scope own n others flying h k

  -- the sockets, the generator and the link are the same
  beside : (h k : HostRecord) (processes : List Process) → H h k → H h (record k { processes = processes })
  beside h k processes m = record {
    good = record { address = m.good.address; plain = m.good.plain; link = m.good.link };
    leads = m.leads;
    acts = m.acts;
    after = m.after;
  }

  acted : (h : HostRecord) (parts : PartsRecord) → PartsAct net h parts → IsGood own n h → H h (with_parts parts h)
  acted h parts act good = parts_move net scope own n others flying h parts good (act_moves net (flying ++ link_packets h.link) h parts act)

  pausing : (nanos p : ℕ) (h : HostRecord) → IsGood own n h → H h (with_link (makes (later h.link.time nanos) (what.Go p) h.link) h)
  pausing nanos p h good =
      link_moves net scope own n others flying h (makes (later h.link.time nanos) (what.Go p) h.link) good
      (λ S' f c. carries_makes net S' own n (later h.link.time nanos) (what.Go p) h.link tt c)

  coming_up : (h : HostRecord) → IsGood own n h → H h (on_wire (up_comes net) h)
  coming_up h good =
      wire_moves net scope own n others flying h (up_comes net (wire_of h)) h.parts.shared.outlet.wants (λ p c. c) good
      (λ S' c f. came_up net S' own n h.parts.shared.outlet.wants (wire_of h) (record { link = c; quiet = refl }))

  -- ---- packets that come to the router's lane, and those that leave it

  -- beside more that are on their way
  abbrev M : List Packet → HostRecord → HostRecord → Type 0
  M more h k = HostMoves net scope own n others (flying ++ more) h k

  hands : (more : List Packet) (first : HostRecord) → HandsKeep net (λ p. Contains (flying ++ more) p) (M more first)
  hands more first = record {
    handed = λ p h c m. on net scope own n others (flying ++ more) first h _ m (λ good. handed net scope own n others (flying ++ more) p h c good);
    full = λ p h c m. on net scope own n others (flying ++ more) first h _ m
        (λ good. link_moves net scope own n others (flying ++ more) h (logs FullDown p h.link) good (λ S' f k. carries_logs net S' own n FullDown p h.link k));
    next = λ due h m. on net scope own n others (flying ++ more) first h _ m
        (λ good. link_moves net scope own n others (flying ++ more) h (makes_if due what.Down h.link) good (λ S' f k. carries_makes_if net S' own n due what.Down h.link tt k));
  }

  -- what waits there is the link's
  waits_down : (h : HostRecord) (p : Packet) → Contains (waiting_in h.link.down) p → Contains (flying ++ link_packets h.link) p
  waits_down h p c =
      let made = packets_carried h.link.made in
      Contains-append_right flying (link_packets h.link) p
      (Contains-append_right (waiting_in h.link.up) (waiting_in h.link.down ++ made) p (Contains-append_left (waiting_in h.link.down) made p c))

  all_waiting : (h : HostRecord) → EachWaits (λ p. Contains (flying ++ waiting_in h.link.down) p) h.link.down.waiting
  all_waiting h =
      let more = waiting_in h.link.down in
      every_here (λ (w : Waiting). Contains (flying ++ more) w.packet) h.link.down.waiting
      (λ w c. Contains-append_right flying more w.packet (mapped (λ (x : Waiting). x.packet) h.link.down.waiting w c))

  -- one comes to it
  comes_behind : (packet : Packet) (more : List Packet) (h : HostRecord) → Contains flying packet → IsGood own n h → M more h (with_link (with_down (pushed h.link.time packet h.link.down).1 h.link) h)
  comes_behind packet more h c good =
      let t = pushed h.link.time packet h.link.down in
      link_moves net scope own n others (flying ++ more) h (with_down t.1 h.link) good
      (λ S' f k. carries_down net S' own n t.1 h.link (push_fits S' h.link.time packet h.link.down (f packet (Contains-append_left flying more packet c)) k.down).1 k)

  coming_to_router : (packet : Packet) (h : HostRecord) → Contains flying packet → IsGood own n h → H h (comes_to_router net packet h)
  coming_to_router packet h c good =
      let more = waiting_in h.link.down in
      let wide = flying ++ more in
      let fits = push_fits (λ p. Contains wide p) h.link.time packet h.link.down (Contains-append_left flying more packet c) (all_waiting h) in
      narrowed net scope own n others flying more h (comes_to_router net packet h) (λ p k. waits_down h p k)
      (router_keeps net (λ p. Contains wide p) (M more h) (hands more h) packet h (fits.0, comes_behind packet more h c good))

  -- the lane releases
  leaves_lane : (more : List Packet) (h : HostRecord) → IsGood own n h → (let r : Release = released h.link.time h.link.down in M more h (with_link (drop_all r.dropped (with_down r.lane h.link)) h))
  leaves_lane more h good =
      let r = released h.link.time h.link.down in
      link_moves net scope own n others (flying ++ more) h (drop_all r.dropped (with_down r.lane h.link)) good
      (λ S' f k.
      carries_drop_all net S' own n r.dropped (with_down r.lane h.link) (carries_down net S' own n r.lane h.link (release_fits S' h.link.time h.link.down k.down).1 k))

  coming_down : (h : HostRecord) → IsGood own n h → H h (down_comes net h)
  coming_down h good =
      let more = waiting_in h.link.down in
      let wide = flying ++ more in
      let fits = release_fits (λ p. Contains wide p) h.link.time h.link.down (all_waiting h) in
      narrowed net scope own n others flying more h (down_comes net h) (λ p k. waits_down h p k)
      (down_keeps net (λ p. Contains wide p) (M more h) (hands more h) h (fits.0, leaves_lane more h good))

  -- ---- an event

  then : (first h k : HostRecord) → H first h → (IsGood own n h → H h k) → H first k
  then first h k moved step = on net scope own n others flying first h k moved step

  steps : (first : HostRecord) → StepsKeep net (FliesIn flying) (H first)
  steps first = record {
    acted = λ h parts act m. then first h (with_parts parts h) m (λ good. acted h parts act good);
    wanted = λ h m. then first h (does_wanted net h) m (λ good. did_wanted net scope own n others flying h good);
    beside = λ processes h m. beside first h processes m;
    pauses = λ nanos p h m. then first h _ m (λ good. pausing nanos p h good);
    up = λ h m. then first h _ m (λ good. coming_up h good);
    down = λ h f m. then first h _ m (λ good. coming_down h good);
    loops = λ packet h f m. then first h _ m (λ good. handed net scope own n others flying packet h (f packet refl) good);
    comes = λ packet h f small m. then first h _ m (λ good. handed net scope own n others flying packet h (f packet refl) good);
    routed = λ packet h f small m. then first h _ m (λ good. coming_to_router packet h (f packet refl) good);
  }

  timed : (now : Time) (h : HostRecord) → IsGood own n h → H h (at_time now h)
  timed now h good =
      link_moves net scope own n others flying h (comes_to now h.link) good
      (λ S' f k. record { number = k.number; up = k.up; down = k.down; made = k.made })

  pub event_acts : (e : Event) (h : HostRecord) → FliesIn flying e.what → IsGood own n h → H h (has_acted net e h)
  event_acts e h f good = event_keeps net (FliesIn flying) (H h) (steps h) e h f (timed e.key.due h good)
