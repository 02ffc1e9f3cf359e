-- through every event at a host its records stay at home, and what it sends and logs tells which packets stay there, where what comes
-- to it comes to one of its addresses
use Rattle.std.proofs.Common.{◌≡◌, ⊎_elim, ℕ, Bool, true, false, List, [], ◌∷◌, position, Contains, Option, Some, None, refl, sym, subst, ◌∙◌}
use Rattle.std.specs.List.{AllByRecursion, filter_map}
use Rattle.sim_base.specs.Addresses.{loopback, is_same_ip}
use Rattle.sim_base.specs.declared.act.Act.{Act}
use Rattle.sim_base.specs.declared.act.Act.TheVariants.{Recv, SockFull, FullDown}
use Rattle.sim_base.specs.declared.address.Ip.{Ip}
use Rattle.sim_base.specs.declared.event.Event.{Event}
use Rattle.sim_base.specs.declared.event.What.{What}
use Rattle.sim_base.specs.declared.event.What.TheVariants as what
use Rattle.sim_base.specs.declared.packet.Load.{Load}
use Rattle.sim_base.specs.declared.packet.Load.TheVariants.{Udp, Tcp}
use Rattle.sim_base.specs.declared.packet.Packet.{Packet}
use Rattle.sim_base.specs.declared.time.Time.{Time}
use Rattle.net_iface.specs.Lane.{pushed, released}
use Rattle.tcp_laws.proofs.Tests.{by_test}
use Rattle.tcp_streams.proofs.Members.{IsIn_from_Contains, Contains_here}
use Rattle.sock_udp.specs.Socket.{UdpState, arrive}
use Rattle.host_wants.specs.declared.outlet.Want.{Want}
use Rattle.host_wants.specs.Wanted.{Wanted}
use Rattle.host_sockets.specs.TcpSocket.{has_record}
use Rattle.host_sockets.specs.Sockets.{SocketsRecord}
use Rattle.host_sockets.specs.Udp.{udp_in}
use Rattle.host_sockets.specs.Arriving.{takes_in, datagram_in, datagram_at, datagram_arrives, hearer, heard_at, segment_at, segment_arrives, arrives_by}
use Rattle.host_calls.specs.Events.{arrives}
use Rattle.host_calls.specs.Parts.{PartsRecord}
use Rattle.host_link.specs.Net.{Net}
use Rattle.host_state.specs.Arriving.{is_handed_over, comes_to_router, down_comes}
use Rattle.host_state.specs.Fire.{at_time, has_acted}
use Rattle.run_files.specs.Captures.{is_loopback}
use Rattle.host_state.specs.Host.{with_link, with_parts, on_wire, wire_of, with_wire, does_wanted}
use Rattle.host_link.specs.Wants.{does_wants}
use Rattle.host_state.specs.HostRecord.{HostRecord}
use Rattle.host_laws.proofs.Walks.{HandsKeep, StepsKeep, router_keeps, down_keeps, event_keeps}
use Rattle.host_link.specs.Lanes.{with_down}
use Rattle.host_link.specs.Link.{LinkState, makes, later, logs, comes_to}
use Rattle.host_link.specs.Sending.{Wire, makes_if, drop_all, up_comes}
use Rattle.call_streams.specs.Parts.{sockets_in}
use Rattle.call_streams.proofs.Table.{arrives_moves}
use Rattle.socket_laws.proofs.HereActs.{Here}
use Rattle.socket_streams.specs.Records.{packet_in}
use Rattle.socket_streams.specs.May.{Moves}
use Rattle.socket_streams.proofs.OwnEnds.{IsEnd, OwnPacket, OwnFit, moves_own}
use Rattle.run_streams.specs.Past.{is_loop, stays}
use Rattle.run_streams.proofs.Every.{every_with}
use Rattle.run_streams.proofs.HomeLinks.{Comes, Loops, HomeLink, HomeWire, loops_loopback, comes_not, home_makes, home_makes_if, home_logs, home_down, home_drop_all, home_up_comes, home_wants}
use Rattle.run_streams.proofs.Walk.{act_moves}
use Rattle.run_streams.proofs.Lanes.{push_fits, release_fits, release_drops}

-- a host as an event fires
pub record IsFiring (net : Net) (own : Ip) (n : ℕ) (cause : What) (h : HostRecord) : Type 0 where
  pub address : h.row.address ≡ own
  pub here : Here own h.parts.sockets
  pub fit : OwnFit own (sockets_in h.parts)
  pub link : HomeLink net own n cause h.link

-- what comes to the sockets is logged so
arrived_in : (own : Ip) (cause : What) (packet : Packet) (bytes : List ℕ) (k : ℕ) (o : Option UdpState) (t : SocketsRecord) → stays own cause (datagram_in packet.from bytes k o t).0 packet ≡ is_loop cause
arrived_in own cause packet bytes k None t = refl
arrived_in own cause packet bytes k (Some u) t =
    by_test (λ (a : Act). stays own cause a packet ≡ is_loop cause) (arrive packet.from bytes u).0 Recv SockFull (λ e. refl) (λ e. refl)

arrived_at : (own : Ip) (cause : What) (packet : Packet) (bytes : List ℕ) (o : Option ℕ) (t : SocketsRecord) → stays own cause (datagram_at packet.from bytes o t).0 packet ≡ is_loop cause
arrived_at own cause packet bytes None t = refl
arrived_at own cause packet bytes (Some k) t = arrived_in own cause packet bytes k (udp_in k t) t

heard_so : (own : Ip) (cause : What) (now : Time) (packet : Packet) (o : Option ℕ) (t : SocketsRecord) (w : Wanted) → stays own cause (heard_at now packet o t w).0 packet ≡ is_loop cause
heard_so own cause now packet None t w = refl
heard_so own cause now packet (Some k) t w = refl

taken_so : (own : Ip) (cause : What) (now : Time) (packet : Packet) (o : Option ℕ) (t : SocketsRecord) (w : Wanted) → stays own cause (segment_at now packet o t w).0 packet ≡ is_loop cause
taken_so own cause now packet None t w = heard_so own cause now packet (hearer packet t) t w
taken_so own cause now packet (Some k) t w = refl

arrived_by : (own : Ip) (cause : What) (load : Load) (now : Time) (packet : Packet) (t : SocketsRecord) (w : Wanted) → stays own cause (arrives_by load now packet t w).0 packet ≡ is_loop cause
unfolding datagram_arrives segment_arrives
arrived_by own cause (Udp bytes) now packet t w = arrived_at own cause packet bytes (position (takes_in packet.from packet.to) t.udp) t
arrived_by own cause (Tcp flags seq ack window text) now packet t w = taken_so own cause now packet (position (has_record packet.to packet.from) t.tcp) t w

arrived : (own : Ip) (cause : What) (now : Time) (packet : Packet) (h : PartsRecord) → stays own cause (arrives now packet h).0 packet ≡ is_loop cause
arrived own cause now packet h = arrived_by own cause packet.load now packet h.sockets h.shared.outlet

-- what comes to a host: to one of its ends, and as loopback where the event is a Loop
record IsGiven (own : Ip) (cause : What) (p : Packet) : Type 0 where
  ends : IsEnd own p.to p.from
  tells : is_loopback own p ≡ is_loop cause

given_by : (own : Ip) (cause : What) (p : Packet) → is_loop cause ≡ false → Comes own p → IsGiven own cause p
given_by own cause p apart h = record {
  ends = record { home = h.home; inside = λ e. absurd (never (is_same_ip p.to.ip loopback) e h.outside) };
  tells = comes_not own p h ∙ sym apart;
}
  where
    never : (b : Bool) → b ≡ true → b ≡ false → ⊥
    never b e k = cc

-- what an event brings
abbrev pub FitsIn : Ip → What → Type 0
FitsIn own (what.Packet packet) = Comes own packet
FitsIn own (what.Loop packet) = Loops own packet
FitsIn own _ = Unit {0}

module _ (net : Net) (own : Ip) (n : ℕ) (cause : What) (outside : is_same_ip own loopback ≡ false) where
  abbrev K : HostRecord → Type 0
  K h = IsFiring net own n cause h

  abbrev Given : Packet → Type 0
  Given p = IsGiven own cause p

  linked : (h : HostRecord) (m : LinkState) → K h → HomeLink net own n cause m → K (with_link m h)
  linked h m k link = record { address = k.address; here = k.here; fit = k.fit; link = link }

  wired : (h : HostRecord) (ws : List Want) (v : Wire) → K h → AllByRecursion (OwnPacket own) (filter_map packet_in ws) → HomeWire net own n cause ws v → K (with_wire v h)
  wired h ws v k each wire = record {
    address = k.address;
    here = k.here;
    fit = (k.fit.0, subst (λ (xs : List Want). AllByRecursion (OwnPacket own) (filter_map packet_in xs)) (sym wire.1) each);
    link = wire.0;
  }

  -- its parts act: nothing arrives, or what arrives comes to it
  parted : (flying : List Packet) (h : HostRecord) (parts : PartsRecord) → ((p : Packet) → Contains flying p → IsEnd own p.to p.from) → Moves net.known.book flying (sockets_in h.parts) (sockets_in parts) → K h → K (with_parts parts h)
  parted flying h parts ends moves k =
      let after = moves_own own outside net.known.book flying ends (sockets_in h.parts) (sockets_in parts) k.here k.fit moves in
      record { address = k.address; here = after.0; fit = after.1; link = k.link }

  did_wanted : (h : HostRecord) → K h → K (does_wanted net h)
  unfolding does_wanted
  did_wanted h k =
      wired h [] (does_wants net h.row.address (wire_of h)) k tt
      (subst (λ (a : Ip). HomeWire net own n cause [] (does_wants net a (wire_of h))) (sym k.address) (home_wants net own n cause (wire_of h) outside k.fit.1 k.link))

  coming_up : (h : HostRecord) → K h → K (on_wire (up_comes net) h)
  coming_up h k = wired h h.parts.shared.outlet.wants (up_comes net (wire_of h)) k k.fit.1 (home_up_comes net own n cause (wire_of h) k.link)

  -- ---- packets that arrive

  handed : (packet : Packet) (h : HostRecord) → Given packet → K h → K (is_handed_over net packet h)
  unfolding is_handed_over
  handed packet h given k =
      let r = arrives h.link.time packet h.parts in
      let m : LinkState = logs r.0 packet h.link in
      let logged : HostRecord = with_link m h in
      let left : HostRecord = with_parts r.1 logged in
      did_wanted left
      (parted (packet ∷ []) logged r.1
      (λ p c. ⊎_elim (λ e. subst (λ (q : Packet). IsEnd own q.to q.from) (sym e) given.ends) (λ none. absurd none) (IsIn_from_Contains p (packet ∷ []) c))
      (arrives_moves net.known.book (packet ∷ []) h.link.time packet h.parts (Contains_here packet []))
      (linked h m k (home_logs net own n cause r.0 packet h.link (given.tells ∙ sym (arrived own cause h.link.time packet h.parts)) k.link)))

  -- from the network, while no Loop fires
  hands : is_loop cause ≡ false → HandsKeep net (Comes own) K
  hands apart = record {
    handed = λ p h comes k. handed p h (given_by own cause p apart comes) k;
    full = λ p h comes k. linked h (logs FullDown p h.link) k (home_logs net own n cause FullDown p h.link (comes_not own p comes) k.link);
    next = λ due h k. linked h (makes_if due what.Down h.link) k (home_makes_if net own n cause due what.Down h.link tt k.link);
  }

  coming_to_router : (packet : Packet) (h : HostRecord) → is_loop cause ≡ false → Comes own packet → K h → K (comes_to_router net packet h)
  coming_to_router packet h apart comes k =
      let t = pushed h.link.time packet h.link.down in
      let fits = push_fits (Comes own) h.link.time packet h.link.down comes k.link.down in
      router_keeps net (Comes own) K (hands apart) packet h (fits.0, linked h (with_down t.1 h.link) k (home_down net own n cause t.1 h.link fits.1 k.link))

  coming_down : (h : HostRecord) → is_loop cause ≡ false → K h → K (down_comes net h)
  coming_down h apart k =
      let r = released h.link.time h.link.down in
      let fits = release_fits (Comes own) h.link.time h.link.down k.link.down in
      let drops = release_drops (Comes own) h.link.time h.link.down k.link.down in
      let start : LinkState = with_down r.lane h.link in
      down_keeps net (Comes own) K (hands apart) h (
        fits.0,
        linked h (drop_all r.dropped start) k
            (home_drop_all net own n cause r.dropped start
            (every_with (Comes own) (λ (p : Packet). is_loopback own p ≡ false) r.dropped (λ p c comes. comes_not own p comes) drops)
            (home_down net own n cause r.lane h.link fits.1 k.link)),
      )

  -- ---- an event

  looped : (packet : Packet) → is_loop cause ≡ true → Loops own packet → Given packet
  looped packet same fits =
      record { ends = record { home = fits.to; inside = λ e. fits.from }; tells = loops_loopback own packet fits ∙ sym same }

  abbrev Brings : What → Type 0
  Brings w = (is_loop cause ≡ is_loop w) × FitsIn own w

  steps : StepsKeep net Brings K
  steps = record {
    acted = λ h parts act k. parted [] h parts (λ p c. absurd (IsIn_from_Contains p [] c)) (act_moves net [] h parts act) k;
    wanted = λ h k. did_wanted h k;
    beside = λ processes h k. record { address = k.address; here = k.here; fit = k.fit; link = k.link };
    pauses = λ nanos p h k. linked h (makes (later h.link.time nanos) (what.Go p) h.link) k (home_makes net own n cause (later h.link.time nanos) (what.Go p) h.link tt k.link);
    up = λ h k. coming_up h k;
    down = λ h fits k. coming_down h fits.0 k;
    loops = λ packet h fits k. handed packet h (looped packet fits.0 fits.1) k;
    comes = λ packet h fits small k. handed packet h (given_by own cause packet fits.0 fits.1) k;
    routed = λ packet h fits small k. coming_to_router packet h fits.0 fits.1 k;
  }

  timed : (now : Time) (h : HostRecord) → K h → K (at_time now h)
  timed now h k =
      linked h (comes_to now h.link) k (record { number = k.link.number; up = k.link.up; down = k.link.down; made = k.link.made; lines = k.link.lines })

  pub event_home : (e : Event) (h : HostRecord) → is_loop cause ≡ is_loop e.what → FitsIn own e.what → K h → K (has_acted net e h)
  event_home e h same fits k = event_keeps net Brings K steps e h (same, fits) (timed e.key.due h k)
