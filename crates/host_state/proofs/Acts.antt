-- What a body's acts do to the records for which it stands.
use Rattle.std.proofs.Common.{◌≡◌, ℕ, ◌<◌, ◌≤◌, Bool, true, false, List, [], ◌∷◌, Option, nat_lt, refl, sym, ap, subst, ◌∙◌, arith}
use Rattle.std.specs.Prelude.{if◌then◌else◌}
use Rattle.std.proofs.lemmas.Bool.Decides.{nat_tests}
use Rattle.sim_base.specs.declared.alarm.AlarmTarget.{AlarmTarget}
use Rattle.sim_base.specs.declared.size.TheConstants.{MAX_PACKET}
use Rattle.sim_base.specs.Packet.{packet_size}
use Rattle.sim_base.specs.declared.act.Act.{Act}
use Rattle.sim_base.specs.declared.event.What.TheVariants as what
use Rattle.sim_base.specs.declared.packet.Packet.{Packet}
use Rattle.sim_base.specs.declared.time.Time.{Time}
use Rattle.net_iface.specs.declared.lane.Pushed.{Pushed}
use Rattle.net_iface.specs.declared.lane.Released.{Released}
use Rattle.host_calls.specs.declared.all.Parts.{Parts}
use Rattle.host_calls.specs.Events.{arrives, alarmed, Delivered}
use Rattle.host_calls.specs.Parts.{PartsRecord, PartsStand}
use Rattle.host_wants.specs.Wanted.{Wanted}
use Rattle.host_state.specs.declared.host.Body.{Body}
use Rattle.host_link.specs.Net.{Net}
use Rattle.host_state.specs.HostRecord.{HostRecord}
use Rattle.host_link.specs.Link.{LinkState, logs}
use Rattle.host_link.specs.Lanes.{pushes_down, releases_down, Releases}
use Rattle.host_link.specs.Sending.{Wire, IsWire, is_bootstrapping, drop_all, makes_if}
use Rattle.host_state.specs.Host.{with_link, with_parts, on_wire, does_wanted}
use Rattle.host_link.specs.Wants.{does_wants}
use Rattle.host_state.specs.Arriving.{is_handed_over, are_handed_over, went_in, goes_in, comes_to_router, comes_in, down_comes}
use Rattle.host_state.specs.Fire.{rings}
use Rattle.host_state.specs.StandsFor.{BodyStands, Does, LeadsTo}
use Rattle.host_state.proofs.Seen.{seen, seen_all, stands_seen}

-- a body whose link and outlet are these
abbrev pub after_wire : Body → LinkState → Wanted → Body
after_wire c link outlet = record c { link = link; parts = record c.parts { shared = record c.parts.shared { outlet = outlet } } }

pub wired : (act : Wire → Wire) (c : Body) (link : LinkState) (outlet : Wanted) → IsWire link outlet (act (c.link, c.parts.shared.outlet))
    → Does (on_wire act) c (after_wire c link outlet)
wired act c link outlet e =
    seen_all (λ (h : HostRecord). BodyStands (after_wire c link outlet) (on_wire act h)) c
    (λ t w s. record {
      row = refl;
      link = e.0;
      processes = refl;
      parts = record { tasks = refl; shared = ap (λ (o : Wanted). record c.parts.shared { outlet = o }) e.1; sockets = s };
    })

pub did_wanted : (net : Net) (c : Body) (link : LinkState) (outlet : Wanted)
    → IsWire link outlet (does_wants net c.row.address (c.link, c.parts.shared.outlet)) → Does (does_wanted net) c (after_wire c link outlet)
unfolding does_wanted
did_wanted net c link outlet e =
    seen_all (λ (h : HostRecord). BodyStands (after_wire c link outlet) (does_wanted net h)) c
    (λ t w s. record {
      row = refl;
      link = e.0;
      processes = refl;
      parts = record { tasks = refl; shared = ap (λ (o : Wanted). record c.parts.shared { outlet = o }) e.1; sockets = s };
    })

-- a body with other parts and another link
abbrev pub with_both : Body → Parts → LinkState → Body
with_both c parts link = record c { parts = parts; link = link }

pub handed : (net : Net) (packet : Packet) (c d : Body) (now : Time) (parts : Parts) (link : LinkState) (act : Act) → now ≡ c.link.time
    → ((p : PartsRecord) → PartsStand c.parts p → Delivered (arrives now packet p) act parts)
    → link ≡ logs act packet c.link
    → Does (does_wanted net) (with_both c parts link) d → Does (is_handed_over net packet) c d
unfolding is_handed_over
handed net packet c d now parts link act now_is delivers_now logged does =
    let delivers : (p : PartsRecord) → PartsStand c.parts p → Delivered (arrives c.link.time packet p) act parts =
    subst (λ (t : Time). (p : PartsRecord) → PartsStand c.parts p → Delivered (arrives t packet p) act parts) now_is delivers_now in
    seen_all (λ (h : HostRecord). BodyStands d (is_handed_over net packet h)) c
    (λ t w s.
    let h : HostRecord = seen c t w in
    let delivered = delivers h.parts (stands_seen c t w s).parts in
    does (with_parts (arrives c.link.time packet h.parts).1 (with_link (logs (arrives c.link.time packet h.parts).0 packet h.link) h))
    (record {
      row = refl;
      link = logged ∙ ap (λ (a : Act). logs a packet c.link) delivered.0;
      processes = refl;
      parts = delivered.1;
    }))

pub routed : (net : Net) (packet : Packet) (c d : Body) (pushed : Pushed) (link : LinkState) → (pushed, link) ≡ pushes_down packet c.link
    → Does (goes_in net pushed) (record c { link = link }) d → Does (comes_to_router net packet) c d
unfolding comes_to_router
routed net packet c d pushed link e does =
    seen_all (λ (h : HostRecord). BodyStands d (comes_to_router net packet h)) c
    (λ t w s.
    subst (λ (x : Pushed × LinkState). BodyStands d (went_in net x (seen c t w))) e
    (does (with_link link (seen c t w)) (stands_seen (record c { link = link }) t w s)))

-- a link changes
pub linked : (act : LinkState → LinkState) (c : Body) (link : LinkState) → link ≡ act c.link
    → Does (λ h. with_link (act h.link) h) c (record c { link = link })
linked act c link e =
    seen_all (λ (h : HostRecord). BodyStands (record c { link = link }) (with_link (act h.link) h)) c
    (λ t w s. record { row = refl; link = e; processes = refl; parts = record { tasks = refl; shared = refl; sockets = s } })

pub came_down : (net : Net) (c d : Body) (answer : Released) (first dropped last : LinkState)
    → Releases answer first (releases_down c.link) → dropped ≡ drop_all answer.dropped.items first
    → Does (are_handed_over net answer.packets.items) (record c { link = dropped }) d
    → last ≡ makes_if answer.next what.Down d.link
    → Does (down_comes net) c (record d { link = last })
unfolding down_comes
came_down net c d answer first dropped last releases drops does makes =
    seen_all (λ (h : HostRecord). BodyStands (record d { link = last }) (down_comes net h)) c
    (λ t w s.
    let r = (releases_down c.link).0 in
    let start : HostRecord = with_link (drop_all r.dropped (releases_down c.link).1) (seen c t w) in
    let same : dropped ≡ drop_all r.dropped (releases_down c.link).1 =
    drops ∙ (ap (λ (ps : List Packet). drop_all ps first) releases.dropped ∙ ap (drop_all r.dropped) releases.link) in
    let over = does start (record { row = refl; link = same; processes = refl; parts = record { tasks = refl; shared = refl; sockets = s } }) in
    let over_all : BodyStands d (are_handed_over net r.packets start) = subst (λ (ps : List Packet). BodyStands d (are_handed_over net ps start)) releases.packets over in
    record {
      row = over_all.row;
      link = makes ∙ (ap (λ (o : Option Time). makes_if o what.Down d.link) releases.next ∙ ap (makes_if r.next what.Down) over_all.link);
      processes = over_all.processes;
      parts = over_all.parts;
    })

pub rang : (net : Net) (target : AlarmTarget) (serial : ℕ) (c d : Body) (now : Time) (parts : Parts) → now ≡ c.link.time
    → ((p : PartsRecord) → PartsStand c.parts p → PartsStand parts (alarmed now target serial p))
    → Does (does_wanted net) (record c { parts = parts }) d → Does (rings net target serial) c d
unfolding rings
rang net target serial c d now parts now_is alarms_now does =
    let alarms : (p : PartsRecord) → PartsStand c.parts p → PartsStand parts (alarmed c.link.time target serial p) =
    subst (λ (t : Time). (p : PartsRecord) → PartsStand c.parts p → PartsStand parts (alarmed t target serial p)) now_is alarms_now in
    seen_all (λ (h : HostRecord). BodyStands d (rings net target serial h)) c
    (λ t w s.
    let h : HostRecord = seen c t w in
    does (with_parts (alarmed c.link.time target serial h.parts) h)
    (record { row = refl; link = refl; processes = refl; parts = alarms h.parts (stands_seen c t w s).parts }))

-- ---- packets one after another

pub more_handed : (net : Net) (packet : Packet) (rest : List Packet) (c d : Body) (whole : HostRecord) → LeadsTo (are_handed_over net (packet ∷ rest)) c whole
    → Does (is_handed_over net packet) c d → LeadsTo (are_handed_over net rest) d whole
unfolding are_handed_over
more_handed net packet rest c d whole lead does = record { here = is_handed_over net packet lead.here; body = does lead.here lead.body; same = lead.same }

pub none_handed : (net : Net) (c : Body) (whole : HostRecord) → LeadsTo (are_handed_over net []) c whole → BodyStands c whole
unfolding are_handed_over
none_handed net c whole lead = subst (BodyStands c) lead.same lead.body

-- ---- a packet of another host

by_choice : (net : Net) (packet : Packet) (d : Body) (h : HostRecord) (b : Bool) → BodyStands d ((if b then is_handed_over net packet else comes_to_router net packet) h)
    → BodyStands d (if b then is_handed_over net packet h else comes_to_router net packet h)
by_choice net packet d h true s = s
by_choice net packet d h false s = s

pub not_come : (net : Net) (packet : Packet) (c : Body) → MAX_PACKET < packet_size packet → Does (comes_in net packet) c c
unfolding comes_in
not_come net packet c large = λ h s.
    let b : nat_lt MAX_PACKET (packet_size packet) ≡ true = grind (arith, nat_tests) in
    subst (λ (x : Bool). BodyStands c (if x then h else if is_bootstrapping net h.link.time then is_handed_over net packet h else comes_to_router net packet h)) (sym b) s

pub come : (net : Net) (packet : Packet) (c d : Body) (at_once : Bool) → packet_size packet ≤ MAX_PACKET → at_once ≡ is_bootstrapping net c.link.time
    → Does (if at_once then is_handed_over net packet else comes_to_router net packet) c d → Does (comes_in net packet) c d
unfolding comes_in
come net packet c d at_once small e does = λ h s.
    let b : nat_lt MAX_PACKET (packet_size packet) ≡ false = grind (arith, nat_tests) in
    let f : at_once ≡ is_bootstrapping net h.link.time = e ∙ ap (λ (l : LinkState). is_bootstrapping net l.time) s.link in
    let whole : Bool → HostRecord = λ x. if x then is_handed_over net packet h else comes_to_router net packet h in
    subst (λ (x : Bool). BodyStands d (if x then h else whole (is_bootstrapping net h.link.time))) (sym b)
    (subst (λ (x : Bool). BodyStands d (whole x)) f (by_choice net packet d h at_once (does h s)))
