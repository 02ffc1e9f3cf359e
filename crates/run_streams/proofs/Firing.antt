-- an event fires at a host
use Rattle.std.proofs.Common.{◌≡◌, ⊎_elim, ℕ, Bool, true, List, [], ◌++◌, Contains, if◌then◌else◌, nat_lt, ap, append-nil, subst}
use Rattle.std.proofs.lemmas.List.Elements.{Contains-append_left, Contains-append_right, Contains-append_cases}
use Rattle.sim_base.specs.declared.address.Ip.{Ip}
use Rattle.sim_base.specs.declared.address.Addr.{Addr}
use Rattle.sim_base.specs.declared.event.Event.{Event}
use Rattle.sim_base.specs.declared.packet.Packet.{Packet}
use Rattle.sock_tcp.specs.connection.Tcb.{Tcb}
use Rattle.host_link.specs.Net.{Net}
use Rattle.host_state.specs.Fire.{has_acted, keeps_outputs, fire}
use Rattle.host_state.specs.Fits.{fires_before_stop}
use Rattle.host_state.specs.HostRecord.{HostRecord}
use Rattle.host_link.specs.Link.{LinkState, without_made}
use Rattle.socket_streams.specs.Records.{packets_of}
use Rattle.run_streams.specs.Exchanges.{waiting_in, packets_carried, link_packets, host_packets}
use Rattle.run_streams.proofs.Hosts.{IsGood, HostMoves}
use Rattle.run_streams.proofs.Walk.{FliesIn, event_acts}

-- the host before what its link made is handed out
abbrev pub fired_host : Net → HostRecord → Event → HostRecord
fired_host net h e = keeps_outputs h.written (has_acted net e h)

pub fires_move : (net : Net) (scope : Addr → Addr → Bool) (own : Ip) (n : ℕ) (others : List Tcb) (flying : List Packet) (e : Event) (h : HostRecord) → FliesIn flying e.what → IsGood own n h → HostMoves net scope own n others flying h (fired_host net h e)
fires_move net scope own n others flying e h flies good =
    let m = event_acts net scope own n others flying e h flies good in
    record {
      good = record { address = m.good.address; plain = record { host = m.good.plain.host; sockets = m.good.plain.sockets }; link = m.good.link };
      leads = m.leads;
      acts = m.acts;
      after = m.after;
    }

-- and after it
pub fired_good : (net : Net) (own : Ip) (n : ℕ) (e : Event) (h : HostRecord) → IsGood own n (fired_host net h e) → IsGood own n (fire net h e).host
fired_good net own n e h good = record {
  address = good.address;
  plain = record { host = good.plain.host; sockets = good.plain.sockets };
  link = record { number = good.link.number; up = good.link.up; down = good.link.down; made = tt };
}

pub fired_packets : (net : Net) (e : Event) (h : HostRecord) (p : Packet) → Contains (host_packets (fire net h e).host) p → Contains (host_packets (fired_host net h e)) p
fired_packets net e h p c =
    let l : LinkState = (fired_host net h e).link in
    let out = packets_of (fired_host net h e).parts.shared.outlet in
    let up = waiting_in l.up in
    let down = waiting_in l.down in
    let made = packets_carried l.made in
    ⊎_elim
    (λ a.
    Contains-append_left (link_packets l) out p
    (⊎_elim
    (λ b. Contains-append_left up (down ++ made) p b)
    (λ b. Contains-append_right up (down ++ made) p (Contains-append_left down made p (subst (λ (xs : List Packet). Contains xs p) (append-nil down) b)))
    (Contains-append_cases up (down ++ []) p a)))
    (λ a. Contains-append_right (link_packets l) out p a)
    (Contains-append_cases (link_packets (without_made l)) out p c)

-- it fires before the stop
pub fires_so : (net : Net) (h : HostRecord) (e : Event) → nat_lt e.key.due.nanos net.stop.nanos ≡ true → fires_before_stop net h e ≡ fire net h e
fires_so net h e due =
    ap (λ (b : Bool). if b then fire net h e else record { host = h; made = []; lines = [] }) due
