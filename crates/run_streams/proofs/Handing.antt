-- packets that are handed to a host's sockets
use Rattle.std.proofs.Common.{ℕ, Bool, List, ◌++◌, Contains}
use Rattle.std.proofs.lemmas.List.Elements.{Contains-append_left}
use Rattle.sim_base.specs.declared.address.Ip.{Ip}
use Rattle.sim_base.specs.declared.address.Addr.{Addr}
use Rattle.sim_base.specs.declared.packet.Packet.{Packet}
use Rattle.sock_tcp.specs.connection.Tcb.{Tcb}
use Rattle.host_calls.specs.Events.{arrives}
use Rattle.host_link.specs.Net.{Net}
use Rattle.host_state.specs.Arriving.{is_handed_over}
use Rattle.host_state.specs.Host.{with_link, with_parts}
use Rattle.host_state.specs.HostRecord.{HostRecord}
use Rattle.host_link.specs.Link.{LinkState, logs}
use Rattle.call_streams.proofs.Table.{arrives_moves}
use Rattle.run_streams.specs.Exchanges.{link_packets}
use Rattle.run_streams.proofs.Links.{carries_logs}
use Rattle.run_streams.proofs.Hosts.{IsGood, HostMoves, on, parts_move, link_moves, did_wanted}

module _ (net : Net) (scope : Addr → Addr → Bool) (own : Ip) (n : ℕ) (others : List Tcb) (flying : List Packet) where
  abbrev H : HostRecord → HostRecord → Type 0
  H h k = HostMoves net scope own n others flying h k

  abbrev then : (h k l : HostRecord) → H h k → (IsGood own n k → H k l) → H h l
  then h k l first second = on net scope own n others flying h k l first second

  pub handed : (packet : Packet) (h : HostRecord) → Contains flying packet → IsGood own n h → H h (is_handed_over net packet h)
  unfolding is_handed_over
  handed packet h c good =
      let r = arrives h.link.time packet h.parts in
      let m : LinkState = logs r.0 packet h.link in
      let logged : HostRecord = with_link m h in
      let arrived : HostRecord = with_parts r.1 logged in
      then h logged _ (link_moves net scope own n others flying h m good (λ S f k. carries_logs net S own n r.0 packet h.link k))
      (λ a. then logged arrived _
      (parts_move net scope own n others flying logged r.1 a
      (arrives_moves net.known.book (flying ++ link_packets m) h.link.time packet h.parts
      (Contains-append_left flying (link_packets m) packet c)))
      (λ b. did_wanted net scope own n others flying arrived b))
