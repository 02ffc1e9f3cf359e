-- the exchange of all hosts of a world, and that of one of them
use Rattle.std.specs.Prelude.{ℕ, List, ◌++◌, map, filter_map, flat_map, Option, Some, None}
use Rattle.sim_base.specs.declared.event.Event.{Event}
use Rattle.sim_base.specs.declared.event.What.{What}
use Rattle.sim_base.specs.declared.event.What.TheVariants as what
use Rattle.sim_base.specs.declared.packet.Packet.{Packet}
use Rattle.sock_tcp.specs.connection.Tcb.{Tcb}
use Rattle.net_iface.specs.declared.lane.Waiting.{Waiting}
use Rattle.net_iface.specs.Lane.{LaneState}
use Rattle.host_link.specs.Net as of_hosts
use Rattle.host_state.specs.Fits.{model}
use Rattle.host_state.specs.HostRecord.{HostRecord}
use Rattle.host_link.specs.Link.{LinkState}
use Rattle.host_state.specs.World.{World}
use Rattle.world_order.specs.Round.{events_at}
use Rattle.tcp_streams.specs.Exchange.{Exchange}
use Rattle.host_sockets.specs.Records.{records_of}
use Rattle.socket_streams.specs.Records.{packets_of, exchange_with}

-- a packet on its way to another host, or past the network to its own
abbrev pub carried_by : What → Option Packet
carried_by (what.Packet packet) = Some packet
carried_by (what.Loop packet) = Some packet
carried_by _ = None

abbrev pub carried : Event → Option Packet
carried e = carried_by e.what

abbrev pub packets_carried : List Event → List Packet
packets_carried events = filter_map carried events

-- the packets that wait in a lane; those of both lanes of a host, and of the events that it made
abbrev pub waiting_in : LaneState → List Packet
waiting_in lane = map (λ (w : Waiting). w.packet) lane.waiting

abbrev pub link_packets : LinkState → List Packet
link_packets l = waiting_in l.up ++ (waiting_in l.down ++ packets_carried l.made)

-- and those that its sockets want sent
abbrev pub host_packets : HostRecord → List Packet
host_packets h = link_packets h.link ++ packets_of h.parts.shared.outlet

-- all records that its sockets have, and ever let go
abbrev pub host_records : HostRecord → List Tcb
host_records h = records_of h.parts.sockets

-- one exchange of all hosts
abbrev pub world_records : World → List Tcb
world_records w = flat_map host_records w.hosts

abbrev pub world_exchange : World → Exchange
world_exchange w = exchange_with (world_records w) (flat_map host_packets w.hosts ++ packets_carried w.events)

-- the exchange of the host with a number, and of the packets that come to it
abbrev pub host_exchange : of_hosts.Net → ℕ → HostRecord → List Event → Exchange
host_exchange net i h events = exchange_with (host_records h) (host_packets h ++ packets_carried (events_at (model net) i events))
