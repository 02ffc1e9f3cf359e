-- How a host sends packets.
use Rattle.std.specs.Prelude.{◌≡◌, ℕ, ◌*◌, ◌/◌, ◌^◌, ◌==◌, ◌||◌, Bool, nat_lt, nat_le, List, [], ◌∷◌, Option, Some, None, slice_get, if◌then◌else◌, option_map}
use Rattle.sim_base.specs.declared.act.Act.TheVariants.{Send, Lost, FullUp, Codel}
use Rattle.sim_base.specs.declared.address.Ip.{Ip}
use Rattle.sim_base.specs.declared.event.What.{What}
use Rattle.sim_base.specs.declared.event.What.TheVariants as what
use Rattle.sim_base.specs.declared.packet.Packet.{Packet}
use Rattle.sim_base.specs.declared.size.TheConstants.{MAX_PACKET}
use Rattle.sim_base.specs.declared.time.Time.{Time}
use Rattle.sim_base.specs.Addresses.{is_same_ip, loopback, host_at}
use Rattle.sim_base.specs.Packet.{packet_size}
use Rattle.base_texts.specs.Quantity.{◌>>=◌}
use Rattle.gml_graph.specs.Edges.{lossless}
use Rattle.net_routes.specs.declared.cost.Cost.{Cost}
use Rattle.net_routes.specs.Routes.{route_in}
use Rattle.net_iface.specs.Lane.{Release}
use Rattle.net_iface.specs.declared.lane.Pushed.{Pushed}
use Rattle.net_iface.specs.declared.lane.Pushed.TheVariants.{Leaves, Waits, Dropped}
use Rattle.host_wants.specs.Wanted.{Wanted, draws_word}
use Rattle.host_link.specs.Net.{Net}
use Rattle.host_link.specs.Link.{LinkState, makes, later, logs}
use Rattle.host_link.specs.Lanes.{pushes_up, releases_up}

-- a link, and what has the host's generator
abbrev pub Wire : Type 0
Wire = LinkState × Wanted

-- the latency of a route, and how many of 10^9 packets arrive
abbrev pub told : Cost → Time × ℕ
told cost = (record { nanos = cost.latency }, cost.reliability)

-- the route from a host to another one, by their numbers
unfoldable pub route_from : Net → ℕ → ℕ → Option (Time × ℕ)
route_from net host other = do
  from ← slice_get net.nodes host
  to ← slice_get net.nodes other
  option_map told (route_in net.routes from to)

-- the route to the host that has an address, if that is another one
unfoldable pub route_to : Net → ℕ → Ip → Option (Time × ℕ)
route_to net host ip = do
  other ← host_at net.known.book ip
  if other == host then None else route_from net host other

-- the network is set up before this time: nothing waits and nothing is lost
abbrev pub is_bootstrapping : Net → Time → Bool
is_bootstrapping net now = nat_lt now.nanos net.bootstrap_end.nanos

-- whether a word that is drawn loses a packet
abbrev pub loses : ℕ → ℕ → Bool
loses reliability word = nat_le reliability (word * lossless / 2 ^ 64)

-- a packet is on its way to another host
abbrev pub travels : Time → Packet → LinkState → LinkState
travels latency packet link = makes (later link.time latency.nanos) (what.Packet packet) link

-- where a packet may be lost, a word is drawn
abbrev pub takes_its_chance : Time × ℕ → Packet → LinkState → ℕ × Wanted → Wire
takes_its_chance (latency, reliability) packet link (word, wanted) =
    (if loses reliability word then logs Lost packet link else travels latency packet link, wanted)

-- a packet takes its route
unfoldable pub takes_route : Bool → Time × ℕ → Packet → Wire → Wire
takes_route sure (latency, reliability) packet (link, wanted) =
    if sure || nat_le lossless reliability
    then (travels latency packet link, wanted)
    else takes_its_chance (latency, reliability) packet link (draws_word wanted)

abbrev pub takes_route_if : Bool → Option (Time × ℕ) → Packet → Wire → Wire
takes_route_if sure None packet wire = wire
takes_route_if sure (Some route) packet wire = takes_route sure route packet wire

-- a packet leaves the host
unfoldable pub leaves : Net → Packet → Wire → Wire
leaves net packet (link, wanted) =
    takes_route_if (is_bootstrapping net link.time) (route_to net link.number packet.to.ip) packet (logs Send packet link, wanted)

unfoldable pub leave_all : Net → List Packet → Wire → Wire
leave_all net [] wire = wire
leave_all net (packet ∷ packets) wire = leave_all net packets (leaves net packet wire)

-- an event is made for a time, where there is one
abbrev pub makes_if : Option Time → What → LinkState → LinkState
makes_if None w link = link
makes_if (Some due) w link = makes due w link

-- what became of a packet that came to the lane to the network
abbrev pub goes_on : Net → Pushed → Wire → Wire
goes_on net (Leaves packet) wire = leaves net packet wire
goes_on net (Waits due) (link, wanted) = (makes_if due what.Up link, wanted)
goes_on net (Dropped packet) (link, wanted) = (logs FullUp packet link, wanted)

abbrev pub comes_to_lane : Net → Wanted → Pushed × LinkState → Wire
comes_to_lane net wanted (pushed, link) = goes_on net pushed (link, wanted)

unfoldable pub goes_up : Net → Packet → Wire → Wire
goes_up net packet (link, wanted) =
    if is_bootstrapping net link.time
    then leaves net packet (link, wanted)
    else comes_to_lane net wanted (pushes_up packet link)

-- to its own address, or to 127.0.0.1, a host sends past the network
abbrev pub stays_here : Ip → Packet → Bool
stays_here own packet = is_same_ip packet.to.ip loopback || is_same_ip packet.to.ip own

abbrev pub loops : Packet → LinkState → LinkState
loops packet link = makes (later link.time 1) (what.Loop packet) (logs Send packet link)

-- a host sends a packet; there is none larger than the largest
unfoldable pub sends : Net → Ip → Packet → Wire → Wire
sends net own packet (link, wanted) =
    if nat_lt MAX_PACKET (packet_size packet) then (link, wanted)
    else if stays_here own packet then (loops packet link, wanted)
    else goes_up net packet (link, wanted)

-- packets that the rule of a lane's queue dropped
unfoldable pub drop_all : List Packet → LinkState → LinkState
drop_all [] link = link
drop_all (packet ∷ packets) link = drop_all packets (logs Codel packet link)

-- the lane to the network releases what it can, and its next release is made after all that
abbrev pub on_link : (LinkState → LinkState) → Wire → Wire
on_link act (link, wanted) = (act link, wanted)

abbrev pub after_up : Net → Wanted → Release × LinkState → Wire
after_up net wanted (release, link) =
    on_link (makes_if release.next what.Up) (leave_all net release.packets (drop_all release.dropped link, wanted))

unfoldable pub up_comes : Net → Wire → Wire
up_comes net (link, wanted) = after_up net wanted (releases_up link)

-- the parts of a wire
abbrev pub IsWire : LinkState → Wanted → Wire → Type 0
IsWire link wanted wire = (link ≡ wire.0) × (wanted ≡ wire.1)
