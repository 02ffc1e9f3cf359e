-- The two lanes of a link.
use Rattle.std.specs.Prelude.{◌≡◌}
use Rattle.sim_base.specs.declared.packet.Packet.{Packet}
use Rattle.net_iface.specs.Lane.{LaneState, Release, pushed, released}
use Rattle.net_iface.specs.declared.lane.Pushed.{Pushed}
use Rattle.net_iface.specs.declared.lane.Released.{Released}
use Rattle.host_link.specs.Link.{LinkState}

abbrev pub with_up : LaneState → LinkState → LinkState
with_up lane link = record link { up = lane }

abbrev pub with_down : LaneState → LinkState → LinkState
with_down lane link = record link { down = lane }

-- a packet comes to the lane to the network
abbrev pub up_pushed : LinkState → Pushed × LaneState → Pushed × LinkState
up_pushed link (pushed, lane) = (pushed, with_up lane link)

abbrev pub pushes_up : Packet → LinkState → Pushed × LinkState
pushes_up packet link = up_pushed link (pushed link.time packet link.up)

-- a packet comes to the router's lane
abbrev pub down_pushed : LinkState → Pushed × LaneState → Pushed × LinkState
down_pushed link (pushed, lane) = (pushed, with_down lane link)

abbrev pub pushes_down : Packet → LinkState → Pushed × LinkState
pushes_down packet link = down_pushed link (pushed link.time packet link.down)

-- a lane releases what it can
abbrev pub up_released : LinkState → Release → Release × LinkState
up_released link release = (release, with_up release.lane link)

abbrev pub releases_up : LinkState → Release × LinkState
releases_up link = up_released link (released link.time link.up)

abbrev pub down_released : LinkState → Release → Release × LinkState
down_released link release = (release, with_down release.lane link)

abbrev pub releases_down : LinkState → Release × LinkState
releases_down link = down_released link (released link.time link.down)

-- what the code answers is that release
pub record Releases (answer : Released) (l : LinkState) (t : Release × LinkState) : Type 0 where
  pub packets : answer.packets.items ≡ t.0.packets
  pub dropped : answer.dropped.items ≡ t.0.dropped
  pub next : answer.next ≡ t.0.next
  pub link : l ≡ t.1
