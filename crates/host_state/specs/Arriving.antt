-- How packets arrive at a host.
use Rattle.std.specs.Prelude.{List, [], ◌∷◌, nat_lt, if◌then◌else◌}
use Rattle.sim_base.specs.declared.act.Act.{Act}
use Rattle.sim_base.specs.declared.act.Act.TheVariants.{FullDown}
use Rattle.sim_base.specs.declared.event.What.TheVariants as what
use Rattle.sim_base.specs.declared.packet.Packet.{Packet}
use Rattle.sim_base.specs.declared.size.TheConstants.{MAX_PACKET}
use Rattle.sim_base.specs.Packet.{packet_size}
use Rattle.net_iface.specs.Lane.{Release}
use Rattle.net_iface.specs.declared.lane.Pushed.{Pushed}
use Rattle.net_iface.specs.declared.lane.Pushed.TheVariants.{Leaves, Waits, Dropped}
use Rattle.host_calls.specs.Events.{arrives}
use Rattle.host_calls.specs.Parts.{PartsRecord}
use Rattle.host_link.specs.Net.{Net}
use Rattle.host_state.specs.HostRecord.{HostRecord}
use Rattle.host_link.specs.Link.{LinkState, logs}
use Rattle.host_link.specs.Lanes.{pushes_down, releases_down}
use Rattle.host_link.specs.Sending.{is_bootstrapping, makes_if, drop_all}
use Rattle.host_state.specs.Host.{with_link, with_parts, does_wanted}

-- the sockets have a packet, which is logged before what they send
abbrev pub has_arrived : Net → Packet → Act × PartsRecord → HostRecord → HostRecord
has_arrived net packet (act, parts) host = does_wanted net (with_parts parts (with_link (logs act packet host.link) host))

unfoldable pub is_handed_over : Net → Packet → HostRecord → HostRecord
is_handed_over net packet host = has_arrived net packet (arrives host.link.time packet host.parts) host

unfoldable pub are_handed_over : Net → List Packet → HostRecord → HostRecord
are_handed_over net [] host = host
are_handed_over net (packet ∷ packets) host = are_handed_over net packets (is_handed_over net packet host)

-- what became of a packet that came to the router's lane
abbrev pub goes_in : Net → Pushed → HostRecord → HostRecord
goes_in net (Leaves packet) host = is_handed_over net packet host
goes_in net (Waits due) host = with_link (makes_if due what.Down host.link) host
goes_in net (Dropped packet) host = with_link (logs FullDown packet host.link) host

abbrev pub went_in : Net → Pushed × LinkState → HostRecord → HostRecord
went_in net (pushed, link) host = goes_in net pushed (with_link link host)

-- a packet comes to the router's lane
unfoldable pub comes_to_router : Net → Packet → HostRecord → HostRecord
comes_to_router net packet host = went_in net (pushes_down packet host.link) host

-- a packet of another host; there is none larger than the largest
unfoldable pub comes_in : Net → Packet → HostRecord → HostRecord
comes_in net packet host =
    if nat_lt MAX_PACKET (packet_size packet) then host
    else if is_bootstrapping net host.link.time then is_handed_over net packet host
    else comes_to_router net packet host

-- the router's lane releases what it can, and makes its next release after that
abbrev pub makes_next_down : Release → HostRecord → HostRecord
makes_next_down release host = with_link (makes_if release.next what.Down host.link) host

abbrev pub after_down : Net → Release × LinkState → HostRecord → HostRecord
after_down net (release, link) host = makes_next_down release (are_handed_over net release.packets (with_link (drop_all release.dropped link) host))

unfoldable pub down_comes : Net → HostRecord → HostRecord
down_comes net host = after_down net (releases_down host.link) host
