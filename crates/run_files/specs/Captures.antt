-- What a host captures of its packets: which lines of the packet log, and the bytes of each as the pcap format has them.
use Rattle.std.specs.Prelude.{ℕ, ◌==◌, Bool, true, false, not, ◌&&◌, ◌||◌, List, [], Option, Some, None, nat_le, if◌then◌else◌, flat_map}
use Rattle.std.specs.List.{filter}
use Rattle.sim_base.specs.Addresses.{is_same_ip, loopback}
use Rattle.sim_base.specs.Packet.{packet_size, max_packet}
use Rattle.sim_base.specs.Units.{latest_time}
use Rattle.sim_base.specs.declared.act.Act.{Act}
use Rattle.sim_base.specs.declared.act.Act.TheVariants.{Send, Recv, SockFull, NoPort}
use Rattle.sim_base.specs.declared.address.Ip.{Ip}
use Rattle.sim_base.specs.declared.packet.Packet.{Packet}
use Rattle.pcap_text.specs.Writing.{packet_record}
use Rattle.host_link.specs.declared.line.Line.{Line}

-- whether a host has a capture size
abbrev pub is_there : Option ℕ → Bool
is_there None = false
is_there (Some size) = true

-- ---- loopback

-- an address of the host itself: 127.0.0.1, or its own
abbrev pub is_own : Ip → Ip → Bool
is_own own ip = is_same_ip ip loopback || is_same_ip ip own

-- a packet from the host to itself, which never comes to the network
abbrev pub is_loopback : Ip → Packet → Bool
is_loopback own packet = is_own own packet.from.ip && is_own own packet.to.ip

-- ---- lines

abbrev pub is_sent : Act → Bool
is_sent Send = true
is_sent _ = false

-- a packet was sent to the network, or came from there to the host, whatever its socket did
abbrev pub passes : Act → Bool
passes Send = true
passes Recv = true
passes SockFull = true
passes NoPort = true
passes _ = false

-- at the interface to the network, and at that of loopback, where each packet is captured as it is sent
abbrev pub is_on_eth0 : Ip → Line → Bool
is_on_eth0 own line = passes line.act && not (is_loopback own line.packet)

abbrev pub is_on_lo : Ip → Line → Bool
is_on_lo own line = is_sent line.act && is_loopback own line.packet

abbrev pub is_at : ℕ → Line → Bool
is_at number line = line.host.index == number

-- the lines of a host, by its number and address, that its two captures have, in the order of the log
abbrev pub eth0_of : ℕ → Ip → List Line → List Line
eth0_of number own lines = filter (λ (line : Line). is_at number line && is_on_eth0 own line) lines

abbrev pub lo_of : ℕ → Ip → List Line → List Line
lo_of number own lines = filter (λ (line : Line). is_at number line && is_on_lo own line) lines

-- ---- bytes

-- a packet as Ethernet carries it, at a time that a run can have
abbrev pub has_record : Line → Bool
has_record line = nat_le (packet_size line.packet) max_packet && nat_le line.time.nanos latest_time

-- the record of a line in a capture with a capture size
abbrev pub line_record : ℕ → Line → List ℕ
line_record size line = if has_record line then packet_record size line.time line.packet else []

abbrev pub records_of : ℕ → List Line → List ℕ
records_of size lines = flat_map (line_record size) lines
