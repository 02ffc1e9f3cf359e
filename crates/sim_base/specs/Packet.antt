-- the sizes and the flags of packets
use Rattle.std.specs.Prelude.{◌≡◌, ℕ, ◌+◌, length, refl}
use Rattle.sim_base.specs.declared.packet.Load.{Load}
use Rattle.sim_base.specs.declared.packet.Load.TheVariants.{Udp, Tcp}
use Rattle.sim_base.specs.declared.packet.Packet.{Packet}

-- the header of IPv4 without options (RFC 791, section 3.1)
abbrev pub ipv4_header : ℕ
ipv4_header = 20

-- the header of a datagram (RFC 768)
abbrev pub udp_header : ℕ
udp_header = 8

-- the header of a segment without options (RFC 9293, section 3.1)
abbrev pub tcp_header : ℕ
tcp_header = 20

abbrev pub load_size : Load → ℕ
load_size (Udp text) = udp_header + length text
load_size (Tcp flags seq ack window text) = tcp_header + length text

-- the size of a packet, with its headers
abbrev pub packet_size : Packet → ℕ
packet_size p = ipv4_header + load_size p.load

-- the most bytes of a packet, as Ethernet carries them (RFC 894)
abbrev pub max_packet : ℕ
max_packet = 1500

-- the most bytes of a datagram's text and of a segment's
abbrev pub max_datagram : ℕ
max_datagram = 1472

abbrev pub max_segment : ℕ
max_segment = 1460

max_datagram_fills : ipv4_header + (udp_header + max_datagram) ≡ max_packet
max_datagram_fills = refl

max_segment_fills : ipv4_header + (tcp_header + max_segment) ≡ max_packet
max_segment_fills = refl

-- the flags of a segment (RFC 9293, section 3.1)
abbrev pub fin_flag : ℕ
fin_flag = 1

abbrev pub syn_flag : ℕ
syn_flag = 2

abbrev pub rst_flag : ℕ
rst_flag = 4

abbrev pub ack_flag : ℕ
ack_flag = 16
