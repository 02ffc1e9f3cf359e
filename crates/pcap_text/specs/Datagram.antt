-- A packet as bytes: an IPv4 header without options (RFC 791, section 3.1), and behind it UDP (RFC 768)
-- or TCP without options (RFC 9293, section 3.1). Numbers are big-endian.
use Rattle.std.specs.Prelude.{ℕ, ◌+◌, ◌-◌, ◌^◌, ◌==◌, List, [], ◌∷◌, ◌++◌, length, Option, Some, None, nat_le, if◌then◌else◌}
use Rattle.std.specs.Int.{w16, w32, to_be_bytes}
use Rattle.sim_base.specs.Packet.{packet_size, load_size, udp_header}
use Rattle.sim_base.specs.declared.packet.Load.{Load}
use Rattle.sim_base.specs.declared.packet.Load.TheVariants.{Udp, Tcp}
use Rattle.sim_base.specs.declared.packet.Packet.{Packet}
use Rattle.pcap_text.specs.Checksum.{all_ones, checksum}

-- the numbers of the protocols (IANA, "Protocol Numbers")
abbrev pub udp_protocol : ℕ
udp_protocol = 17

abbrev pub tcp_protocol : ℕ
tcp_protocol = 6

-- the protocol's number in an IPv4 header
abbrev pub protocol : Load → ℕ
protocol (Udp text) = udp_protocol
protocol (Tcp flags seq ack window text) = tcp_protocol

-- version 4, and a header of 5 words
abbrev pub version_and_words : ℕ
version_and_words = 0x45

-- the flag DF, in the high byte of flags and offset
abbrev pub dont_fragment : ℕ
dont_fragment = 0x40

abbrev pub time_to_live : ℕ
time_to_live = 64

-- version and words, type of service 0, the whole length, identification 0, the flag DF and offset 0, the time to live,
-- the protocol, the checksum, the addresses
abbrev pub ip_header : ℕ → Packet → List ℕ
ip_header check p = version_and_words ∷ 0 ∷ (to_be_bytes w16 (packet_size p) ++ (0 ∷ 0 ∷ dont_fragment ∷ 0 ∷ time_to_live ∷ protocol p.load
    ∷ (to_be_bytes w16 check ++ (to_be_bytes w32 p.from.ip.bits ++ to_be_bytes w32 p.to.ip.bits))))

-- the ports, the length of header and text, the checksum
abbrev pub udp_front : ℕ → ℕ → ℕ → List ℕ → List ℕ
udp_front check from to text = to_be_bytes w16 from ++ (to_be_bytes w16 to ++ (to_be_bytes w16 (udp_header + length text) ++ to_be_bytes w16 check))

-- a data offset of 5 words
abbrev pub data_offset : ℕ
data_offset = 0x50

-- the ports, SEQ, ACK, the data offset, the flags, the window, the checksum, an urgent pointer of 0
abbrev pub tcp_front : ℕ → ℕ → ℕ → ℕ → ℕ → ℕ → ℕ → List ℕ
tcp_front check from to flags seq ack window = to_be_bytes w16 from ++ (to_be_bytes w16 to ++ (to_be_bytes w32 seq ++ (to_be_bytes w32 ack
    ++ (data_offset ∷ flags ∷ (to_be_bytes w16 window ++ (to_be_bytes w16 check ++ (0 ∷ 0 ∷ [])))))))

-- what stands behind the IPv4 header: the header of UDP or of TCP with a checksum, and the text
abbrev pub segment_of : ℕ → ℕ → ℕ → Load → List ℕ
segment_of check from to (Udp text) = udp_front check from to text ++ text
segment_of check from to (Tcp flags seq ack window text) = tcp_front check from to flags seq ack window ++ text

abbrev pub segment : ℕ → Packet → List ℕ
segment check p = segment_of check p.from.port p.to.port p.load

-- what the checksum of UDP and of TCP speaks of beside their own bytes: the addresses, 0, the protocol, the length
abbrev pub pseudo_header : Packet → List ℕ
pseudo_header p = to_be_bytes w32 p.from.ip.bits ++ (to_be_bytes w32 p.to.ip.bits ++ (0 ∷ protocol p.load ∷ to_be_bytes w16 (load_size p.load)))

-- in UDP a checksum of 0 is sent as all ones, since 0 means none there
abbrev pub udp_sent : ℕ → ℕ
udp_sent check = if check == 0 then all_ones else check

abbrev pub sent : Load → ℕ → ℕ
sent (Udp text) check = udp_sent check
sent (Tcp flags seq ack window text) check = check

abbrev pub ip_check : Packet → ℕ
ip_check p = checksum (ip_header 0 p)

abbrev pub segment_check : Packet → ℕ
segment_check p = sent p.load (checksum (pseudo_header p ++ segment 0 p))

unfoldable pub datagram_bytes : Packet → List ℕ
datagram_bytes p = ip_header (ip_check p) p ++ segment (segment_check p) p

-- the most bytes of a datagram: its length has 16 bits
abbrev pub longest : ℕ
longest = 2 ^ 16 - 1

-- the datagram of a packet; one that is longer has none
abbrev pub datagram : Packet → Option (List ℕ)
datagram p = if nat_le (packet_size p) longest then Some (datagram_bytes p) else None
