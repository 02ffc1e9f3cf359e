-- The packet whose datagram some bytes are.
use Rattle.std.specs.Prelude.{◌≡◌, ℕ, ◌+◌, ◌<◌, ◌^◌, ◌==◌, ◌&&◌, List, [], ◌∷◌, length, drop, slice_index, Option, Some, None, nat_le, if◌then◌else◌}
use Rattle.std.specs.Int.{w16, w32, from_be_bytes}
use Rattle.sim_base.specs.declared.address.Addr.{Addr}
use Rattle.sim_base.specs.declared.packet.Load.{Load}
use Rattle.sim_base.specs.declared.packet.Load.TheVariants.{Udp, Tcp}
use Rattle.sim_base.specs.declared.packet.Packet.{Packet}
use Rattle.sim_base.specs.Packet.{ipv4_header, udp_header, tcp_header}
use Rattle.pcap_text.specs.Datagram.{udp_protocol, tcp_protocol, datagram}
use Rattle.pcap_text.specs.declared.capture.Record.{Record}

-- the numbers that the two and the four bytes at a place hold, big-endian
abbrev pub half : List ℕ → ℕ → ℕ
half bytes at = from_be_bytes w16 (slice_index bytes at ∷ slice_index bytes (at + 1) ∷ [])

abbrev pub word : List ℕ → ℕ → ℕ
word bytes at = from_be_bytes w32 (slice_index bytes at ∷ slice_index bytes (at + 1) ∷ slice_index bytes (at + 2) ∷ slice_index bytes (at + 3) ∷ [])

-- the end that has its address and its port at these places
abbrev pub end_at : List ℕ → ℕ → ℕ → Addr
end_at bytes ip port = record { ip = record { bits = word bytes ip }; port = half bytes port }

-- the bytes of the headers before the text
abbrev pub udp_headers : ℕ
udp_headers = ipv4_header + udp_header

abbrev pub tcp_headers : ℕ
tcp_headers = ipv4_header + tcp_header

abbrev pub udp_at : List ℕ → Load
udp_at bytes = Udp (drop udp_headers bytes)

abbrev pub tcp_at : List ℕ → Load
tcp_at bytes = Tcp (slice_index bytes 33) (word bytes 24) (word bytes 28) (half bytes 34) (drop tcp_headers bytes)

abbrev pub packet_with : List ℕ → Load → Packet
packet_with bytes load = record { from = end_at bytes 12 20; to = end_at bytes 16 22; load = load }

-- the packet that the fields of a datagram tell, whatever else stands in its headers
unfoldable pub fields : List ℕ → Option Packet
fields bytes =
    if nat_le udp_headers (length bytes) && (slice_index bytes 9 == udp_protocol) then Some (packet_with bytes (udp_at bytes))
    else if nat_le tcp_headers (length bytes) && (slice_index bytes 9 == tcp_protocol) then Some (packet_with bytes (tcp_at bytes))
    else None

-- the numbers of a packet fit their types
abbrev pub FitsAddr : Addr → Type 0
FitsAddr a = (a.ip.bits < 2 ^ 32) × (a.port < 2 ^ 16)

abbrev pub FitsLoad : Load → Type 0
FitsLoad (Udp text) = Unit {0}
FitsLoad (Tcp flags seq ack window text) = (flags < 2 ^ 8) × (seq < 2 ^ 32) × (ack < 2 ^ 32) × (window < 2 ^ 16)

pub record Fits (p : Packet) : Type 0 where
  pub from : FitsAddr p.from
  pub to : FitsAddr p.to
  pub load : FitsLoad p.load

-- what was found is each packet whose datagram the bytes are: there is at most one
abbrev pub IsEach : List ℕ → Option Packet → Type 0
IsEach bytes found = (p : Packet) → Fits p → datagram p ≡ Some bytes → found ≡ Some p

-- a record keeps the whole datagram of a packet
pub record KeepsWhole (r : Record) (p : Packet) : Type 0 where
  pub whole : length r.kept ≡ r.whole
  pub fits : Fits p
  pub datagram_is : datagram p ≡ Some r.kept

-- the packet of which a record keeps the whole datagram, if there is one
abbrev pub IsPacketIn : Record → Option Packet → Type 0
IsPacketIn r (Some p) = KeepsWhole r p
IsPacketIn r None = (p : Packet) → ¬ (KeepsWhole r p)
