-- What is written is read again, and verifies.
use Rattle.std.specs.Prelude.{◌≡◌, ℕ, ◌<◌, ◌≤◌, ◌^◌, List, ◌++◌, map, take, drop, Option, Some, Ok}
use Rattle.std.specs.List.{flat_map, AllByRecursion}
use Rattle.sim_base.specs.Units.{latest_time}
use Rattle.sim_base.specs.Packet.{packet_size, ipv4_header, max_packet}
use Rattle.sim_base.specs.declared.packet.Load.{Load}
use Rattle.sim_base.specs.declared.packet.Load.TheVariants.{Udp, Tcp}
use Rattle.sim_base.specs.declared.packet.Packet.{Packet}
use Rattle.sim_base.specs.declared.time.Time.{Time}
use Rattle.pcap_text.specs.declared.capture.Record.{Record}
use Rattle.pcap_text.specs.Checksum.{Verifies}
use Rattle.pcap_text.specs.Datagram.{datagram_bytes, pseudo_header}
use Rattle.pcap_text.specs.Packets.{Fits, IsEach}
use Rattle.pcap_text.specs.Reading.{pcap}
use Rattle.pcap_text.specs.Writing.{head, packet_record}

-- a packet, and when it was captured
pub record Taken : Type 0 where
  pub time : Time
  pub packet : Packet

-- what `record` may be called with
pub record MayBeRecorded (t : Taken) : Type 0 where
  pub time : t.time.nanos ≤ latest_time
  pub size : packet_size t.packet ≤ max_packet
  pub fits : Fits t.packet

-- the head and the records of packets in order
abbrev pub written : ℕ → List Taken → List ℕ
written size ts = head size ++ flat_map (λ t. packet_record size t.time t.packet) ts

-- the record of a packet of which all bytes are kept
abbrev pub whole_record : Taken → Record
whole_record t = record { time = t.time; whole = packet_size t.packet; kept = datagram_bytes t.packet }

-- a capture is read as what was written into it, and what its records hold are the packets
pub record IsReadBack (size : ℕ) (ts : List Taken) : Type 0 where
  pub records : pcap (written size ts) ≡ Ok (record { size = size; records = map whole_record ts })
  pub packets : AllByRecursion (λ t. (found : Option Packet) → IsEach (whole_record t).kept found → found ≡ Some t.packet) ts

abbrev pub IsByte : ℕ → Type 0
IsByte b = b < 2 ^ 8

abbrev pub IsText : Load → Type 0
IsText (Udp text) = AllByRecursion IsByte text
IsText (Tcp flags seq ack window text) = AllByRecursion IsByte text

-- a packet whose numbers and bytes fit their types
pub record IsWhole (p : Packet) : Type 0 where
  pub fits : Fits p
  pub text : IsText p.load

-- the checksum of the IPv4 header, and that of what stands behind it
pub record ChecksumsVerify (p : Packet) : Type 0 where
  pub network : Verifies (take ipv4_header (datagram_bytes p))
  pub transport : Verifies (pseudo_header p ++ drop ipv4_header (datagram_bytes p))
