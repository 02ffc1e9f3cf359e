-- A capture of packets as bytes, as the pcap format has them (draft-ietf-opsawg-pcap), little-endian.
use Rattle.std.specs.Prelude.{ℕ, ◌+◌, ◌/◌, ◌%◌, List, ◌++◌, length, take}
use Rattle.std.specs.Int.{w16, w32, to_le_bytes}
use Rattle.sim_base.specs.Packet.{packet_size}
use Rattle.sim_base.specs.Units.{second, unix_start}
use Rattle.sim_base.specs.declared.packet.Packet.{Packet}
use Rattle.sim_base.specs.declared.time.Time.{Time}
use Rattle.pcap_text.specs.Datagram.{datagram_bytes}

-- the magic number of a file whose fractions of seconds are nanoseconds, and of one whose are microseconds
abbrev pub nanosecond_magic : ℕ
nanosecond_magic = 0xA1B23C4D

abbrev pub microsecond_magic : ℕ
microsecond_magic = 0xA1B2C3D4

-- LINKTYPE_RAW: each packet begins with its IPv4 header
abbrev pub raw : ℕ
raw = 101

-- version 2.4 of the format
abbrev pub major_version : ℕ
major_version = 2

abbrev pub minor_version : ℕ
minor_version = 4

-- the head of a file: the magic number, the version, two reserved words, the capture size, the link type
abbrev pub head : ℕ → List ℕ
head size = to_le_bytes w32 nanosecond_magic ++ (to_le_bytes w16 major_version ++ (to_le_bytes w16 minor_version ++ (to_le_bytes w32 0 ++ (to_le_bytes w32 0 ++ (to_le_bytes w32 size ++ to_le_bytes w32 raw)))))

-- the bytes of the head, and of what stands before the bytes of a record
abbrev pub head_size : ℕ
head_size = 24

abbrev pub front_size : ℕ
front_size = 16

-- what stands before the bytes of a record: seconds, their fraction, how many bytes are kept, and how many the packet had
abbrev pub record_front : ℕ → ℕ → ℕ → ℕ → List ℕ
record_front seconds fraction kept whole = to_le_bytes w32 seconds ++ (to_le_bytes w32 fraction ++ (to_le_bytes w32 kept ++ to_le_bytes w32 whole))

-- a record, with the bytes that are kept
abbrev pub record_bytes : ℕ → ℕ → ℕ → List ℕ → List ℕ
record_bytes seconds fraction whole kept = record_front seconds fraction (length kept) whole ++ kept

-- the record of a packet in a file with a capture size
abbrev pub packet_record : ℕ → Time → Packet → List ℕ
packet_record size time p = record_bytes (unix_start + time.nanos / second) (time.nanos % second) (packet_size p) (take size (datagram_bytes p))
