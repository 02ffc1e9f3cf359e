-- What the bytes of a capture tell, or their first fault (draft-ietf-opsawg-pcap). Numbers are little-endian.
use Rattle.std.specs.Prelude.{◌≡◌, ℕ, zero, suc, ◌+◌, ◌-◌, ◌*◌, ◌==◌, Bool, not, ◌&&◌, ◌||◌, List, [], ◌∷◌, length, take, drop, find, slice_index, Option, Some, None, option_map, Result, Ok, Err, nat_lt, nat_le, if◌then◌else◌}
use Rattle.std.specs.Int.{w16, w32, from_le_bytes}
use Rattle.sim_base.specs.Units.{microsecond, second, unix_start}
use Rattle.pcap_text.specs.declared.capture.Capture.{Capture}
use Rattle.pcap_text.specs.declared.capture.Record.{Record}
use Rattle.pcap_text.specs.declared.fault.PcapError.{PcapError}
use Rattle.pcap_text.specs.declared.fault.PcapError.TheVariants.{Fault, NoMemory}
use Rattle.pcap_text.specs.declared.fault.PcapFault.{PcapFault}
use Rattle.pcap_text.specs.declared.fault.PcapKind.{PcapKind}
use Rattle.pcap_text.specs.declared.fault.PcapKind.TheVariants.{Truncated, Magic, Version, Link, Time, Length}
use Rattle.pcap_text.specs.Writing.{nanosecond_magic, microsecond_magic, raw, major_version, minor_version, head_size, front_size}

-- the numbers that the two and the four bytes at a place hold
abbrev pub half : List ℕ → ℕ → ℕ
half bytes at = from_le_bytes w16 (slice_index bytes at ∷ slice_index bytes (at + 1) ∷ [])

abbrev pub word : List ℕ → ℕ → ℕ
word bytes at = from_le_bytes w32 (slice_index bytes at ∷ slice_index bytes (at + 1) ∷ slice_index bytes (at + 2) ∷ slice_index bytes (at + 3) ∷ [])

-- a reason to refuse, whether it stands, and what is wrong then
abbrev pub Check : Type 0
Check = Bool × PcapKind

abbrev pub first : List Check → Option PcapKind
first checks = option_map (λ c. c.1) (find (λ c. c.0) checks)

-- the head: the magic number, the version, two words, the capture size, the link type
unfoldable pub head_checks : List ℕ → List Check
head_checks bytes =
    (nat_lt (length bytes) head_size, Truncated)
    ∷ (not (word bytes 0 == nanosecond_magic || word bytes 0 == microsecond_magic), Magic)
    ∷ (not (half bytes 4 == major_version && half bytes 6 == minor_version), Version)
    ∷ (not (word bytes 20 == raw), Link)
    ∷ []

-- the nanoseconds in a unit of the fractions
abbrev pub unit_of : List ℕ → ℕ
unit_of bytes = if word bytes 0 == microsecond_magic then microsecond else 1

abbrev pub size_of : List ℕ → ℕ
size_of bytes = word bytes 16

-- the fields before the bytes of a record: seconds, their fraction, how many bytes are kept, how many the packet had
abbrev pub seconds_of : List ℕ → ℕ
seconds_of bytes = word bytes 0

abbrev pub nanos_of : ℕ → List ℕ → ℕ
nanos_of unit bytes = word bytes 4 * unit

abbrev pub kept_of : List ℕ → ℕ
kept_of bytes = word bytes 8

abbrev pub whole_of : List ℕ → ℕ
whole_of bytes = word bytes 12

-- a record at the front of some bytes
unfoldable pub record_checks : ℕ → ℕ → List ℕ → List Check
record_checks unit size bytes =
    (nat_lt (length bytes) front_size || nat_lt (length bytes) (front_size + kept_of bytes), Truncated)
    ∷ (nat_lt (seconds_of bytes) unix_start || nat_le second (nanos_of unit bytes), Time)
    ∷ (nat_lt (whole_of bytes) (kept_of bytes) || nat_lt size (kept_of bytes), Length)
    ∷ []

abbrev pub record_of : ℕ → List ℕ → Record
record_of unit bytes = record {
  time = record { nanos = (seconds_of bytes - unix_start) * second + nanos_of unit bytes };
  whole = whole_of bytes;
  kept = take (kept_of bytes) (drop front_size bytes);
}

-- a record before others, unless it has a fault, which is told with its place
abbrev pub before : ℕ → Option PcapKind → Record → Result (List Record) PcapFault → Result (List Record) PcapFault
before at (Some kind) r others = Err (record { at = at; kind = kind })
before at None r (Ok others) = Ok (r ∷ others)
before at None r (Err fault) = Err fault

-- the records in bytes that stand at a place of a file, where some bytes are still of the record before
unfoldable pub records : ℕ → ℕ → ℕ → ℕ → List ℕ → Result (List Record) PcapFault
records unit size at skip [] = Ok []
records unit size at (suc skip) (b ∷ bytes) = records unit size (at + 1) skip bytes
records unit size at zero (b ∷ bytes) =
    before at (first (record_checks unit size (b ∷ bytes))) (record_of unit (b ∷ bytes)) (records unit size (at + 1) (front_size - 1 + kept_of (b ∷ bytes)) bytes)

abbrev pub behind : Option PcapKind → ℕ → Result (List Record) PcapFault → Result Capture PcapFault
behind (Some kind) size rs = Err (record { at = 0; kind = kind })
behind None size (Ok rs) = Ok (record { size = size; records = rs })
behind None size (Err fault) = Err fault

-- what the bytes of a capture tell, or their first fault
unfoldable pub pcap : List ℕ → Result Capture PcapFault
pcap bytes = behind (first (head_checks bytes)) (size_of bytes) (records (unit_of bytes) (size_of bytes) head_size 0 (drop head_size bytes))

-- a refusal tells the fault, or that memory ran out
abbrev pub IsRefusal : {A : Type 0} → Result A PcapFault → PcapError → Type 0
IsRefusal read (Fault fault) = read ≡ Err fault
IsRefusal read NoMemory = Unit {0}

-- the fault at a place that checks found, or that memory ran out
abbrev pub IsFound : ℕ → Option PcapKind → PcapError → Type 0
IsFound at found (Fault fault) = (found ≡ Some fault.kind) × (fault.at ≡ at)
IsFound at found NoMemory = Unit {0}
