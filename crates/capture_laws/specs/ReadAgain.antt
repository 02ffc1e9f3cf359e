-- A capture of a run, read again.
use Rattle.std.specs.Prelude.{◌≡◌, ◌↔◌, ℕ, ◌≤◌, List, ◌++◌, map, flat_map, Option, Some, Ok}
use Rattle.std.specs.List.{AllByRecursion}
use Rattle.sim_base.specs.Packet.{packet_size, max_packet}
use Rattle.sim_base.specs.Units.{latest_time}
use Rattle.sim_base.specs.declared.packet.Packet.{Packet}
use Rattle.pcap_text.specs.Datagram.{datagram_bytes}
use Rattle.pcap_text.specs.Packets.{IsPacketIn}
use Rattle.pcap_text.specs.Reading.{pcap}
use Rattle.pcap_text.specs.Writing.{head}
use Rattle.pcap_text.specs.declared.capture.Record.{Record}
use Rattle.out_text.specs.Captured.{packet_line}
use Rattle.run_answers.specs.Captured.{AreLinesOf}
use Rattle.run_files.specs.Captures.{records_of}
use Rattle.host_link.specs.declared.line.Line.{Line}

-- a packet as Ethernet carries it, at a time that a run can have
pub record IsInRange (l : Line) : Type 0 where
  pub time : l.time.nanos ≤ latest_time
  pub size : packet_size l.packet ≤ max_packet

abbrev pub AllInRange : List Line → Type 0
AllInRange lines = AllByRecursion IsInRange lines

-- the record of a line that keeps all bytes of its packet's datagram
abbrev pub whole_record : Line → Record
whole_record l = record { time = l.time; whole = packet_size l.packet; kept = datagram_bytes l.packet }

-- a line of the packet log without its host and its act
abbrev pub told : Line → List ℕ
told l = packet_line l.time l.packet

-- the head and the records of lines are read as these records, each with its line's time; each is the datagram of its line's packet and of
-- no other; and what is listed of them are the lines
pub record AreReadAgain (size : ℕ) (lines : List Line) : Type 0 where
  pub records : pcap (head size ++ records_of size lines) ≡ Ok (record { size = size; records = map whole_record lines })
  pub packets : AllByRecursion (λ (l : Line). (found : Option Packet) → IsPacketIn (whole_record l) found ↔ (found ≡ Some l.packet)) lines
  pub listed : (text : List ℕ) → AreLinesOf (map whole_record lines) text ↔ (text ≡ flat_map told lines)
