-- What is shown of a capture: a line for each record.
use Rattle.std.specs.Prelude.{◌≡◌, ℕ, List, [], ◌∷◌, ◌++◌, length, Option, Some, None}
use Rattle.sim_base.specs.declared.packet.Packet.{Packet}
use Rattle.out_text.specs.Captured.{packet_line, cut_line}
use Rattle.pcap_text.specs.Packets.{IsPacketIn}
use Rattle.pcap_text.specs.declared.capture.Record.{Record}

-- the line of a record: of the packet of which it keeps the whole datagram, if there is one, or else of what was cut
abbrev pub line_with : Record → Option Packet → List ℕ
line_with r (Some p) = packet_line r.time p
line_with r None = cut_line r.time (length r.kept) r.whole

-- the lines of records, in their order
abbrev pub AreLinesOf : List Record → List ℕ → Type 0
AreLinesOf [] text = text ≡ []
AreLinesOf (r ∷ rs) text = (found : Option Packet) × (rest : List ℕ) × IsPacketIn r found × AreLinesOf rs rest × (text ≡ line_with r found ++ rest)
