-- Lines of the packet log whose packets' numbers fit their types.
use Rattle.std.specs.Prelude.{List}
use Rattle.std.specs.List.{AllByRecursion}
use Rattle.pcap_text.specs.Packets.{Fits}
use Rattle.host_link.specs.declared.line.Line.{Line}

-- the numbers of the packets fit their types, as those of each packet of the program do
abbrev pub AllFit : List Line → Type 0
AllFit lines = AllByRecursion (λ (l : Line). Fits l.packet) lines
