-- packets whose numbers and bytes fit their types
use Rattle.std.specs.Prelude.{List}
use Rattle.std.specs.List.{AllByRecursion}
use Rattle.sim_base.specs.declared.packet.Packet.{Packet}
use Rattle.pcap_text.specs.Laws.{IsWhole}
use Rattle.host_wants.specs.declared.outlet.Want.{Want}
use Rattle.host_wants.specs.declared.outlet.Want.TheVariants.{Send, Alarm}
use Rattle.host_wants.specs.Wanted.{Wanted}

abbrev pub AreWhole : List Packet → Type 0
AreWhole packets = AllByRecursion IsWhole packets

-- the packets that are wanted to be sent
abbrev pub WantFits : Want → Type 0
WantFits (Send p) = IsWhole p
WantFits (Alarm target serial due) = Unit {0}

abbrev pub WantsFit : Wanted → Type 0
WantsFit w = AllByRecursion WantFits w.wants
