use Rattle.std.specs.Prelude.{ℕ, List, codes}
use Rattle.pcap_text.specs.declared.fault.PcapKind.{PcapKind}
use Rattle.pcap_text.specs.declared.fault.PcapKind.TheVariants.{Truncated, Magic, Version, Link, Time, Length}

-- the word for messages
abbrev pub word_of : PcapKind → List ℕ
word_of Truncated = codes "truncated"
word_of Magic = codes "magic"
word_of Version = codes "version"
word_of Link = codes "link"
word_of Time = codes "time"
word_of Length = codes "length"
