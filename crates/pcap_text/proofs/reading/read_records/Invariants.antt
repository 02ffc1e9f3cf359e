use Rattle.std.proofs.Common.{◌≡◌, ◌+◌, length, drop}
use Rattle.pcap_text.specs.Reading.{records}
use Rattle.pcap_text.proofs.RecordLemmas.{joined}
use Rattle.pcap_text.proofs.reading.read_records.Given as goal
use Rattle.pcap_text.specs.Writing.{head_size}

-- the records so far and those in what is left are all of them
abbrev pub invariant-loop-rest : goal.invariant-loop-rest
invariant-loop-rest l = record {
  place : l.at + length l.rest ≡ length l.bytes;
  told : joined l.records.items (records l.head.unit l.head.size l.at 0 l.rest) ≡ records l.head.unit l.head.size head_size 0 (drop head_size l.bytes);
}

abbrev pub decreases-loop-rest : goal.decreases-loop-rest
decreases-loop-rest l = length l.rest
