use Rattle.std.proofs.Common.{length}
use Rattle.pcap_text.proofs.Folding.{IsLeft}
use Rattle.pcap_text.proofs.checksum.sum_on.Given as goal

-- what is left completes the folded sum
abbrev pub invariant-loop-rest : goal.invariant-loop-rest
invariant-loop-rest l = IsLeft l.fn.sum l.bytes l.wide l.rest

abbrev pub decreases-loop-rest : goal.decreases-loop-rest
decreases-loop-rest l = length l.rest
