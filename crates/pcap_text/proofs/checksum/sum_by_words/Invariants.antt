use Rattle.std.proofs.Common.{◌≡◌, length}
use Rattle.pcap_text.specs.Checksum as spec
use Rattle.pcap_text.proofs.checksum.sum_by_words.Given as goal

-- what is left completes the sum
abbrev pub invariant-loop-rest : goal.invariant-loop-rest
invariant-loop-rest l = spec.sum_on l.sum l.rest ≡ spec.sum_on l.fn.sum l.bytes

abbrev pub decreases-loop-rest : goal.decreases-loop-rest
decreases-loop-rest l = length l.rest
