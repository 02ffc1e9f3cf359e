use Rattle.std.proofs.Common.{arith}
use Rattle.pcap_text.proofs.Folding.{remainder_folds}
use Rattle.pcap_text.proofs.checksum.folded.Goals as goal

pub returns-else-sum-eq0 : goal.returns-else-sum-eq0
returns-else-sum-eq0 c = remainder_folds c.args.sum (omega arith)
