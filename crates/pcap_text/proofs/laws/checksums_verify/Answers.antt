use Rattle.pcap_text.proofs.Verified.{verify}
use Rattle.pcap_text.proofs.laws.checksums_verify.Goals as goal

pub returns : goal.returns
returns c = verify
