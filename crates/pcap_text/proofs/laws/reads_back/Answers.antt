use Rattle.pcap_text.proofs.Written.{read_back}
use Rattle.pcap_text.proofs.laws.reads_back.Goals as goal

pub returns : goal.returns
returns c = read_back
