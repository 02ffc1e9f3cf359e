use Rattle.pcap_text.proofs.Datagrams.{one_datagram}
use Rattle.pcap_text.proofs.laws.one_datagram.Goals as goal

pub returns : goal.returns
returns c = one_datagram
