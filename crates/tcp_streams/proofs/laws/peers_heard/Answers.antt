use Rattle.tcp_streams.proofs.Promise.{exchange_heard}
use Rattle.tcp_streams.proofs.laws.peers_heard.Goals as goal

pub returns : goal.returns
returns c = λ scope exchanges own other steps in_scope once. exchange_heard scope exchanges own other in_scope steps once
