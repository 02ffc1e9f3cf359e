use Rattle.tcp_streams.proofs.Promise.{streams}
use Rattle.tcp_streams.proofs.laws.streams.Goals as goal

pub returns : goal.returns
returns c = λ scope exchanges from to steps in_scope simple. streams scope exchanges from to in_scope steps simple
