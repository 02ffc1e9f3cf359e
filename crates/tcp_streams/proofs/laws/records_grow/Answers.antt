use Rattle.tcp_streams.proofs.Receiving.{receives_on}
use Rattle.tcp_streams.proofs.Soundness.{acted_grows}
use Rattle.tcp_streams.proofs.laws.records_grow.Goals as goal

pub returns-clause-written : goal.returns-clause-written
returns-clause-written c = λ r act s. acted_grows act r s

pub returns-clause-received : goal.returns-clause-received
returns-clause-received c = λ r act. receives_on act r
