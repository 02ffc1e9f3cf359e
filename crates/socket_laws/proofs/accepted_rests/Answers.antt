use Rattle.socket_laws.proofs.HistoryKeeps.{history_rests}
use Rattle.socket_laws.proofs.Queueing.{accepted_rests}
use Rattle.socket_laws.proofs.accepted_rests.Goals as goal

pub returns-clause-host : goal.returns-clause-host
returns-clause-host c = λ hosts own draws acts k r rest e. history_rests hosts own draws acts k r rest e

pub returns-clause-listener : goal.returns-clause-listener
returns-clause-listener c = λ local count acts r rest e. accepted_rests local count acts r rest e
