use Rattle.socket_laws.proofs.HereActs.{history_connects}
use Rattle.socket_laws.proofs.SourceEnds.{connect_from, connect_to}
use Rattle.socket_laws.proofs.loopback_inside.Goals as goal

pub returns-clause-from : goal.returns-clause-from
returns-clause-from c = λ hosts k to own t outside e inside. connect_from hosts k to own t outside e inside

pub returns-clause-to : goal.returns-clause-to
returns-clause-to c = λ hosts k to own at t e used here inside. connect_to hosts k to own at t e used here inside

pub returns-clause-history : goal.returns-clause-history
returns-clause-history c = history_connects
