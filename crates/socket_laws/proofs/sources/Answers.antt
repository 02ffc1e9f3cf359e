use Rattle.socket_laws.proofs.SourceEnds.{connect_source, datagram_source}
use Rattle.socket_laws.proofs.sources.Goals as goal

pub returns-clause-datagram : goal.returns-clause-datagram
returns-clause-datagram c = λ hosts k bytes to t after p e. datagram_source hosts k bytes to t after p e

pub returns-clause-connection : goal.returns-clause-connection
returns-clause-connection c = λ hosts k to own t e. connect_source hosts k to own t e
