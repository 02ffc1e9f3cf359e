use Rattle.socket_streams.proofs.Acts.{none_plain, acted_reach, freely_lead}
use Rattle.socket_streams.proofs.sockets_lead.Goals as goal

pub returns-clause-one : goal.returns-clause-one
returns-clause-one c = λ scope hosts own now act t w others flying plain may.
    let reached = acted_reach scope hosts own others flying now act t w plain may in (reached.leads, reached.plain)

pub returns-clause-all : goal.returns-clause-all
returns-clause-all c = λ scope hosts own x y others flying plain moves. freely_lead scope hosts own others flying x y plain moves

pub returns-clause-none : goal.returns-clause-none
returns-clause-none c = none_plain
