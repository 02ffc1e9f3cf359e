use Rattle.capture_laws.proofs.Given.{net_given, rows_given}
use Rattle.capture_laws.proofs.runs_are_given_bytes.Goals as goal

pub returns-clause-net : goal.returns-clause-net
returns-clause-net c = net_given

pub returns-clause-rows : goal.returns-clause-rows
returns-clause-rows c = rows_given
