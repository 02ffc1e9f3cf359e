use Rattle.host_laws.proofs.Beginnings.{begins_runs}
use Rattle.host_laws.proofs.rounds.beginnings_run.Goals as goal

pub returns : goal.returns
returns c = begins_runs
