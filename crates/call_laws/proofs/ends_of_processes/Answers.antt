use Rattle.call_laws.proofs.Ends.{ended_none, call_none}
use Rattle.call_laws.proofs.ends_of_processes.Goals as goal

pub returns : goal.returns
returns c = record { ended = ended_none; by_call = call_none }
