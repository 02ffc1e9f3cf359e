use Rattle.round_schedule.proofs.Ending.{rounds_result}
use Rattle.round_schedule.proofs.round_laws.rounds.Goals as goal

pub returns : goal.returns
returns c = rounds_result
