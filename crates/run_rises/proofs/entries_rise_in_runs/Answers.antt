use Rattle.run_rises.proofs.Worlds.{in_order}
use Rattle.run_rises.proofs.entries_rise_in_runs.Goals as goal

pub returns : goal.returns
returns c = in_order
