use Rattle.run_rises.proofs.Worlds.{world_goes_on}
use Rattle.run_rises.proofs.worlds_go_on.Goals as goal

pub returns : goal.returns
returns c = world_goes_on
