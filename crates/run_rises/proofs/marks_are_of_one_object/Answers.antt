use Rattle.run_rises.proofs.Worlds.{good}
use Rattle.run_rises.proofs.marks_are_of_one_object.Goals as goal

pub returns : goal.returns
returns c = good
