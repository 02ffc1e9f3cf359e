use Rattle.list_weights.proofs.Permutations.{same_weights}
use Rattle.list_weights.proofs.same_weights.Goals as goal

pub returns : goal.returns
returns c = same_weights
