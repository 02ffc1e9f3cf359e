use Rattle.list_weights.proofs.Permutations.{weigh_is_sum}
use Rattle.list_weights.proofs.weights_are_sums.Goals as goal

pub returns : goal.returns
returns c = weigh_is_sum
