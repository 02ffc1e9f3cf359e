use Rattle.list_weights.proofs.Permutations.{numbers_are_range}
use Rattle.list_weights.proofs.numbers_are_a_range.Goals as goal

pub returns : goal.returns
returns c = numbers_are_range
