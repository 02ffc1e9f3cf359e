use Rattle.std.proofs.Common.{sym}
use Rattle.list_weights.proofs.Permutations.{weigh_permutation}
use Rattle.list_weights.proofs.same_members.Goals as goal

pub returns : goal.returns
returns c = λ xs ys same h. sym (weigh_permutation h xs ys same)
