use Rattle.pipe_laws.proofs.Order.{nothing_after}
use Rattle.pipe_laws.proofs.laws.nothing_taken_after_the_end.Goals as goal

pub returns : goal.returns
returns c = nothing_after
