use Rattle.pipe_laws.proofs.Order.{in_order, all_given}
use Rattle.pipe_laws.proofs.laws.first_in_first_out.Goals as goal

pub returns-clause-order : goal.returns-clause-order
returns-clause-order c = in_order

pub returns-clause-emptied : goal.returns-clause-emptied
returns-clause-emptied c = all_given
