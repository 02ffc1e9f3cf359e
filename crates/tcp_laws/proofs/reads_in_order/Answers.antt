use Rattle.tcp_laws.proofs.Histories.{given_of_history}
use Rattle.tcp_laws.proofs.reads_in_order.Goals as goal

pub returns : goal.returns
returns c = given_of_history
