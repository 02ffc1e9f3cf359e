use Rattle.tcp_laws.proofs.Histories.{flight_of_history}
use Rattle.tcp_laws.proofs.window_folded.Goals as goal

pub returns : goal.returns
returns c = flight_of_history
