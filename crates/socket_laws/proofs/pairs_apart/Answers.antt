use Rattle.socket_laws.proofs.HistoryPairs.{history_single}
use Rattle.socket_laws.proofs.pairs_apart.Goals as goal

pub returns : goal.returns
returns c = λ own other hosts host draws acts. history_single own other hosts host draws acts
