use Rattle.tcp_laws.proofs.Nearest.{distance_ahead, distance_behind}
use Rattle.tcp_laws.proofs.nearest_offset.Goals as goal

pub returns-clause-ahead : goal.returns-clause-ahead
returns-clause-ahead c = distance_ahead

pub returns-clause-behind : goal.returns-clause-behind
returns-clause-behind c = distance_behind
