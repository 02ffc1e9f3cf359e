use Rattle.tcp_streams.proofs.Texts.{named_ahead, named_behind}
use Rattle.tcp_streams.proofs.laws.segments_named.Goals as goal

pub returns-clause-ahead : goal.returns-clause-ahead
returns-clause-ahead c = named_ahead

pub returns-clause-behind : goal.returns-clause-behind
returns-clause-behind c = named_behind
