use Rattle.socket_streams.proofs.HomeActs.{history_home}
use Rattle.socket_streams.proofs.records_at_home.Goals as goal

pub returns : goal.returns
returns c = history_home
