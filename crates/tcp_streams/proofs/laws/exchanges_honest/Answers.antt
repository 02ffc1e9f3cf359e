use Rattle.tcp_streams.proofs.Promise.{exchange_sound, exchange_honest}
use Rattle.tcp_streams.proofs.laws.exchanges_honest.Goals as goal

pub returns-clause-records : goal.returns-clause-records
returns-clause-records c = exchange_sound

pub returns-clause-packets : goal.returns-clause-packets
returns-clause-packets c = exchange_honest
