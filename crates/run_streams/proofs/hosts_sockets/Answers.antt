use Rattle.run_streams.proofs.Histories.{history, pairs, bound, taker, listener, accepted, local, connects}
use Rattle.run_streams.proofs.Homes.{records_home}
use Rattle.run_streams.proofs.hosts_sockets.Goals as goal

pub returns-clause-history : goal.returns-clause-history
returns-clause-history c = history

pub returns-clause-pairs : goal.returns-clause-pairs
returns-clause-pairs c = pairs

pub returns-clause-bound : goal.returns-clause-bound
returns-clause-bound c = bound

pub returns-clause-taker : goal.returns-clause-taker
returns-clause-taker c = taker

pub returns-clause-listener : goal.returns-clause-listener
returns-clause-listener c = listener

pub returns-clause-accepted : goal.returns-clause-accepted
returns-clause-accepted c = accepted

pub returns-clause-local : goal.returns-clause-local
returns-clause-local c = local

pub returns-clause-loopback : goal.returns-clause-loopback
returns-clause-loopback c = connects

pub returns-clause-home : goal.returns-clause-home
returns-clause-home c = λ net rows w i h are reached at. records_home net rows are w reached i h at
