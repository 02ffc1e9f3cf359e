use Rattle.call_streams.proofs.Table.{ended_moves, starts_move, arrives_freely, arrives_moves, alarmed_moves, call_moves}
use Rattle.call_streams.proofs.calls_move.Goals as goal

pub returns-clause-call : goal.returns-clause-call
returns-clause-call c = λ known now process number args flying h. call_moves known flying now process number args h

pub returns-clause-start : goal.returns-clause-start
returns-clause-start c = λ hosts process memory flying h. starts_move hosts flying process memory h

pub returns-clause-end : goal.returns-clause-end
returns-clause-end c = λ hosts now process flying h. ended_moves hosts flying now process h

pub returns-clause-arrival : goal.returns-clause-arrival
returns-clause-arrival c = λ hosts now packet flying h contains. arrives_freely hosts flying now packet h contains

pub returns-clause-comes : goal.returns-clause-comes
returns-clause-comes c = λ hosts now packet flying h contains. arrives_moves hosts flying now packet h contains

pub returns-clause-alarm : goal.returns-clause-alarm
returns-clause-alarm c = λ hosts now target serial flying h. alarmed_moves hosts flying now target serial h
