use Rattle.std.proofs.Common.{[], refl}
use Rattle.call_rises.proofs.Table.{ended_keeps, starts_keep, alarmed_keeps, call_keeps}
use Rattle.call_rises.proofs.calls_move_files.Goals as goal

pub returns-clause-call : goal.returns-clause-call
returns-clause-call c = λ known now process number args h. (call_keeps known now process number args h).files

pub returns-clause-start : goal.returns-clause-start
returns-clause-start c = λ now process memory h. (starts_keep [] now process memory h).files

pub returns-clause-end : goal.returns-clause-end
returns-clause-end c = λ now process h. (ended_keeps [] now process h).files

pub returns-clause-alarm : goal.returns-clause-alarm
returns-clause-alarm c = λ now target serial h. (alarmed_keeps [] now target serial h).files

pub returns-clause-arrival : goal.returns-clause-arrival
returns-clause-arrival c = λ now packet h. refl
