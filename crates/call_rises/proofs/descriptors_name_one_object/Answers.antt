use Rattle.host_calls.specs.Calls.{call}
use Rattle.host_calls.specs.Events.{arrives, alarmed, ended}
use Rattle.host_calls.specs.Starting.{task_starts}
use Rattle.call_rises.proofs.Table.{moves_names, ended_keep_names, starts_keep_names, alarmed_keep_names, arrives_keep_names, call_keep_names}
use Rattle.call_rises.proofs.descriptors_name_one_object.Goals as goal

pub returns-clause-call : goal.returns-clause-call
returns-clause-call c = λ known now process number args h hold.
    moves_names known.book now h (call known now process number args h).1 (call_keep_names known now process number args h) hold

pub returns-clause-start : goal.returns-clause-start
returns-clause-start c = λ hosts now process memory h empty hold.
    moves_names hosts now h (task_starts process memory h) (starts_keep_names hosts now process memory h empty) hold

pub returns-clause-end : goal.returns-clause-end
returns-clause-end c = λ hosts now process h hold. moves_names hosts now h (ended now process h) (ended_keep_names hosts now process h) hold

pub returns-clause-alarm : goal.returns-clause-alarm
returns-clause-alarm c = λ hosts now target serial h hold.
    moves_names hosts now h (alarmed now target serial h) (alarmed_keep_names hosts now target serial h) hold

pub returns-clause-arrival : goal.returns-clause-arrival
returns-clause-arrival c = λ hosts now packet h hold.
    moves_names hosts now h (arrives now packet h).1 (arrives_keep_names hosts now packet h) hold
