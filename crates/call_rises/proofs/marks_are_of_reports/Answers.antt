use Rattle.std.proofs.Common.{[]}
use Rattle.call_rises.proofs.Table.{ended_keeps, starts_keep, alarmed_keeps, arrives_keeps, call_keeps}
use Rattle.call_rises.proofs.marks_are_of_reports.Goals as goal

pub returns-clause-call : goal.returns-clause-call
returns-clause-call c = λ known now process number args h. (call_keeps known now process number args h).marks

pub returns-clause-start : goal.returns-clause-start
returns-clause-start c = λ now process memory h. (starts_keep [] now process memory h).marks

pub returns-clause-end : goal.returns-clause-end
returns-clause-end c = λ now process h. (ended_keeps [] now process h).marks

pub returns-clause-alarm : goal.returns-clause-alarm
returns-clause-alarm c = λ now target serial h. (alarmed_keeps [] now target serial h).marks

pub returns-clause-arrival : goal.returns-clause-arrival
returns-clause-arrival c = λ now packet h. (arrives_keeps [] now packet h).marks
