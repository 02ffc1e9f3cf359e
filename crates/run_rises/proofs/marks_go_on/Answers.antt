use Rattle.run_rises.proofs.GoingOn.{call_holds_on, start_holds_on, end_holds_on, arrival_holds_on, alarm_holds_on}
use Rattle.run_rises.proofs.marks_go_on.Goals as goal

pub returns-clause-call : goal.returns-clause-call
returns-clause-call c = call_holds_on

pub returns-clause-start : goal.returns-clause-start
returns-clause-start c = start_holds_on

pub returns-clause-end : goal.returns-clause-end
returns-clause-end c = end_holds_on

pub returns-clause-arrival : goal.returns-clause-arrival
returns-clause-arrival c = arrival_holds_on

pub returns-clause-alarm : goal.returns-clause-alarm
returns-clause-alarm c = alarm_holds_on
