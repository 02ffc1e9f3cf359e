use Rattle.run_rises.proofs.GoingOn.{call_goes_on, start_goes_on, end_goes_on, arrival_goes_on, alarm_goes_on}
use Rattle.run_rises.proofs.histories_go_on.Goals as goal

pub returns-clause-call : goal.returns-clause-call
returns-clause-call c = call_goes_on

pub returns-clause-start : goal.returns-clause-start
returns-clause-start c = start_goes_on

pub returns-clause-end : goal.returns-clause-end
returns-clause-end c = end_goes_on

pub returns-clause-arrival : goal.returns-clause-arrival
returns-clause-arrival c = arrival_goes_on

pub returns-clause-alarm : goal.returns-clause-alarm
returns-clause-alarm c = alarm_goes_on
