use Rattle.run_fits.proofs.Table.{call_fits, starts_fit, ended_fits, arrival_fits, alarmed_fits}
use Rattle.run_fits.proofs.parts_stay_fit.Goals as goal

pub returns-clause-call : goal.returns-clause-call
returns-clause-call c = call_fits

pub returns-clause-start : goal.returns-clause-start
returns-clause-start c = starts_fit

pub returns-clause-end : goal.returns-clause-end
returns-clause-end c = ended_fits

pub returns-clause-arrival : goal.returns-clause-arrival
returns-clause-arrival c = arrival_fits

pub returns-clause-alarm : goal.returns-clause-alarm
returns-clause-alarm c = alarmed_fits
