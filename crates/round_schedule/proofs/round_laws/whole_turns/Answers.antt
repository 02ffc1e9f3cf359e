use Rattle.host_state.specs.Fits.{model}
use Rattle.world_order.proofs.JobRuns.{whole_jobs}
use Rattle.world_order.proofs.Jobs.{whole_round}
use Rattle.round_schedule.proofs.Sound.{sim_of, settled_of}
use Rattle.round_schedule.proofs.round_laws.whole_turns.Goals as goal

pub returns-clause-allowed : goal.returns-clause-allowed
returns-clause-allowed c = λ net window w workers last jobs leads named. whole_round (model net) window.end.nanos workers w last jobs leads named

pub returns-clause-any_order : goal.returns-clause-any_order
returns-clause-any_order c = λ net window w workers turns may are. whole_jobs (sim_of net window w may) window.end.nanos workers w (settled_of net window w may) turns are
