use Rattle.host_timers.proofs.TimerLaws.{expired_counts}
use Rattle.base_laws.proofs.timers.expiries_counted.Goals as goal

pub returns : goal.returns
returns c = expired_counts
