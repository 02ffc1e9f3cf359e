use Rattle.net_iface.proofs.RateLaws.{acts_leave}
use Rattle.net_iface.proofs.laws.leaves_within_the_rate.Goals as goal

pub returns : goal.returns
returns c = acts_leave
