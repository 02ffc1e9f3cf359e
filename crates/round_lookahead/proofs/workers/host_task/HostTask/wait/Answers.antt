use Rattle.std.proofs.Common.{refl}
use Rattle.round_lookahead.proofs.workers.host_task.HostTask.wait.Goals as goal

pub returns : goal.returns
returns c = record { id = refl; host = refl; boxed = c.in_ok-boxed.boxed; holds = c.in_ok-boxed.ensures.ok; joins = c.in_ok-push.ensures.items }
