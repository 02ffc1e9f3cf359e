use Rattle.round_lookahead.proofs.IdleSteps.{first-is}
use Rattle.round_lookahead.proofs.workers.host_task.due_of.Goals as goal

pub returns : goal.returns
returns c = first-is c.args.host.now.queue c.next_due.result c.next_due.ensures.least
