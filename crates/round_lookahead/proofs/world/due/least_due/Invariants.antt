use Rattle.std.proofs.Common.{take, flat_map}
use Rattle.event_order.specs.Events.{IsLeastDue}
use Rattle.round_lookahead.specs.Tasks.{waiting}
use Rattle.round_lookahead.proofs.world.due.least_due.Given as goal

-- of the hosts so far
abbrev pub invariant-loop-task : goal.invariant-loop-task
invariant-loop-task l = IsLeastDue (flat_map waiting (take l.task-index l.tasks)) l.least
