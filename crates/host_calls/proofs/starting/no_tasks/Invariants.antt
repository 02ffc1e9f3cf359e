use Rattle.std.proofs.Common.{◌≡◌, replicate, None}
use Rattle.host_calls.proofs.starting.no_tasks.Given as goal

abbrev pub invariant-loop-task : goal.invariant-loop-task
invariant-loop-task l = l.tasks.items ≡ replicate l._task None
