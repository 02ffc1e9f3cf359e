use Rattle.std.proofs.Common.{◌≡◌, take}
use Rattle.round_lookahead.specs.inside.Alone.{task_ids}
use Rattle.round_lookahead.proofs.world.sharing.ids_of.Given as goal

abbrev pub invariant-loop-task : goal.invariant-loop-task
invariant-loop-task l = l.ids.items ≡ task_ids (take l.task-index l.fn.tasks)
