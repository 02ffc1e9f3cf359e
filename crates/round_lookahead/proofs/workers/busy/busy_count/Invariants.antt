use Rattle.std.proofs.Common.{◌≡◌, ◌≤◌, take}
use Rattle.std.specs.Prelude.{count_by}
use Rattle.round_lookahead.specs.inside.Idles.{is_busy}
use Rattle.round_lookahead.proofs.workers.busy.busy_count.Given as goal

abbrev pub invariant-loop-task : goal.invariant-loop-task
invariant-loop-task l = record {
  count : l.busy ≡ count_by (is_busy l.end.nanos) (take l.task-index l.tasks);
  within : l.busy ≤ l.task-index;
}
