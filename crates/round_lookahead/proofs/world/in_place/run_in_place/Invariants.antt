use Rattle.std.proofs.Common.{◌≤◌, length}
use Rattle.round_lookahead.specs.inside.Alone.{AreRunInPlace}
use Rattle.round_lookahead.proofs.world.in_place.run_in_place.Given as goal

-- the hosts before the place were run
abbrev pub invariant-loop-task : goal.invariant-loop-task
invariant-loop-task g l = record {
  few : l.task-index ≤ length l.fn.tasks;
  run : AreRunInPlace l.fn.net l.fn.end.nanos l.fn.worker l.initial.tasks l.task-index l.tasks l.alone;
}
