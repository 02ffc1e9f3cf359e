use Rattle.round_schedule.specs.Standing.{AreIdle}
use Rattle.round_schedule.proofs.round.idle_workers.Given as goal

abbrev pub invariant-loop-worker : goal.invariant-loop-worker
invariant-loop-worker l = AreIdle l._worker l.workers.items
