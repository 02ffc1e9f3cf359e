use Rattle.std.proofs.Common.{◌≡◌, ◌++◌, ◌<◌, length}
use Rattle.std.specs.Vec.Iter.{into_iter_items}
use Rattle.round_lookahead.specs.inside.Shares.{dealt_in}
use Rattle.round_lookahead.proofs.world.share.dealt.Given as goal

abbrev pub invariant-loop-task : goal.invariant-loop-task
invariant-loop-task l = record {
  dealt : dealt_in l.dealing ++ into_iter_items l.task-iterator ≡ l.fn.tasks.items;
  few : length l.dealing.shares.items < l.fn.workers;
}
