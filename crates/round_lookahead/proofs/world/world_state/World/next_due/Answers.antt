use Rattle.std.proofs.Common.{flat_map}
use Rattle.round_lookahead.specs.Tasks.{waiting}
use Rattle.round_lookahead.proofs.IdleSteps.{least_of}
use Rattle.round_lookahead.proofs.world.world_state.World.next_due.Goals as goal

pub returns : goal.returns
returns c = let w = c.args.self.now in least_of (flat_map waiting w.tasks.items) w.due w.told
