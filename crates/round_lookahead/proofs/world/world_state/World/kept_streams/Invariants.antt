use Rattle.std.proofs.Common.{◌≡◌, map, take}
use Rattle.host_state.specs.WorldStreams.{kept_by}
use Rattle.stream_pairs.specs.Directions.{kept_in}
use Rattle.round_lookahead.specs.WorldStands.{HostWorld, WorldStands}
use Rattle.round_lookahead.proofs.world.world_state.World.kept_streams.Given as goal

-- of the hosts so far
abbrev pub invariant-loop-task : goal.invariant-loop-task
invariant-loop-task l = (w : HostWorld) → WorldStands l.self w → map kept_in l.kept.items ≡ map kept_by (take l.task-index w.hosts)
