-- What a round gained, as lists by host.
use Rattle.std.specs.Prelude.{◌≡◌, ℕ, List, ◌++◌, map, length, Some, slice_get}
use Rattle.file_calls.specs.declared.task.Output.{Output}
use Rattle.run_files.specs.Written.{written_in}
use Rattle.host_state.specs.HostRecord.{HostRecord}
use Rattle.host_state.specs.Running.{kept_line}
use Rattle.round_lookahead.specs.declared.world.gained.Gained.{Gained}
use Rattle.round_lookahead.specs.declared.world.world_state.World.{World}
use Rattle.round_lookahead.specs.Took.{took_in}
use Rattle.round_lookahead.specs.WorldStands.{HostWorld}
use Rattle.round_lookahead.specs.Gains.{HasTurns}

-- these outputs, each host's by its number, and these lines are what processes wrote and the log gained
pub record IsGained (w v : HostWorld) (g : Gained) : Type 0 where
  pub lines : map kept_line v.log ≡ map kept_line w.log ++ g.lines.items
  pub count : length (written_in g.outputs) ≡ length w.hosts
  pub outputs : (k : ℕ) (before after : HostRecord) (gained : List Output) → slice_get w.hosts k ≡ Some before → slice_get v.hosts k ≡ Some after
      → slice_get (written_in g.outputs) k ≡ Some gained → after.written ≡ before.written ++ gained

-- a round, and what outputs and log gained
pub record HasGained (old new : World) (workers : ℕ) (w v : HostWorld) (g : Gained) : Type 0 where
  pub turns : HasTurns old new workers w v (took_in g.took)
  pub gained : IsGained w v g
