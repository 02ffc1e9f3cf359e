-- What a run adds to a world.
use Rattle.std.specs.Prelude.{◌≡◌, List, [], ◌∷◌, ◌++◌}
use Rattle.world_order.specs.World.{Logged}
use Rattle.file_calls.specs.declared.task.Output.{Output}
use Rattle.host_link.specs.declared.line.Line.{Line}
use Rattle.host_state.specs.HostRecord.{HostRecord}
use Rattle.host_state.specs.World.{World}

-- a host later in a run: its row is as it was, and its processes have written more
pub record IsLater (old new : HostRecord) : Type 0 where
  pub row : new.row ≡ old.row
  pub more : List Output
  pub written : new.written ≡ old.written ++ more

-- host by host
abbrev pub AreLater : List HostRecord → List HostRecord → Type 0
AreLater [] [] = Unit {0}
AreLater [] (new ∷ news) = ⊥
AreLater (old ∷ olds) [] = ⊥
AreLater (old ∷ olds) (new ∷ news) = IsLater old new × AreLater olds news

-- a world later in a run: its hosts are those of the old one, later, and its log has more lines
pub record Extends (old new : World) : Type 0 where
  pub hosts : AreLater old.hosts new.hosts
  pub more : List (Logged Line)
  pub log : new.log ≡ old.log ++ more
