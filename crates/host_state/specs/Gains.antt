-- What a run gains, and what its files tell of the hosts.
use Rattle.std.specs.Prelude.{◌≡◌, List, [], ◌∷◌, ◌++◌, map}
use Rattle.file_calls.specs.declared.task.Output.{Output}
use Rattle.host_link.specs.declared.line.Line.{Line}
use Rattle.host_link.specs.Logs.{lines_of}
use Rattle.run_files.specs.Listed.{HostNames, listed}
use Rattle.host_state.specs.HostRecord.{HostRecord}
use Rattle.host_state.specs.World.{World}

-- what the rows of all hosts of a world say
abbrev pub names_in : World → List HostNames
names_in w = map (λ (h : HostRecord). listed h.row) w.hosts

-- each host's outputs later are those before, and behind them the gained
abbrev pub AreGained : List (List Output) → List (List Output) → List (List Output) → Type 0
AreGained [] [] [] = Unit {0}
AreGained (before ∷ befores) (gained ∷ more) (later ∷ laters) = (later ≡ before ++ gained) × AreGained befores more laters
AreGained _ _ _ = ⊥

-- from one world to another the hosts wrote these outputs, and the log has these lines more
pub record Gains (w v : World) (outputs : List (List Output)) (lines : List Line) : Type 0 where
  pub rows : map (λ (h : HostRecord). h.row) v.hosts ≡ map (λ (h : HostRecord). h.row) w.hosts
  pub written : AreGained (map (λ (h : HostRecord). h.written) w.hosts) outputs (map (λ (h : HostRecord). h.written) v.hosts)
  pub log : lines_of v.log ≡ lines_of w.log ++ lines
