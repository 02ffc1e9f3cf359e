-- Hosts as they are opened.
use Rattle.std.specs.Prelude.{List, ◌∷◌, []}
use Rattle.host_rows.specs.declared.row.Row.{Row}
use Rattle.round_lookahead.specs.OpeningWorld.{IsOpened}
use Rattle.round_lookahead.specs.declared.workers.host_task.HostTask.{HostTask}

-- row by row
abbrev pub AreOpened : List Row → List HostTask → Type 0
AreOpened [] [] = Unit {0}
AreOpened [] (t ∷ ts) = ⊥
AreOpened (row ∷ rows) [] = ⊥
AreOpened (row ∷ rows) (t ∷ ts) = IsOpened row t × AreOpened rows ts
