-- What a later world gained, and that its hosts keep their names.
use Rattle.std.proofs.Common.{◌≡◌, suc, List, [], ◌∷◌, ◌++◌, length, map, slice_get, Some, ℕ, refl, sym, ap, ◌∙◌, arith}
use Rattle.file_calls.specs.declared.task.Output.{Output}
use Rattle.host_state.specs.Extends.{AreLater, Extends}
use Rattle.host_state.specs.Gains.{AreGained, Gains, names_in}
use Rattle.host_state.specs.HostRecord.{HostRecord}
use Rattle.run_files.specs.Listed.{HostNames, listed}
use Rattle.host_link.specs.Logs.{lines_of}
use Rattle.host_state.specs.World.{World}
use Rattle.host_link.specs.declared.line.Line.{Line}
use Rattle.host_rows.specs.declared.row.Row.{Row}

abbrev pub rows_of : List HostRecord → List Row
rows_of hs = map (λ (h : HostRecord). h.row) hs

pub rows-kept : (hs ks : List HostRecord) → AreLater hs ks → rows_of ks ≡ rows_of hs
rows-kept [] [] later = refl
rows-kept [] (k ∷ ks) later = absurd later
rows-kept (h ∷ hs) [] later = absurd later
rows-kept (h ∷ hs) (k ∷ ks) later = let first = later.0.row in let rest = rows-kept hs ks later.1 in λ i. first i ∷ rest i

abbrev written_by : List HostRecord → List (List Output)
written_by hs = map (λ (h : HostRecord). h.written) hs

gained_at : (hs ks : List HostRecord) (outputs : List (List Output)) → AreLater hs ks → length outputs ≡ length hs
    → ((i : ℕ) (before after : HostRecord) (gained : List Output) → slice_get hs i ≡ Some before → slice_get ks i ≡ Some after → slice_get outputs i ≡ Some gained → after.written ≡ before.written ++ gained)
    → AreGained (written_by hs) outputs (written_by ks)
gained_at [] [] [] later count each = tt
gained_at [] [] (o ∷ outputs) later count each = absurd (omega arith)
gained_at [] (k ∷ ks) outputs later count each = absurd later
gained_at (h ∷ hs) [] outputs later count each = absurd later
gained_at (h ∷ hs) (k ∷ ks) [] later count each = absurd (omega arith)
gained_at (h ∷ hs) (k ∷ ks) (o ∷ outputs) later count each =
    (each 0 h k o refl refl refl, gained_at hs ks outputs later.1 (omega arith) (λ i b a g x y z. each (suc i) b a g x y z))

-- a round gained these outputs, each host's by its place, and these lines
pub gains_round : (w v : World) (outputs : List (List Output)) (lines : List Line) → Extends w v → length outputs ≡ length w.hosts
    → ((i : ℕ) (before after : HostRecord) (gained : List Output) → slice_get w.hosts i ≡ Some before → slice_get v.hosts i ≡ Some after → slice_get outputs i ≡ Some gained
    → after.written ≡ before.written ++ gained) → lines_of v.log ≡ lines_of w.log ++ lines → Gains w v outputs lines
gains_round w v outputs lines later count each log = record { rows = rows-kept w.hosts v.hosts later.hosts; written = gained_at w.hosts v.hosts outputs later.hosts count each; log = log }

-- ---- names

names_by_rows : (hs : List HostRecord) → map (λ (h : HostRecord). listed h.row) hs ≡ map listed (map (λ (h : HostRecord). h.row) hs)
names_by_rows [] = refl
names_by_rows (h ∷ hs) = ap (λ (l : List HostNames). listed h.row ∷ l) (names_by_rows hs)

pub names_kept : (w v : World) (outputs : List (List Output)) (lines : List Line) → Gains w v outputs lines → names_in v ≡ names_in w
names_kept w v outputs lines gains = names_by_rows v.hosts ∙ ap (map listed) gains.rows ∙ sym (names_by_rows w.hosts)

pub names_later : (w v : World) → Extends w v → names_in v ≡ names_in w
names_later w v later = names_by_rows v.hosts ∙ ap (map listed) (rows-kept w.hosts v.hosts later.hosts) ∙ sym (names_by_rows w.hosts)
