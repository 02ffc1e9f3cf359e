-- What a later world gained.
use Rattle.std.proofs.Common.{List, [], ◌∷◌, ap, ◌∙◌}
use Rattle.std.proofs.lemmas.List.{map-append}
use Rattle.file_calls.specs.declared.task.Output.{Output}
use Rattle.host_state.specs.Extends.{AreLater, Extends}
use Rattle.host_state.specs.Gains.{AreGained, Gains}
use Rattle.host_state.specs.HostRecord.{HostRecord}
use Rattle.host_link.specs.Logs.{lines_of}
use Rattle.host_link.specs.declared.line.Line.{Line}
use Rattle.host_state.proofs.Gaining.{rows-kept}
use Rattle.net_run.specs.World.{World}
use Rattle.net_run.proofs.HostLemmas.{written_by}

more_of : (hs ks : List HostRecord) → AreLater hs ks → (outputs : List (List Output)) × AreGained (written_by hs) outputs (written_by ks)
more_of [] [] later = ([], tt)
more_of [] (k ∷ ks) later = absurd later
more_of (h ∷ hs) [] later = absurd later
more_of (h ∷ hs) (k ∷ ks) later = let rest = more_of hs ks later.1 in (later.0.more ∷ rest.0, (later.0.written, rest.1))

-- a world that extends another gained what its processes wrote more, and the lines more of its log
pub gains_later : (w u : World) → Extends w u → (outputs : List (List Output)) × (lines : List Line) × Gains w u outputs lines
gains_later w u later =
    let written = more_of w.hosts u.hosts later.hosts in (
      written.0,
      lines_of later.more,
      record { rows = rows-kept w.hosts u.hosts later.hosts; written = written.1; log = ap lines_of later.log ∙ map-append _ w.log later.more },
    )
