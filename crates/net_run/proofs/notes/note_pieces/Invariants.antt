use Rattle.std.proofs.Common.{◌≡◌, ◌++◌, drop, map}
use Rattle.run_files.specs.Files.{put_of}
use Rattle.net_run.specs.Shown.{note_puts}
use Rattle.net_run.proofs.notes.note_pieces.Given as goal

-- what is left completes the whole
abbrev pub invariant-loop-note : goal.invariant-loop-note
invariant-loop-note l = map put_of l.pieces.items ++ note_puts (drop l.note-index l.notes) ≡ note_puts l.notes
