use Rattle.std.proofs.Common.{map}
use Rattle.run_files.specs.Files.{put_of}
use Rattle.net_run.proofs.ListingLemmas.{notes_step}
use Rattle.net_run.proofs.notes.note_pieces.Goals as goal

pub loop-note-preserved : goal.loop-note-preserved
loop-note-preserved c =
    notes_step c.args.notes.now c.loop-note.note-index c.note-item.result (map put_of c.loop-note.pieces.items) (map put_of c.push_note.new.pieces.items) _
    c.loop-note-test.true c.note-item.is c.in_ok-push_note.ensures c.loop-note.invariant
