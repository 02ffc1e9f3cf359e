use Rattle.std.proofs.Common.{◌≡◌, drop, map, Option, option_map}
use Rattle.run_outside.specs.Sink.{Content}
use Rattle.run_files.specs.Files.{put_of}
use Rattle.net_run.specs.Pieces.{with_pieces, PutsFront}
use Rattle.net_run.proofs.output.put_pieces.Given as goal

-- what is left completes the whole, and no call has answered an error
abbrev pub invariant-loop-piece : goal.invariant-loop-piece
invariant-loop-piece g l = record {
  whole : option_map (with_pieces (drop l.piece-index (map put_of l.pieces))) (g.K.Sink.content l.sink)
      ≡ option_map (with_pieces (map put_of l.pieces)) (g.K.Sink.content l.initial.sink);
  part : (new : Option Content) → PutsFront (drop l.piece-index (map put_of l.pieces)) (g.K.Sink.content l.sink) new
      → PutsFront (map put_of l.pieces) (g.K.Sink.content l.initial.sink) new;
  faults : (g.K.Sink.tally l.sink).faults ≡ (g.K.Sink.tally l.initial.sink).faults;
  errors : (g.K.Sink.tally l.sink).errors ≡ (g.K.Sink.tally l.initial.sink).errors;
}
