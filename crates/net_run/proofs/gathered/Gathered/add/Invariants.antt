use Rattle.std.proofs.Common.{◌≡◌, map}
use Rattle.std.specs.Vec.Iter.{into_iter_items}
use Rattle.run_outside.specs.Sink.{Content}
use Rattle.run_files.specs.Files.{put_of}
use Rattle.net_run.specs.Pieces.{with_pieces}
use Rattle.net_run.specs.inside.Gathered.{AreLast}
use Rattle.net_run.proofs.gathered.Gathered.add.Given as goal

-- what is left, put behind what is gathered, completes the whole
abbrev pub invariant-loop-piece : goal.invariant-loop-piece
invariant-loop-piece l = record {
  whole : (c : Content) → with_pieces (map put_of (into_iter_items l.piece-iterator)) (with_pieces (map put_of l.self-inside.pieces.items) c)
      ≡ with_pieces (map put_of l.fn.more.items) (with_pieces (map put_of l.initial.self-inside.pieces.items) c);
  last : AreLast (map put_of l.self-inside.pieces.items) l.self-inside.slots.items;
}
