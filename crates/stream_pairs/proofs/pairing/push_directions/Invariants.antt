use Rattle.std.proofs.Common.{◌≡◌, ◌++◌, List, map, take, slice_get, Some}
use Rattle.stream_pairs.specs.Directions.{Kept, kept_in, direction}
use Rattle.stream_pairs.specs.inside.Finding.{Indexes}
use Rattle.stream_pairs.proofs.pairing.push_directions.Given as goal

-- those so far
abbrev pub invariant-loop-stream : goal.invariant-loop-stream
invariant-loop-stream l = (all : List Kept) → Indexes l.book l.entries all → slice_get all l.place ≡ Some (kept_in l.kept)
    → l.into.items ≡ l.initial.into.items ++ map (direction all (kept_in l.kept)) (take l.stream-index l.kept.streams.items)
