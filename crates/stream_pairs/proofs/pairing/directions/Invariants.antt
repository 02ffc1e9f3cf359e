use Rattle.std.proofs.Common.{◌≡◌, map, take}
use Rattle.std.specs.Prelude.{flat_map}
use Rattle.stream_pairs.specs.Directions.{kept_in}
use Rattle.stream_pairs.proofs.DirectionLemmas.{of_host}
use Rattle.stream_pairs.proofs.pairing.directions.Given as goal

-- those of the hosts so far
abbrev pub invariant-loop-place : goal.invariant-loop-place
invariant-loop-place l = l.streams.items ≡ flat_map (of_host (map kept_in l.kept)) (take l.place (map kept_in l.kept))
