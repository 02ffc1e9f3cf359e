use Rattle.std.proofs.Common.{map}
use Rattle.stream_pairs.specs.Directions.{kept_in}
use Rattle.stream_pairs.proofs.DirectionLemmas.{HasEntries}
use Rattle.stream_pairs.proofs.pairing.all_entries.Given as goal

-- those of the hosts so far
abbrev pub invariant-loop-each : goal.invariant-loop-each
invariant-loop-each l = HasEntries l.each-index l.entries.items (map kept_in l.kept)
