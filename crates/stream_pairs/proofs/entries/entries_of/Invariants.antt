use Rattle.std.proofs.Common.{◌≡◌, ℕ, ◌≤◌, length, drop}
use Rattle.std.specs.Prelude.{find}
use Rattle.std.specs.HashMap.{get}
use Rattle.stream_pairs.specs.Directions.{is_between}
use Rattle.stream_pairs.specs.inside.Finding.{same_pair}
use Rattle.stream_pairs.specs.declared.entries.Pair.{Pair}
use Rattle.stream_pairs.proofs.entries.entries_of.Given as goal

-- what is found among those from a place on
abbrev pub invariant-loop-at : goal.invariant-loop-at
invariant-loop-at l = record {
  within : l.at ≤ length l.streams;
  found : (q : Pair) → get same_pair l.entries q ≡ find (is_between q.own q.peer) (drop l.at l.streams);
}

abbrev pub decreases-loop-at : goal.decreases-loop-at
decreases-loop-at l = l.at
