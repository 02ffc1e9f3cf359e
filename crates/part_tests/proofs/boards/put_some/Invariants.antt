use Rattle.std.proofs.Common.{◌≡◌, length}
use Rattle.part_tests.proofs.boards.put_some.Given as goal

abbrev pub invariant-loop-k : goal.invariant-loop-k
invariant-loop-k l = record {
  boards : l.carrier.boards ≡ l.boards.id;
  puts : length l.carrier.entries ≡ l.k;
}
