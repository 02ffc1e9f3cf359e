use Rattle.std.proofs.Common.{◌≡◌, ◌++◌, map, Some}
use Rattle.std.specs.Vec.Iter.{into_iter_items}
use Rattle.round_lookahead.specs.declared.workers.bench.Bench.{Bench}
use Rattle.round_lookahead.proofs.workers.round.parts_of.Given as goal

abbrev pub invariant-loop-bench : goal.invariant-loop-bench
invariant-loop-bench l = record {
  seats : l.parts.seats.items ++ map (λ (b : Bench). b.seat) (into_iter_items l.bench-iterator) ≡ map (λ (b : Bench). b.seat) l.fn.benches.items;
  carriers : l.parts.carriers.items ++ map (λ (b : Bench). b.carrier) (into_iter_items l.bench-iterator) ≡ map (λ (b : Bench). b.carrier) l.fn.benches.items;
  works : map Some l.parts.works.items ++ map (λ (b : Bench). b.worked) (into_iter_items l.bench-iterator) ≡ map (λ (b : Bench). b.worked) l.fn.benches.items;
}
