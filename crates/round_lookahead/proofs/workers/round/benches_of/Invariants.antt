use Rattle.std.proofs.Common.{◌≡◌, ◌+◌, ◌≤◌, ◌++◌, All, map, length, vec_len, vec_capacity}
use Rattle.std.specs.Vec.Iter.{into_iter_items}
use Rattle.atomic_table.specs.Seated.{TableId}
use Rattle.list_weights.specs.Places.{EachAt}
use Rattle.round_lookahead.specs.declared.workers.bench.Bench.{Bench}
use Rattle.round_lookahead.specs.inside.Benches.{IsUnusedOf}
use Rattle.round_lookahead.proofs.workers.round.benches_of.Given as goal

abbrev pub invariant-loop-seat : goal.invariant-loop-seat
invariant-loop-seat l = record {
  seats : map (λ (b : Bench). b.seat) l.benches.items ++ into_iter_items l.seat-iterator ≡ l.fn.seats.items;
  left : vec_len l.carriers ≡ length (into_iter_items l.seat-iterator);
  count : vec_len l.benches + length (into_iter_items l.seat-iterator) ≡ vec_len l.fn.seats;
  room : vec_len l.fn.seats ≤ vec_capacity l.benches;
  carriers : (id : TableId) → All (IsUnusedOf id) l.initial.carriers.items → All (IsUnusedOf id) l.carriers.items × All (λ (b : Bench). IsUnusedOf id b.carrier) l.benches.items;
  workers : EachAt (λ k (b : Bench). b.worker ≡ k) l.benches.items;
}
