use Rattle.std.proofs.Common.{◌≡◌}
use Rattle.std.specs.Prelude.{is_some, count_by}
use Rattle.std.specs.BinaryHeap.{IsHeap, heap_items}
use Rattle.net_routes.specs.inside.Search.{entry_order, IsSearch}
use Rattle.net_routes.proofs.search.cheapest_paths.Given as goal

abbrev pub invariant-loop : goal.invariant-loop
invariant-loop l = record {
  heap : IsHeap entry_order (heap_items l.waiting);
  search : IsSearch l.rows l.start l.best.items l.known.items (heap_items l.waiting);
  count : count_by is_some l.best.items ≡ l.counter;
}
