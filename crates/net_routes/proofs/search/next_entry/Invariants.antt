use Rattle.std.proofs.Common.{ℕ, ◌<◌, List, length, Option}
use Rattle.std.specs.Prelude.{All}
use Rattle.std.specs.BinaryHeap.{IsHeap, heap_items, heap_len}
use Rattle.net_routes.specs.declared.arc.Arc.{Arc}
use Rattle.net_routes.specs.declared.cost.Cost.{Cost}
use Rattle.net_routes.specs.declared.search.Entry.{Entry}
use Rattle.net_routes.specs.inside.Search.{entry_order, IsSearch}
use Rattle.net_routes.proofs.search.next_entry.Given as goal

abbrev pub invariant-loop-entry : goal.invariant-loop-entry
invariant-loop-entry l = record {
  heap : IsHeap entry_order (heap_items l.waiting);
  places : All (λ (e : Entry). e.place < length l.best) (heap_items l.waiting);
  goes_on : (rows : List (List Arc)) (start : ℕ) (known : List (Option Cost)) → IsSearch rows start l.best known (heap_items l.initial.waiting) → IsSearch rows start l.best known (heap_items l.waiting);
}

abbrev pub decreases-loop-entry : goal.decreases-loop-entry
decreases-loop-entry l = heap_len l.waiting
