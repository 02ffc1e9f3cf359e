use Rattle.std.proofs.Common.{take}
use Rattle.std.specs.BinaryHeap.{IsHeap, heap_items}
use Rattle.net_routes.specs.inside.Search.{entry_order, AddsArcs}
use Rattle.net_routes.proofs.search.add_arcs.Given as goal

abbrev pub invariant-loop-arc : goal.invariant-loop-arc
invariant-loop-arc l = record {
  heap : IsHeap entry_order (heap_items l.initial.waiting) → IsHeap entry_order (heap_items l.waiting);
  adds : AddsArcs l.cost (take l.arc-index l.arcs) l.initial.known l.known (heap_items l.initial.waiting) (heap_items l.waiting);
}
