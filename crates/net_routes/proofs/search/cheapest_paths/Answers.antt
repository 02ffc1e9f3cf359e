use Rattle.std.proofs.Common.{◌≡◌, List, [], ◌∷◌, length, get_or, set, replicate, Option, Some, None, ◌∙◌, ap, sym, refl, subst, arith, rules}
use Rattle.std.specs.Prelude.{IsSome, is_some, count_by, IsPermutation}
use Rattle.std.specs.BinaryHeap.{heap_items}
use Rattle.std.proofs.lemmas.List.{get_or_read}
use Rattle.std.proofs.lemmas.List.Elements.{Contains-get_or}
use Rattle.net_routes.specs.declared.cost.Cost.{Cost}
use Rattle.net_routes.specs.declared.search.Entry.{Entry}
use Rattle.net_routes.specs.inside.Search.{IsSearch, AddsArcs}
use Rattle.net_routes.proofs.SearchLemmas.{nobody, none_counted, search_begun, search_step, left_counts, next_place, row_arcs, written_back, best_empty, best_full}
use Rattle.net_routes.proofs.search.cheapest_paths.Goals as goal

pub loop-init : goal.loop-init
loop-init c =
    let rows = c.args.rows.now in
    let e = c.entry_at.result in
    let waiting = heap_items c.push.new.self in
    let items : c.in_ok-best.best.items ≡ replicate (length rows) nobody = search rules in
    let others : c.in_ok-known.known.items ≡ replicate (length rows) nobody = search rules in
    let P : List Entry → Type 0 = λ w. IsPermutation (e ∷ w) waiting in
    let moved : IsPermutation (e ∷ []) waiting = subst P c.new-waiting.ensures.items c.in_ok-push.ensures.permutation in
    let B : List (Option Cost) → Type 0 = λ b. IsSearch rows c.args.start b (set c.in_ok-known.known.items c.args.start (Some c.no_cost.result)) waiting in
    let K : List (Option Cost) → Type 0 = λ k. IsSearch rows c.args.start (replicate (length rows) nobody) (set k c.args.start (Some c.no_cost.result)) waiting in
    record {
      heap = c.in_ok-push.ensures.heap_order c.new-waiting.ensures.heap_order;
      search = subst B (sym items) (subst K (sym others) (search_begun rows c.args.start (length rows) c.no_cost.result e waiting refl c.requires.start c.no_cost.ensures c.entry_at.ensures.0 c.entry_at.ensures.1 moved));
      count = ap (λ (b : List (Option Cost)). count_by is_some b) items ∙ none_counted (length rows);
    }

pub next_entry-requires-clause-places : goal.next_entry-requires-clause-places
next_entry-requires-clause-places c k d lt =
    let items = heap_items c.loop.waiting in
    let w = c.loop.invariant.search.waits (get_or items k d) (Contains-get_or items k d lt) in
    omega (arith, w.0, c.loop.invariant.search.size, ap (λ (b : List (Option Cost)). length b) c.deref.ensures.value)

pub returns-in_default-clause-best : goal.returns-in_default-clause-best
returns-in_default-clause-best c =
    let rows = c.args.rows.now in
    let B : List (Option Cost) → Type 0 = λ b. IsSearch rows c.args.start b c.loop.known.items (heap_items c.loop.waiting) in
    best_empty rows c.args.start c.loop.best.items c.deref.result.now c.loop.known.items (heap_items c.next_entry.new.waiting) c.deref.ensures.value
    (c.in_default.ensures.next rows c.args.start c.loop.known.items (subst B (sym c.deref.ensures.value) c.loop.invariant.search))

pub known_cost-cost-requires-clause-within : goal.known_cost-cost-requires-clause-within
known_cost-cost-requires-clause-within c =
    let rows = c.args.rows.now in
    let B : List (Option Cost) → Type 0 = λ b. IsSearch rows c.args.start b c.loop.known.items (heap_items c.loop.waiting) in
    let next = c.in-Some.ensures.next rows c.args.start c.loop.known.items (subst B (sym c.deref.ensures.value) c.loop.invariant.search) in
    let p = next_place rows c.args.start c.deref.result.now c.loop.known.items c.in-Some.entry (heap_items c.next_entry.new.waiting) next in
    omega (arith, p.within, p.room, ap (λ (k : List (Option Cost)). length k) c.deref-in-loop.ensures.value)

pub known_cost-cost-requires-clause-known : goal.known_cost-cost-requires-clause-known
known_cost-cost-requires-clause-known c =
    let rows = c.args.rows.now in
    let B : List (Option Cost) → Type 0 = λ b. IsSearch rows c.args.start b c.loop.known.items (heap_items c.loop.waiting) in
    let next = c.in-Some.ensures.next rows c.args.start c.loop.known.items (subst B (sym c.deref.ensures.value) c.loop.invariant.search) in
    let p = next_place rows c.args.start c.deref.result.now c.loop.known.items c.in-Some.entry (heap_items c.next_entry.new.waiting) next in
    let S : List (Option Cost) → Type 0 = λ k. IsSome (get_or k c.in-Some.entry.place None) in
    subst S (sym c.deref-in-loop.ensures.value) p.some

pub index_mut-requires-in-loop : goal.index_mut-requires-in-loop
index_mut-requires-in-loop c =
    let rows = c.args.rows.now in
    let B : List (Option Cost) → Type 0 = λ b. IsSearch rows c.args.start b c.loop.known.items (heap_items c.loop.waiting) in
    let next = c.in-Some.ensures.next rows c.args.start c.loop.known.items (subst B (sym c.deref.ensures.value) c.loop.invariant.search) in
    let p = next_place rows c.args.start c.deref.result.now c.loop.known.items c.in-Some.entry (heap_items c.next_entry.new.waiting) next in
    omega (arith, p.within, c.loop.invariant.search.size, c.loop.best.ok.0)

pub offset_bounds-rows-entry : goal.offset_bounds-rows-entry
offset_bounds-rows-entry c =
    let rows = c.args.rows.now in
    let B : List (Option Cost) → Type 0 = λ b. IsSearch rows c.args.start b c.loop.known.items (heap_items c.loop.waiting) in
    let next = c.in-Some.ensures.next rows c.args.start c.loop.known.items (subst B (sym c.deref.ensures.value) c.loop.invariant.search) in
    let p = next_place rows c.args.start c.deref.result.now c.loop.known.items c.in-Some.entry (heap_items c.next_entry.new.waiting) next in
    omega (arith, p.within, c.requires.few)

pub bounds-rows-entry : goal.bounds-rows-entry
bounds-rows-entry c =
    let rows = c.args.rows.now in
    let B : List (Option Cost) → Type 0 = λ b. IsSearch rows c.args.start b c.loop.known.items (heap_items c.loop.waiting) in
    let next = c.in-Some.ensures.next rows c.args.start c.loop.known.items (subst B (sym c.deref.ensures.value) c.loop.invariant.search) in
    (next_place rows c.args.start c.deref.result.now c.loop.known.items c.in-Some.entry (heap_items c.next_entry.new.waiting) next).within

pub add_arcs-requires-clause-ends : goal.add_arcs-requires-clause-ends
add_arcs-requires-clause-ends c =
    let rows = c.args.rows.now in
    let e = c.in-Some.entry in
    let B : List (Option Cost) → Type 0 = λ b. IsSearch rows c.args.start b c.loop.known.items (heap_items c.loop.waiting) in
    let next = c.in-Some.ensures.next rows c.args.start c.loop.known.items (subst B (sym c.deref.ensures.value) c.loop.invariant.search) in
    let p = next_place rows c.args.start c.deref.result.now c.loop.known.items e (heap_items c.next_entry.new.waiting) next in
    let size : length c.deref_mut.result.now ≡ length rows = ap (λ (k : List (Option Cost)). length k) c.deref_mut.ensures.value ∙ p.room in
    row_arcs rows e.place (length c.deref_mut.result.now) c.as_slice.result.now c.requires.arcs size (c.as_slice.ensures ∙ get_or_read rows e.place c.index-rows-entry.result p.within c.index-rows-entry.is [])

pub add_arcs-requires-clause-room : goal.add_arcs-requires-clause-room
add_arcs-requires-clause-room c =
    let rows = c.args.rows.now in
    let B : List (Option Cost) → Type 0 = λ b. IsSearch rows c.args.start b c.loop.known.items (heap_items c.loop.waiting) in
    let next = c.in-Some.ensures.next rows c.args.start c.loop.known.items (subst B (sym c.deref.ensures.value) c.loop.invariant.search) in
    let p = next_place rows c.args.start c.deref.result.now c.loop.known.items c.in-Some.entry (heap_items c.next_entry.new.waiting) next in
    let T : List (Option Cost) → Type 0 = λ k. get_or k c.in-Some.entry.place None ≡ Some c.known_cost-cost.result in
    let is : get_or c.loop.known.items c.in-Some.entry.place None ≡ Some c.known_cost-cost.result = subst T c.deref-in-loop.ensures.value c.known_cost-cost.ensures in
    omega (arith, p.soon c.known_cost-cost.result is, c.requires.few)

pub add_arcs-requires-clause-part : goal.add_arcs-requires-clause-part
add_arcs-requires-clause-part c =
    let rows = c.args.rows.now in
    let B : List (Option Cost) → Type 0 = λ b. IsSearch rows c.args.start b c.loop.known.items (heap_items c.loop.waiting) in
    let next = c.in-Some.ensures.next rows c.args.start c.loop.known.items (subst B (sym c.deref.ensures.value) c.loop.invariant.search) in
    let p = next_place rows c.args.start c.deref.result.now c.loop.known.items c.in-Some.entry (heap_items c.next_entry.new.waiting) next in
    let T : List (Option Cost) → Type 0 = λ k. get_or k c.in-Some.entry.place None ≡ Some c.known_cost-cost.result in
    let is : get_or c.loop.known.items c.in-Some.entry.place None ≡ Some c.known_cost-cost.result = subst T c.deref-in-loop.ensures.value c.known_cost-cost.ensures in
    p.part c.known_cost-cost.result is

pub loop-preserved : goal.loop-preserved
loop-preserved c =
    let rows = c.args.rows.now in
    let best = c.loop.best.items in
    let known = c.loop.known.items in
    let after = c.add_arcs.new.known in
    let e = c.in-Some.entry in
    let rest = heap_items c.next_entry.new.waiting in
    let cost = c.known_cost-cost.result in
    let B : List (Option Cost) → Type 0 = λ b. IsSearch rows c.args.start b known (heap_items c.loop.waiting) in
    let next = c.in-Some.ensures.next rows c.args.start known (subst B (sym c.deref.ensures.value) c.loop.invariant.search) in
    let p = next_place rows c.args.start c.deref.result.now known e rest next in
    let T : List (Option Cost) → Type 0 = λ k. get_or k c.in-Some.entry.place None ≡ Some c.known_cost-cost.result in
    let is : get_or c.loop.known.items c.in-Some.entry.place None ≡ Some c.known_cost-cost.result = subst T c.deref-in-loop.ensures.value c.known_cost-cost.ensures in
    let row : c.as_slice.result.now ≡ get_or rows e.place [] = c.as_slice.ensures ∙ get_or_read rows e.place c.index-rows-entry.result p.within c.index-rows-entry.is [] in
    let K : List (Option Cost) → Type 0 = λ k. AddsArcs cost c.as_slice.result.now k after rest (heap_items c.add_arcs.new.waiting) in
    let adds = subst K c.deref_mut.ensures.value c.in_ok-add_arcs.ensures.adds in
    let S : List (Option Cost) → Type 0 = λ k. IsSearch rows c.args.start (set best e.place (Some cost)) k (heap_items c.add_arcs.new.waiting) in
    let back = written_back c.loop.known.len after known adds.size c.loop.known.ok.0 in
    record {
      heap = c.in_ok-add_arcs.ensures.heap c.in-Some.ensures.heap;
      search = subst S (sym back) (search_step rows c.args.start best c.deref.result.now known after e rest (heap_items c.add_arcs.new.waiting) cost c.as_slice.result.now c.requires.arcs c.deref.ensures.value is row next adds);
      count = omega (arith, left_counts rows c.args.start best c.deref.result.now known e rest cost c.deref.ensures.value next, c.loop.invariant.count);
    }

pub returns-clause-best : goal.returns-clause-best
returns-clause-best c =
    best_full c.args.rows.now c.args.start c.loop.best.items c.loop.known.items (heap_items c.loop.waiting) c.loop.invariant.search (omega (arith, c.loop.invariant.count, c.loop.invariant.search.size, c.loop-test.false))
