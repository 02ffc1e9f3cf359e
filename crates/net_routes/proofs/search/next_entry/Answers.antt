use Rattle.std.proofs.Common.{◌≡◌, ◌<◌, List, [], ◌∷◌, length, get_or, None, Bool, not, ◌∙◌, ap, sym, subst, arith}
use Rattle.std.specs.Prelude.{IsPermutation}
use Rattle.std.specs.BinaryHeap.{heap_items}
use Rattle.std.proofs.lemmas.List.{nil_from_length}
use Rattle.std.proofs.lemmas.List.Elements.{All-tail}
use Rattle.std.proofs.lemmas.List.Sorted.{IsPermutation-sym, All-permutation}
use Rattle.net_routes.specs.declared.search.Entry.{Entry}
use Rattle.net_routes.specs.inside.Search.{IsSearch}
use Rattle.net_routes.proofs.SearchLemmas.{search_moved, search_passed, first_of, settled_from, unsettled_from}
use Rattle.net_routes.proofs.search.next_entry.Goals as goal

pub returns-then-is_none-clause-next : goal.returns-then-is_none-clause-next
returns-then-is_none-clause-next c rows start known s =
    let e = c.in-Some.entry in
    let old = heap_items c.loop-entry.waiting in
    let rest = heap_items c.pop.new.self in
    let moved : IsPermutation old (e ∷ rest) = c.in-Some.ensures.permutation in (
      search_moved rows start c.args.best.now known old (e ∷ rest) moved (IsPermutation-sym old (e ∷ rest) moved) (c.loop-entry.invariant.goes_on rows start known s),
      first_of e rest (c.in-Some.ensures.below_top c.loop-entry.invariant.heap),
      unsettled_from (get_or c.args.best.now e.place None) (c.is_none.ensures ∙ ap (λ (b : Bool). not b) c.if-is_none.true),
    )

pub loop-entry-preserved : goal.loop-entry-preserved
loop-entry-preserved c =
    let e = c.in-Some.entry in
    let old = heap_items c.loop-entry.waiting in
    let rest = heap_items c.pop.new.self in
    let moved : IsPermutation old (e ∷ rest) = c.in-Some.ensures.permutation in
    let Within : Entry → Type 0 = λ o. o.place < length c.args.best.now in
    let left = settled_from (get_or c.args.best.now e.place None) (c.is_none.ensures ∙ ap (λ (b : Bool). not b) c.if-is_none.false) in
    record {
      heap = (c.in-Some.ensures.heap_order c.loop-entry.invariant.heap).0;
      places = All-tail Within e rest (All-permutation Within old (e ∷ rest) moved c.loop-entry.invariant.places);
      goes_on = λ rows start known s.
          search_passed rows start c.args.best.now known e rest left.0 left.1
          (search_moved rows start c.args.best.now known old (e ∷ rest) moved (IsPermutation-sym old (e ∷ rest) moved) (c.loop-entry.invariant.goes_on rows start known s));
    }

pub returns-clause-next : goal.returns-clause-next
returns-clause-next c rows start known s =
    let S : List Entry → Type 0 = λ w. IsSearch rows start c.args.best.now known w in
    let same : heap_items c.pop.new.self ≡ heap_items c.loop-entry.waiting = c.in_default.ensures.unchanged.0 in
    let none : heap_items c.loop-entry.waiting ≡ [] = nil_from_length (heap_items c.loop-entry.waiting) (omega (arith, c.in_default.ensures.none, c.loop-entry.waiting.data.ok.0)) in
    (subst S (sym same) (c.loop-entry.invariant.goes_on rows start known s), same ∙ none)
