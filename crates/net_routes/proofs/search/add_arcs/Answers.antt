use Rattle.std.proofs.Common.{◌≡◌, ◌+◌, ◌<◌, List, [], ◌∷◌, ◌++◌, length, take, get_or, set, Option, Some, None, refl, ap, sym, subst, arith}
use Rattle.std.specs.Prelude.{IfSome, IfNone, IsSomeAnd}
use Rattle.std.specs.BinaryHeap.{IsHeap, heap_items}
use Rattle.std.proofs.lemmas.List.{take_more}
use Rattle.net_routes.specs.declared.arc.Arc.{Arc}
use Rattle.net_routes.specs.declared.cost.Cost.{Cost}
use Rattle.net_routes.specs.declared.search.Entry.{Entry}
use Rattle.net_routes.specs.Cost.{IsAsGood}
use Rattle.net_routes.specs.inside.Path.{then_arc}
use Rattle.net_routes.specs.inside.Search.{entry_order, AddsArcs}
use Rattle.net_routes.proofs.SearchLemmas.{adds_passed, adds_pushed, known_from, less_known}
use Rattle.net_routes.proofs.search.add_arcs.Goals as goal
use Rattle.net_routes.proofs.search.add_arcs.Goals.{in-Some+in_ok-push, in_default}

pub loop-arc-preserved : goal.loop-arc-preserved
loop-arc-preserved c =
    let arcs = c.args.arcs.now in
    let i = c.loop-arc.arc-index in
    let cost = c.args.cost in
    let known = c.args.known.now in
    let seen = c.loop-arc.known in
    let old = heap_items c.args.waiting.now in
    let before = heap_items c.loop-arc.waiting in
    let now = heap_items c.match-improved.waiting in
    let lt : i < length arcs = omega arith in
    let d : Arc = record { to = 0; cost = record { latency = 0; reliability = 0 } } in
    let x = get_or arcs i d in
    let within : x.to < length seen = omega (arith, (c.requires.ends i d lt).ends, c.loop-arc.auto.known) in
    let more : take (i + 1) arcs ≡ take i arcs ++ x ∷ [] = take_more arcs i d lt in
    let H : List Entry → Type 0 = λ w. IsHeap entry_order old → IsHeap entry_order w in
    let A : List (Option Cost) → Type 0 = λ k. AddsArcs cost (take i arcs ++ x ∷ []) known k old now in
    let T : List Arc → Type 0 = λ t. AddsArcs cost t known c.match-improved.known old now in
    elim c.match-improved.branch [
      | in-Some+in_ok-push w ↦
          (let same : now ≡ heap_items w.push.new.self = ap heap_items w.waiting-is in
          let found = w.in-Some.found in
          let W : List Entry → Type 0 = λ v. AddsArcs cost (take i arcs ++ x ∷ []) known (set seen x.to (Some found)) old v in
          let S : Option Cost → Type 0 = λ o. IfSome o (λ k. k ≡ then_arc cost x) in
          let B : Option Cost → Type 0 = λ o. IfSome o (λ k. IfSome (get_or seen x.to None) (IsAsGood k)) in
          let is : found ≡ then_arc cost x = subst S w.in-Some.is c.improved.ensures.some in
          let better : IfSome (get_or seen x.to None) (IsAsGood found) = subst B w.in-Some.is c.improved.ensures.better in
          record {
            heap = subst H (sym same) (λ h. w.in_ok-push.ensures.heap_order (c.loop-arc.invariant.heap h));
            adds = subst T (sym more) (subst A (sym w.known-is) (subst W (sym same) (adds_pushed cost (take i arcs) x found w.entry_at.result known seen old before (heap_items w.push.new.self) within w.entry_at.ensures.1 w.entry_at.ensures.0 is (less_known found (get_or seen x.to None) better) w.in_ok-push.ensures.permutation c.loop-arc.invariant.adds)));
          })
      | in_default w ↦
          (let same : now ≡ before = ap heap_items w.waiting-is in
          let W : List Entry → Type 0 = λ v. AddsArcs cost (take i arcs ++ x ∷ []) known seen old v in
          let N : Option Cost → Type 0 = λ o. IfNone o (IsSomeAnd (get_or seen x.to None) (λ k. IsAsGood k (then_arc cost x))) in
          let none : IsSomeAnd (get_or seen x.to None) (λ k. IsAsGood k (then_arc cost x)) = subst N w.in_default.is c.improved.ensures.none in
          record {
            heap = subst H (sym same) c.loop-arc.invariant.heap;
            adds = subst T (sym more) (subst A (sym w.known-is) (subst W (sym same) (adds_passed cost (take i arcs) x known seen old before (known_from seen x.to (then_arc cost x) (get_or seen x.to None) refl none) c.loop-arc.invariant.adds)));
          })
    ]
