use Rattle.std.proofs.Common.{◌≡◌, ◌++◌, ◌∷◌, [], List, Some, map, sym, ap, ◌∙◌, arith, append-nil}
use Rattle.std.proofs.lemmas.List.{nil_from_length}
use Rattle.std.specs.Vec.Iter.{into_iter_items}
use Rattle.round_lookahead.specs.declared.workers.bench.Bench.{Bench}
use Rattle.round_lookahead.proofs.BackSteps.{completes}
use Rattle.round_lookahead.proofs.workers.round.parts_of.Goals as goal

pub loop-bench-preserved : goal.loop-bench-preserved
loop-bench-preserved c =
    let b : Bench = c.in-Some.bench in
    let left : List Bench = into_iter_items c.loop-bench.bench-iterator in
    let rest : List Bench = into_iter_items c.next.new.self in
    let is : left ≡ b ∷ rest = c.in-Some.ensures.steps.0 in
    let old = c.loop-bench.parts in
    let new = c.add.new.self in
    let i = c.loop-bench.invariant in
    record {
      seats = completes old.seats.items new.seats.items (b.seat ∷ []) (map (λ (x : Bench). x.seat) rest) (map (λ (x : Bench). x.seat) c.args.benches.items) c.in_ok-add.ensures.seats
          (ap (λ (l : List Bench). old.seats.items ++ map (λ (x : Bench). x.seat) l) (sym is) ∙ i.seats);
      carriers = completes old.carriers.items new.carriers.items (b.carrier ∷ []) (map (λ (x : Bench). x.carrier) rest) (map (λ (x : Bench). x.carrier) c.args.benches.items) c.in_ok-add.ensures.carriers
          (ap (λ (l : List Bench). old.carriers.items ++ map (λ (x : Bench). x.carrier) l) (sym is) ∙ i.carriers);
      works = completes (map Some old.works.items) (map Some new.works.items) (b.worked ∷ []) (map (λ (x : Bench). x.worked) rest) (map (λ (x : Bench). x.worked) c.args.benches.items) c.in_ok-add.ensures.works
          (ap (λ (l : List Bench). map Some old.works.items ++ map (λ (x : Bench). x.worked) l) (sym is) ∙ i.works);
    }

pub returns : goal.returns
returns c =
    let i = c.loop-bench.invariant in
    let parts = c.loop-bench.parts in
    let none : into_iter_items c.loop-bench.bench-iterator ≡ [] = nil_from_length (into_iter_items c.loop-bench.bench-iterator) (let e = c.in-None.ensures.steps.0 in omega (arith, c.loop-bench.bench-iterator.rest.ok.0)) in
    record {
      seats_are = sym (append-nil parts.seats.items) ∙ ap (λ (l : List Bench). parts.seats.items ++ map (λ (x : Bench). x.seat) l) (sym none) ∙ i.seats;
      carriers_are = sym (append-nil parts.carriers.items) ∙ ap (λ (l : List Bench). parts.carriers.items ++ map (λ (x : Bench). x.carrier) l) (sym none) ∙ i.carriers;
      works_are = sym (append-nil (map Some parts.works.items)) ∙ ap (λ (l : List Bench). map Some parts.works.items ++ map (λ (x : Bench). x.worked) l) (sym none) ∙ i.works;
    }
