use Rattle.std.proofs.Common.{◌≡◌, ◌++◌, ◌∷◌, [], List, All, None, map, length, sym, ap, subst, ◌∙◌, arith, append_assoc, append-nil}
use Rattle.std.specs.Option.{IfSome}
use Rattle.std.proofs.lemmas.List.{nil_from_length}
use Rattle.std.proofs.lemmas.List.Elements.{All-pop, All-push}
use Rattle.std.specs.Vec.Iter.{into_iter_items}
use Rattle.steal_workers.specs.SeatViews.{SeatView}
use Rattle.list_weights.specs.Places.{EachAt}
use Rattle.round_lookahead.specs.declared.workers.bench.Bench.{Bench}
use Rattle.round_lookahead.specs.declared.workers.host_task.HostTask.{HostTask}
use Rattle.round_lookahead.specs.inside.Benches.{IsUnusedOf}
use Rattle.round_lookahead.proofs.BenchSteps.{seats_more, workers_more}
use Rattle.round_lookahead.proofs.workers.round.benches_of.Goals as goal

pub loop-seat-preserved : goal.loop-seat-preserved
loop-seat-preserved c =
    let inv = c.loop-seat.invariant in
    let old = c.loop-seat.benches.items in
    let rest = into_iter_items c.next.new.self in
    let step : into_iter_items c.loop-seat.seat-iterator ≡ c.in-Some.seat ∷ rest = c.in-Some.ensures.steps.0 in
    let one : Bench = record { worker = c.len-worker.result; seat = c.in-Some.seat; carrier = c.in-Some-pop.carrier; worked = None } in
    let joins : c.push_reserved.new.self.items ≡ old ++ one ∷ [] = c.push_reserved.ensures.items in
    let long = ap length step in
    record {
      seats = ap (λ (l : List Bench). map (λ (b : Bench). b.seat) l ++ rest) joins ∙ ap (λ (l : List (SeatView HostTask)). l ++ rest) (seats_more old one)
          ∙ append_assoc (map (λ (b : Bench). b.seat) old) (c.in-Some.seat ∷ []) rest ∙ ap (λ (l : List (SeatView HostTask)). map (λ (b : Bench). b.seat) old ++ l) (sym step) ∙ inv.seats;
      left = (let l = inv.left in let p = c.in-Some-pop.ensures.cases in omega arith);
      count = (let n = inv.count in let p = c.push_reserved.ensures.len in omega arith);
      room = (let r = inv.room in let p = c.push_reserved.ensures.capacity in omega arith);
      carriers = λ id all.
          (let p = inv.carriers id all in
          let q = All-pop (IsUnusedOf id) c.loop-seat.carriers.items c.pop.new.self.items c.pop.result c.pop.ensures.items p.0 in
          let mine : IsUnusedOf id c.in-Some-pop.carrier = subst (λ o. IfSome o (IsUnusedOf id)) c.in-Some-pop.is q.1 in
          (q.0, subst (All (λ (b : Bench). IsUnusedOf id b.carrier)) (sym joins) (All-push (λ (b : Bench). IsUnusedOf id b.carrier) old one p.1 mine)));
      workers = subst (EachAt (λ k (b : Bench). b.worker ≡ k)) (sym joins)
          (λ k e within. (let w = workers_more 0 old one (λ j d below. (let a = inv.workers j d below in omega arith)) (let l = c.len-worker.ensures in omega (arith, c.loop-seat.benches.ok.0)) k e within in omega arith));
    }

pub returns : goal.returns
returns c =
    let inv = c.loop-seat.invariant in
    let none : into_iter_items c.loop-seat.seat-iterator ≡ [] = nil_from_length (into_iter_items c.loop-seat.seat-iterator) (let e = c.in-None.ensures.steps.0 in omega (arith, c.loop-seat.seat-iterator.rest.ok.0)) in
    record {
      seats_are = sym (append-nil (map (λ (b : Bench). b.seat) c.loop-seat.benches.items)) ∙ ap (λ (l : List (SeatView HostTask)). map (λ (b : Bench). b.seat) c.loop-seat.benches.items ++ l) (sym none) ∙ inv.seats;
      carriers_are = λ id all. (inv.carriers id all).1;
      workers_are = inv.workers;
    }
