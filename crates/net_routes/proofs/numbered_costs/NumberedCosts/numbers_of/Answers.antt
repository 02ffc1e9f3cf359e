use Rattle.std.proofs.Common.{◌≡◌, ℕ, ◌<◌, length, get_or, Option, Some, None, slice_get, ap, ◌∙◌, subst, arith}
use Rattle.std.specs.Prelude.{IfSome}
use Rattle.std.proofs.lemmas.List.{take_more}
use Rattle.net_routes.specs.declared.cost.Cost.{Cost}
use Rattle.net_routes.proofs.NumberLemmas.{numbers_push, numbers_stay, added_next}
use Rattle.net_routes.proofs.numbered_costs.NumberedCosts.numbers_of.Goals as goal

pub loop-place-preserved : goal.loop-place-preserved
loop-place-preserved c =
    let old = c.loop-place.self in
    let new = c.number_from.new.self in
    let row = c.args.row.now in
    let place = c.loop-place.place in
    let lt : place < length row = omega arith in
    let P : Option ℕ → Type 0 = λ o. IfSome o (λ n. slice_get new n ≡ Some c.get.result) in
    let number : slice_get new c.in-Some.number ≡ Some (get_or row place None) = subst P c.in-Some.is c.in_ok-number.ensures.number ∙ ap (λ (o : Option Cost). Some o) c.get.ensures in
    let before = numbers_stay old new c.loop-place.numbers.items _ c.in_ok-number.ensures.kept c.loop-place.invariant.numbers in
    record {
      numbers = rw (c.in_ok-push-in-Some.ensures.items, take_more row place None lt) (numbers_push new c.loop-place.numbers.items _ c.in-Some.number (get_or row place None) before number);
      kept = λ n k at. c.in_ok-number.ensures.kept n k (c.loop-place.invariant.kept n k at);
      added = added_next row _ old new place c.get.result lt c.get.ensures c.loop-place.invariant.added c.in_ok-number.ensures.added;
    }

pub returns-in_err-number-clause-added : goal.returns-in_err-number-clause-added
returns-in_err-number-clause-added c = added_next c.args.row.now _ c.loop-place.self c.number_from.new.self c.loop-place.place c.get.result (omega arith) c.get.ensures c.loop-place.invariant.added c.in_err-number.ensures.added

pub returns-in_err-push-in-Some-clause-added : goal.returns-in_err-push-in-Some-clause-added
returns-in_err-push-in-Some-clause-added c = added_next c.args.row.now _ c.loop-place.self c.number_from.new.self c.loop-place.place c.get.result (omega arith) c.get.ensures c.loop-place.invariant.added c.in_ok-number.ensures.added

pub returns-in-None-clause-added : goal.returns-in-None-clause-added
returns-in-None-clause-added c = added_next c.args.row.now _ c.loop-place.self c.number_from.new.self c.loop-place.place c.get.result (omega arith) c.get.ensures c.loop-place.invariant.added c.in_ok-number.ensures.added
