use Rattle.std.proofs.Common.{◌≡◌, ℕ, List, [], ◌∷◌, ◌++◌, length, Option, Some, slice_get, refl, inr, sym, ap, ◌∙◌, subst, arith}
use Rattle.std.specs.HashMap.{get}
use Rattle.std.specs.Option.{option_eq}
use Rattle.net_routes.specs.declared.cost.Cost.{Cost}
use Rattle.net_routes.specs.inside.Numbers.{same_cost, AreNumbers}
use Rattle.net_routes.proofs.NumberLemmas.{get_end, keep_more, numbers_kept, numbers_more}
use Rattle.net_routes.proofs.numbered_costs.NumberedCosts.number_of.Goals as goal

pub returns-in-Some-clause-number : goal.returns-in-Some-clause-number
returns-in-Some-clause-number c =
    let number : get (option_eq same_cost) c.self.inside.numbers c.args.cost ≡ Some c.in-Some.number = sym c.get.ensures.value ∙ (sym c.copied.ensures ∙ c.in-Some.is) in
    subst (λ (costs : List (Option Cost)). slice_get costs c.in-Some.number ≡ Some c.args.cost) c.self.view_is (c.self.invariant c.args.cost c.in-Some.number number)

pub invariant_of-self : goal.invariant_of-self
invariant_of-self c = rw c.in_err-push-in-Ok.ensures.items c.self.invariant

pub invariant_of-self-in_err-insert-in-Ok : goal.invariant_of-self-in_err-insert-in-Ok
invariant_of-self-in_err-insert-in-Ok c = rw (c.in_ok-push-in-Ok.ensures.items, c.in_err-insert-in-Ok.ensures.err) (numbers_kept _ _ _ c.self.invariant)

pub returns-in_err-insert-in-Ok-clause-kept : goal.returns-in_err-insert-in-Ok-clause-kept
returns-in_err-insert-in-Ok-clause-kept c = rw (c.in_ok-push-in-Ok.ensures.items, ← c.self.view_is) (keep_more _ _)

pub invariant_of-self-in-Ok : goal.invariant_of-self-in-Ok
invariant_of-self-in-Ok c =
    let costs : List (Option Cost) = c.self.inside.costs.items in
    let size : length costs ≡ c.in-Ok.number = omega (arith, c.len.ensures) in
    let more : AreNumbers (costs ++ c.args.cost ∷ []) (get (option_eq same_cost) c.insert.new.self) =
    numbers_more costs (get (option_eq same_cost) c.self.inside.numbers) (get (option_eq same_cost) c.insert.new.self) c.args.cost c.in-Ok.number size c.in_ok-insert-in-Ok.ensures.updates.0 c.self.invariant in
    rw (c.in_ok-push-in-Ok.ensures.items, c.from.ensures) more

pub returns-in_ok-insert-in-Ok-clause-number : goal.returns-in_ok-insert-in-Ok-clause-number
returns-in_ok-insert-in-Ok-clause-number c =
    let costs : List (Option Cost) = c.self.inside.costs.items in
    let size : length costs ≡ c.in-Ok.number = omega (arith, c.len.ensures) in
    rw (c.in_ok-push-in-Ok.ensures.items, c.from.ensures) (ap (λ (k : ℕ). slice_get (costs ++ c.args.cost ∷ []) k) (sym size) ∙ get_end costs c.args.cost)

pub returns-in_ok-insert-in-Ok-clause-kept : goal.returns-in_ok-insert-in-Ok-clause-kept
returns-in_ok-insert-in-Ok-clause-kept c = rw (c.in_ok-push-in-Ok.ensures.items, ← c.self.view_is) (keep_more _ _)

pub returns-in_err-insert-in-Ok-clause-added : goal.returns-in_err-insert-in-Ok-clause-added
returns-in_err-insert-in-Ok-clause-added c = inr (rw (c.in_ok-push-in-Ok.ensures.items, c.from.ensures, ← c.self.view_is) refl)

pub returns-in_ok-insert-in-Ok-clause-added : goal.returns-in_ok-insert-in-Ok-clause-added
returns-in_ok-insert-in-Ok-clause-added c = inr (rw (c.in_ok-push-in-Ok.ensures.items, c.from.ensures, ← c.self.view_is) refl)
