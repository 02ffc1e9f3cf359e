use Rattle.std.proofs.Common.{◌≡◌, ℕ, ◌+◌, ◌<◌, List, length, get_or, Option, refl, ◌∙◌, ap, sym, subst, arith}
use Rattle.std.specs.Prelude.{IsSome}
use Rattle.std.proofs.lemmas.List.{length_push}
use Rattle.std.proofs.lemmas.Result.{err_from_is_err_and}
use Rattle.net_routes.specs.declared.cost.Cost.{Cost}
use Rattle.net_routes.specs.inside.Adjacency.{cost_to}
use Rattle.net_routes.proofs.RouteRowLemmas.{IsRowBelow, row_more, names_lack}
use Rattle.net_routes.proofs.route_row.row_from.Goals as goal

pub returns-in_err-found_cost-clause-err : goal.returns-in_err-found_cost-clause-err
returns-in_err-found_cost-clause-err c =
    let p = err_from_is_err_and c.from_residual-in_err-found_cost.result c.from_residual-in_err-found_cost.ensures.1 in
    let stops = c.args.stops.now in
    let i = c.loop-to.to-index in
    let lt : i < length stops = omega arith in
    rw (p.1, p.2) (names_lack c.args.nodes.now stops c.args.from (cost_to c.args.adjacency.now.places c.args.costs.now) c.in_err-found_cost.field-0.0 c.loop-to.row.items i (get_or stops i 0) c.in_err-found_cost.ensures.which (record { within = lt; is = refl }) c.in_err-found_cost.ensures.needed c.in_err-found_cost.ensures.none c.loop-to.invariant.row)

pub loop-to-preserved : goal.loop-to-preserved
loop-to-preserved c =
    let nodes = c.args.nodes.now in
    let stops = c.args.stops.now in
    let i = c.loop-to.to-index in
    let row = c.loop-to.row.items in
    let cost : Option Cost = c.from.result in
    let same : cost ≡ c.in_ok-found_cost.field-0 = c.from.ensures in
    let S : Option Cost → Type 0 = λ o. IsSome o in
    let found : ℕ → Option Cost = cost_to c.args.adjacency.now.places c.args.costs.now in
    let lt : i < length stops = omega arith in
    let P : List (Option Cost) → Type 0 = λ l. IsRowBelow (i + 1) nodes stops c.args.from found l in
    record {
      size = ap (λ (l : List (Option Cost)). length l) c.in_ok-push.ensures.items ∙ length_push row cost ∙ ap (λ (n : ℕ). n + 1) c.loop-to.invariant.size;
      row = subst P (sym c.in_ok-push.ensures.items) (row_more nodes stops c.args.from found row i (get_or stops i 0) cost c.loop-to.invariant.size (record { within = lt; is = refl }) (same ∙ c.in_ok-found_cost.ensures.ok) (λ need. subst S (sym same) (c.in_ok-found_cost.ensures.whole need)) c.loop-to.invariant.row);
    }
