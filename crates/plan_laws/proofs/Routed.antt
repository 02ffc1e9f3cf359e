-- A graph and the nodes of hosts have their routes, or a least pair that lacks one.
use Rattle.std.proofs.Common.{ℕ, Bool, List, Option, Some, None, Result, Ok, Err, ⊎_elim}
use Rattle.std.specs.Prelude.{IsSomeAnd}
use Rattle.gml_graph.specs.declared.graph.Graph.{Graph}
use Rattle.net_routes.specs.declared.cost.Cost.{Cost}
use Rattle.net_routes.specs.Needed.{IsNeeded}
use Rattle.net_routes.specs.RouteMap.{RouteMap}
use Rattle.net_routes.specs.Routes.{route_in, AreRoutes, LacksRoute, IsLeastLack}
use Rattle.net_routes.specs.Table.{IsRouteIfAny, IsTable}
use Rattle.net_routes.specs.Walk.{Goes, IsRoute, AreHops, hops}
use Rattle.net_routes.proofs.RouteLemmas.{needed_from, needed_to}
use Rattle.run_plan.specs.Plan.{AreRoutesOrFault}
use Rattle.run_plan.specs.declared.fault.Fault.{Fault}
use Rattle.run_plan.specs.declared.fault.Fault.TheVariants as fault
use Rattle.plan_laws.proofs.Bests.{HasBestIfAny}
use Rattle.plan_laws.proofs.Ways.{way_best, route_if_any}
use Rattle.plan_laws.proofs.Tables.{table_of}
use Rattle.plan_laws.proofs.Lacks.{least_lack}

module _ (g : Graph) (shortest : Bool) (nodes : List ℕ) where
  some_needed : (a b : ℕ) (o : Option Cost) → IsNeeded nodes a b → (LacksRoute g shortest nodes a b → ⊥) → IsRouteIfAny g shortest a b o → IsSomeAnd o (IsRoute g shortest a b)
  some_needed a b (Some c) needed has h = h
  some_needed a b None needed has none = absurd (has (record { needed = needed; none = none }))

  all_needed : (r : RouteMap) → ((a b : ℕ) → LacksRoute g shortest nodes a b → ⊥) → IsTable g shortest nodes r → AreRoutes g shortest nodes r
  all_needed r has table a b needed =
      some_needed a b (route_in r a b) needed (has a b) (table.each a b (needed_from nodes a b needed) (needed_to nodes a b needed))

  -- the routes, or the fault
  pub some_routes : AreHops (hops g) → (r : Result RouteMap Fault) × AreRoutesOrFault g shortest nodes r
  some_routes are =
      let best : (a b : ℕ) → HasBestIfAny (Goes (hops g) shortest a b) = λ a b. way_best (hops g) are shortest a b in
      let table = table_of g shortest nodes (λ a b. route_if_any g shortest a b (best a b)) in
      ⊎_elim
      (λ (lack : (a : ℕ) × (b : ℕ) × IsLeastLack g shortest nodes a b). (Err (fault.NoRoute lack.0 lack.1), lack.2))
      (λ (none : (a b : ℕ) → LacksRoute g shortest nodes a b → ⊥). (Ok table.0, (all_needed table.0 none table.1, table.1)))
      (least_lack g shortest nodes best)
