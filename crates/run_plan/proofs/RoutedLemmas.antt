-- Routes take time.
use Rattle.std.proofs.Common.{◌≡◌, ℕ, ◌<◌, List, [], ◌∷◌, length, fold, Option, Some, Bool, subst, arith}
use Rattle.std.specs.Prelude.{IsSomeAnd}
use Rattle.gml_graph.specs.declared.graph.Graph.{Graph}
use Rattle.gml_graph.specs.Edges.{AreEdges}
use Rattle.net_routes.specs.declared.cost.Cost.{Cost}
use Rattle.net_routes.specs.declared.hop.Hop.{Hop}
use Rattle.net_routes.specs.RouteMap.{RouteMap}
use Rattle.net_routes.specs.Cost.{nothing}
use Rattle.net_routes.specs.Routes.{AreRoutes, route_in}
use Rattle.net_routes.specs.Walk.{IsRoute, Leads, AreHops, hops, then_hop, cost_of}
use Rattle.net_routes.proofs.HopLemmas.{hops_sound}
use Rattle.run_plan.specs.Routed.{TakeTime}

-- more hops take no less
goes_on : (walk : List Hop) (c : Cost) → 0 < c.latency → 0 < (fold then_hop c walk).latency
goes_on [] c h = h
goes_on (s ∷ walk) c h = goes_on walk (then_hop c s) (omega (arith, h))

walk_later : (ss : List Hop) → AreHops ss → (a b : ℕ) (walk : List Hop) → Leads ss a b walk → 0 < length walk → 0 < (cost_of walk).latency
walk_later ss sound a b [] leads some = absurd (omega (arith, some))
walk_later ss sound a b (s ∷ walk) leads some = goes_on walk (then_hop nothing s) (omega (arith, (sound.each s leads.0).some))

route_later : (g : Graph) (shortest : Bool) (a b : ℕ) (c : Cost) → AreEdges g.edges → IsRoute g shortest a b c → 0 < c.latency
route_later g shortest a b c edges route =
    subst (λ (d : Cost). 0 < d.latency) route.goes.costs
    (walk_later (hops g) (hops_sound g.directed g.edges edges) a b route.goes.walk route.goes.leads route.goes.may.some)

some_is : (P : Cost → Type 0) (o : Option Cost) (c : Cost) → o ≡ Some c → IsSomeAnd o P → P c
some_is P o c e h = let Q : Option Cost → Type 0 = λ q. IsSomeAnd q P in subst Q e h

pub routes_later : (g : Graph) (shortest : Bool) (nodes : List ℕ) (r : RouteMap) → AreEdges g.edges → AreRoutes g shortest nodes r → TakeTime nodes r
routes_later g shortest nodes r edges routes a b c needed is =
    route_later g shortest a b c edges (some_is (IsRoute g shortest a b) (route_in r a b) c is (routes a b needed))
