-- The table of routes: all between nodes of hosts, which a graph and these nodes determine.
use Rattle.std.specs.Prelude.{ℕ, Bool, List, Contains, Option, Some, None}
use Rattle.gml_graph.specs.declared.graph.Graph.{Graph}
use Rattle.net_routes.specs.declared.cost.Cost.{Cost}
use Rattle.net_routes.specs.RouteMap.{RouteMap}
use Rattle.net_routes.specs.Routes.{route_in, AreBetween}
use Rattle.net_routes.specs.Walk.{Goes, IsRoute, hops}

-- the route of a pair, or nothing where no walk goes
abbrev pub IsRouteIfAny : Graph → Bool → ℕ → ℕ → Option Cost → Type 0
IsRouteIfAny g shortest a b None = (c : Cost) → Goes (hops g) shortest a b c → ⊥
IsRouteIfAny g shortest a b (Some c) = IsRoute g shortest a b c

-- for each two nodes of hosts the route, whether hosts need it or not, and nothing else
pub record IsTable (g : Graph) (shortest : Bool) (nodes : List ℕ) (r : RouteMap) : Type 0 where
  pub each : (a b : ℕ) → Contains nodes a → Contains nodes b → IsRouteIfAny g shortest a b (route_in r a b)
  pub others : AreBetween nodes r
