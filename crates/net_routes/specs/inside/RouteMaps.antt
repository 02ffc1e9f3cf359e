-- The routes that rows stand for: each at the places of its nodes.
use Rattle.std.specs.Prelude.{ℕ, List, [], ◌∷◌, Option, Some, None, option_and_then}
use Rattle.std.specs.FinMap.{insert, empty}
use Rattle.net_routes.specs.declared.cost.Cost.{Cost}
use Rattle.net_routes.specs.RouteMap.{RouteMap}
use Rattle.net_routes.specs.inside.Places.{place_of}
use Rattle.net_routes.specs.inside.RouteRows.{cost_at}

-- the cost that rows keep for a pair of nodes
abbrev pub route_at : List ℕ → List (List (Option Cost)) → ℕ → ℕ → Option Cost
route_at stops rows a b = option_and_then (λ i. option_and_then (λ j. cost_at rows i j) (place_of stops b)) (place_of stops a)

-- one route more, where there is one
abbrev pub with_route : ℕ → ℕ → Option Cost → RouteMap → RouteMap
with_route a b None m = m
with_route a b (Some c) m = insert m (a, b) c

-- those from a node to some others
abbrev pub with_routes : (ℕ → Option Cost) → ℕ → List ℕ → RouteMap → RouteMap
with_routes f a [] m = m
with_routes f a (b ∷ bs) m = with_route a b (f b) (with_routes f a bs m)

-- those from each of some nodes
abbrev pub with_all : (ℕ → ℕ → Option Cost) → List ℕ → List ℕ → RouteMap → RouteMap
with_all f [] bs m = m
with_all f (a ∷ more) bs m = with_routes (f a) a bs (with_all f more bs m)

-- what rows keep for the pairs of these nodes
unfoldable pub map_of : List ℕ → List (List (Option Cost)) → RouteMap
map_of stops rows = with_all (route_at stops rows) stops stops empty
