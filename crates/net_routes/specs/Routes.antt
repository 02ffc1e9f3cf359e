-- The routes of all hosts.
use Rattle.std.specs.Prelude.{◌≡◌, ℕ, ◌<◌, ◌≤◌, Bool, ◌⊎◌, List, Contains, Option, IsSome, IsSomeAnd, Some}
use Rattle.std.specs.FinMap.{get}
use Rattle.gml_graph.specs.declared.graph.Graph.{Graph}
use Rattle.net_routes.specs.declared.cost.Cost.{Cost}
use Rattle.net_routes.specs.declared.error.RouteError.{RouteError}
use Rattle.net_routes.specs.declared.error.RouteError.TheVariants as errors
use Rattle.net_routes.specs.RouteMap.{RouteMap}
use Rattle.net_routes.specs.Walk.{Goes, IsRoute, hops}
use Rattle.net_routes.specs.Needed.{IsNeeded}

-- the cost of the route from a node to another one, if it is kept
abbrev pub route_in : RouteMap → ℕ → ℕ → Option Cost
route_in r a b = get r (a, b)

-- each needed pair has a cost
abbrev pub HasRoutes : List ℕ → RouteMap → Type 0
HasRoutes nodes r = (a b : ℕ) → IsNeeded nodes a b → IsSome (route_in r a b)

-- each needed pair has its route
abbrev pub AreRoutes : Graph → Bool → List ℕ → RouteMap → Type 0
AreRoutes g shortest nodes r = (a b : ℕ) → IsNeeded nodes a b → IsSomeAnd (route_in r a b) (IsRoute g shortest a b)

-- and each that is kept is a route
abbrev pub AreSound : Graph → Bool → RouteMap → Type 0
AreSound g shortest r = (a b : ℕ) (c : Cost) → route_in r a b ≡ Some c → IsRoute g shortest a b c

-- all that are kept lead from one of these nodes to one of them
abbrev pub AreBetween : List ℕ → RouteMap → Type 0
AreBetween nodes r = (a b : ℕ) → IsSome (route_in r a b) → Contains nodes a × Contains nodes b

-- a pair that needs a route and has none
pub record LacksRoute (g : Graph) (shortest : Bool) (nodes : List ℕ) (a b : ℕ) : Type 0 where
  pub needed : IsNeeded nodes a b
  pub none : (c : Cost) → Goes (hops g) shortest a b c → ⊥

-- the least of them, by its source and then by its target
pub record IsLeastLack (g : Graph) (shortest : Bool) (nodes : List ℕ) (a b : ℕ) : Type 0 where
  pub lacks : LacksRoute g shortest nodes a b
  pub least : (p q : ℕ) → LacksRoute g shortest nodes p q → (a < p) ⊎ ((a ≡ p) × (b ≤ q))

abbrev pub IsRefusal : Graph → Bool → List ℕ → RouteError → Type 0
IsRefusal g shortest nodes (errors.NoRoute a b) = IsLeastLack g shortest nodes a b
IsRefusal g shortest nodes errors.NoMemory = Unit {0}
