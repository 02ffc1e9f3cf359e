-- What was found of the routes from the nodes of hosts.
use Rattle.std.specs.Prelude.{◌≡◌, ℕ, ◌^◌, ◌<◌, ◌≤◌, Bool, List, length, Option, Result, Err, IfOk, IfErr, ◌⊎◌, slice_index_or, Contains, All, Ok, map, take, max, ◌+◌, ◌++◌, ◌∷◌}
use Rattle.net_routes.specs.declared.cost.Cost.{Cost}
use Rattle.net_routes.specs.declared.error.RouteError.{RouteError}
use Rattle.net_routes.specs.declared.error.RouteError.TheVariants as errors
use Rattle.net_routes.specs.declared.finding.Search.{Search}
use Rattle.net_routes.specs.declared.adjacency.Adjacency.{Adjacency}
use Rattle.net_routes.specs.declared.hop.Hop.{Hop}
use Rattle.net_routes.specs.Walk.{Goes}
use Rattle.net_routes.specs.inside.Path.{AreArcs, IsBest}
use Rattle.net_routes.specs.Needed.{IsAt}
use Rattle.net_routes.specs.inside.Adjacency.{IsAdjacency}
use Rattle.net_routes.specs.inside.RouteRows.{IsRouteRow, NamesLack}

-- the most places of a adjacency; nodes are fewer
abbrev pub most_places : ℕ
most_places = 2 ^ 20

-- arcs between places
pub record IsReady (adjacency : Adjacency) : Type 0 where
  pub arcs : AreArcs adjacency.rows.items
  pub few : length adjacency.rows.items ≤ most_places
  pub size : length adjacency.rows.items ≡ length adjacency.places

-- the best costs of walks from a node, and the costs that hosts need of them, or the first that isn't there
pub record IsRowOrLack (adjacency : Adjacency) (nodes stops : List ℕ) (shortest : Bool) (from : ℕ) (r : Result (List (Option Cost)) RouteError) : Type 0 where
  pub found : ℕ → Option Cost
  pub best : (ss : List Hop) → IsAdjacency ss adjacency.places adjacency.rows.items → IsBest (Goes ss shortest from) found
  pub ok : IfOk r (IsRouteRow nodes stops from found)
  pub err : IfErr r (NamesLack nodes stops from found)

-- memory ran out, or that
abbrev pub IsFound : Adjacency → List ℕ → List ℕ → Bool → ℕ → Result (List (Option Cost)) RouteError → Type 0
IsFound adjacency nodes stops shortest from r = (r ≡ Err errors.NoMemory) ⊎ IsRowOrLack adjacency nodes stops shortest from r

-- the nodes at which routes end
pub record AreStops (nodes stops : List ℕ) : Type 0 where
  pub each : All (Contains nodes) stops

-- a search from a node of hosts
pub record IsToSearch (nodes : List ℕ) (s : Search) : Type 0 where
  pub from : Contains nodes s.from

-- the search at a place is from this node, and those before it are from the nodes that they were from
pub record IsTurnedAt (place from : ℕ) (old new : List Search) : Type 0 where
  pub before : map (λ (s : Search). s.from) (take place new) ≡ map (λ (s : Search). s.from) (take place old)
  pub at : (s : Search) → (slice_index_or new place s).from ≡ from
  pub within : place < length new
  pub most : length new ≤ max (length old) (place + 1)

-- a search that was made
pub record IsSearched (adjacency : Adjacency) (nodes stops : List ℕ) (shortest : Bool) (old new : Search) : Type 0 where
  pub from : new.from ≡ old.from
  pub found : IsFound adjacency nodes stops shortest new.from new.row

-- search by search
abbrev pub AreSearched : Adjacency → List ℕ → List ℕ → Bool → List Search → List Search → Type 0
AreSearched adjacency nodes stops shortest old new =
    (length new ≡ length old) × ((k : ℕ) (e : Search) → k < length old → IsSearched adjacency nodes stops shortest (slice_index_or old k e) (slice_index_or new k e))

-- what all searches found
abbrev pub rows_found : List Search → List (Result (List (Option Cost)) RouteError)
rows_found searches = map (λ (s : Search). s.row) searches

-- rows that were found
abbrev pub oks : List (List (Option Cost)) → List (Result (List (Option Cost)) RouteError)
oks rows = map (λ (row : List (Option Cost)). let r : Result (List (Option Cost)) RouteError = Ok row in r) rows

-- memory ran out, or this is the error behind rows that were found
pub data IsStopped (found : List (Result (List (Option Cost)) RouteError)) (e : RouteError) : Type 0 where
  want : e ≡ errors.NoMemory → IsStopped found e
  behind : (rows : List (List (Option Cost))) (rest : List (Result (List (Option Cost)) RouteError)) → oks rows ++ Err e ∷ rest ≡ found → IsStopped found e

-- from so many nodes at most rows are found at once
abbrev pub most_at_once : ℕ
most_at_once = 64

-- what was found from the first nodes, node by node
pub record AreFound (adjacency : Adjacency) (nodes stops : List ℕ) (shortest : Bool) (found : List (Result (List (Option Cost)) RouteError)) : Type 0 where
  pub few : length found ≤ length stops
  pub each : (i from : ℕ) (r : Result (List (Option Cost)) RouteError) → i < length found → IsAt stops i from → IsFound adjacency nodes stops shortest from (slice_index_or found i r)

-- the first error from these nodes, or memory ran out
pub record IsRefused (adjacency : Adjacency) (nodes stops : List ℕ) (shortest : Bool) (e : RouteError) : Type 0 where
  pub found : List (Result (List (Option Cost)) RouteError)
  pub are : AreFound adjacency nodes stops shortest found
  pub stopped : IsStopped found e
