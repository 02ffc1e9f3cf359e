-- The costs of the routes from a node, one for each node of a host.
use Rattle.std.specs.Prelude.{◌≡◌, ℕ, ◌<◌, List, [], length, Option, None, slice_index_or, IsSome}
use Rattle.net_routes.specs.declared.cost.Cost.{Cost}
use Rattle.net_routes.specs.declared.error.RouteError.{RouteError}
use Rattle.net_routes.specs.declared.error.RouteError.TheVariants as errors
use Rattle.net_routes.specs.Needed.{IsAt, IsNeeded}

-- the cost at the places of two nodes
abbrev pub cost_at : List (List (Option Cost)) → ℕ → ℕ → Option Cost
cost_at rows i j = slice_index_or (slice_index_or rows i []) j None

-- what was found for each node, and each that hosts need
pub record IsRouteRow (nodes stops : List ℕ) (from : ℕ) (found : ℕ → Option Cost) (row : List (Option Cost)) : Type 0 where
  pub size : length row ≡ length stops
  pub each : (k to : ℕ) → IsAt stops k to → slice_index_or row k None ≡ found to
  pub whole : (k to : ℕ) → IsAt stops k to → IsNeeded nodes from to → IsSome (found to)

-- the first needed cost that isn't there
pub record IsFirstLack (nodes stops : List ℕ) (from : ℕ) (found : ℕ → Option Cost) (to : ℕ) : Type 0 where
  pub place : ℕ
  pub at : IsAt stops place to
  pub needed : IsNeeded nodes from to
  pub none : found to ≡ None
  pub first : (k before : ℕ) → k < place → IsAt stops k before → IsNeeded nodes from before → IsSome (found before)

abbrev pub NamesLack : List ℕ → List ℕ → ℕ → (ℕ → Option Cost) → RouteError → Type 0
NamesLack nodes stops from found (errors.NoRoute a b) = (a ≡ from) × IsFirstLack nodes stops from found b
NamesLack nodes stops from found errors.NoMemory = Unit {0}
