-- The least latency of the routes between hosts.
use Rattle.std.specs.Prelude.{◌≡◌, ℕ, ◌<◌, ◌≤◌, List, length, Option, Some, None, option_map}
use Rattle.net_routes.specs.RouteMap.{RouteMap}
use Rattle.net_routes.specs.Needed.{IsNeeded}
use Rattle.net_routes.specs.Routes.{route_in}

-- the least latency of all routes that hosts need, where there is one
pub record IsLeastLatency (nodes : List ℕ) (r : RouteMap) (t : ℕ) : Type 0 where
  pub from : ℕ
  pub to : ℕ
  pub needed : IsNeeded nodes from to
  pub is : option_map (λ c. c.latency) (route_in r from to) ≡ Some t
  pub each : (a b s : ℕ) → IsNeeded nodes a b → option_map (λ c. c.latency) (route_in r a b) ≡ Some s → t ≤ s

-- None where no two hosts are
abbrev pub IsLookahead : List ℕ → RouteMap → Option ℕ → Type 0
IsLookahead nodes r None = length nodes < 2
IsLookahead nodes r (Some t) = IsLeastLatency nodes r t
