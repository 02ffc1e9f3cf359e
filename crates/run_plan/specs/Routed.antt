-- The routes of a plan.
use Rattle.std.specs.Prelude.{◌≡◌, ℕ, ◌<◌, List, Some}
use Rattle.net_routes.specs.declared.cost.Cost.{Cost}
use Rattle.net_routes.specs.RouteMap.{RouteMap}
use Rattle.net_routes.specs.Least.{IsLookahead}
use Rattle.net_routes.specs.Needed.{IsNeeded}
use Rattle.net_routes.specs.Routes.{HasRoutes, route_in}
use Rattle.run_plan.specs.Plan.{nodes_of, nanos_of}
use Rattle.run_plan.specs.declared.plan.Plan.{Plan}
use Rattle.run_plan.specs.declared.planned.Planned.{Planned}
use Rattle.run_plan.specs.declared.planned.Planned.TheVariants.{Shows, Runs, Lists}

-- each route that hosts need takes a nanosecond at least
abbrev pub TakeTime : List ℕ → RouteMap → Type 0
TakeTime nodes routes = (a b : ℕ) (c : Cost) → IsNeeded nodes a b → route_in routes a b ≡ Some c → 0 < c.latency

-- each pair of nodes that hosts need has a route, which takes time, and the lookahead is the least latency of these
pub record IsRouted (plan : Plan) : Type 0 where
  pub routes : HasRoutes (nodes_of plan.rows) plan.routes
  pub later : TakeTime (nodes_of plan.rows) plan.routes
  pub lookahead : IsLookahead (nodes_of plan.rows) plan.routes (nanos_of plan.lookahead)

-- the same of what is run
abbrev pub IsRoutedIfRun : Planned → Type 0
IsRoutedIfRun (Shows config) = Unit {0}
IsRoutedIfRun (Runs run) = IsRouted run.plan
IsRoutedIfRun (Lists capture) = Unit {0}
