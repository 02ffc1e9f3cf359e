-- What is known of a route that a net has from one host to another.
use Rattle.std.proofs.Common.{◌≡◌, ◌≢◌, ◌<◌, ◌≤◌, ℕ, List, length, Option, Some, None, option_map, slice_get, refl, ap, arith}
use Rattle.std.specs.Prelude.{option_and_then}
use Rattle.std.proofs.lemmas.Option.{get_or_from_slice_get, slice_get_within}
use Rattle.sim_base.specs.declared.time.Time.{Time}
use Rattle.net_routes.specs.declared.cost.Cost.{Cost}
use Rattle.net_routes.specs.RouteMap.{RouteMap}
use Rattle.net_routes.specs.Least.{IsLeastLatency}
use Rattle.net_routes.specs.Needed.{IsAt, IsNeeded}
use Rattle.net_routes.specs.Routes.{route_in}
use Rattle.host_link.specs.Net.{Net}
use Rattle.host_link.specs.Sending.{route_from, told}

-- it is the one between their nodes
pub record IsRouteOf (nodes : List ℕ) (routes : RouteMap) (i j : ℕ) (route : Time × ℕ) : Type 0 where
  from : ℕ
  to : ℕ
  cost : Cost
  from_is : slice_get nodes i ≡ Some from
  to_is : slice_get nodes j ≡ Some to
  cost_is : route_in routes from to ≡ Some cost
  route_is : told cost ≡ route

route_costs : (nodes : List ℕ) (routes : RouteMap) (i j from to : ℕ) (route : Time × ℕ) (o : Option Cost) → slice_get nodes i ≡ Some from → slice_get nodes j ≡ Some to
    → route_in routes from to ≡ o → option_map told o ≡ Some route → IsRouteOf nodes routes i j route
route_costs nodes routes i j from to route None from_is to_is kept is = absurd (cc)
route_costs nodes routes i j from to route (Some cost) from_is to_is kept is =
    record { from = from; to = to; cost = cost; from_is = from_is; to_is = to_is; cost_is = kept; route_is = (let e : Some (told cost) ≡ Some route = is in cc) }

route_leads : (net : Net) (i j from : ℕ) (route : Time × ℕ) (b : Option ℕ) → slice_get net.nodes i ≡ Some from → slice_get net.nodes j ≡ b
    → option_and_then (λ (to : ℕ). option_map told (route_in net.routes from to)) b ≡ Some route → IsRouteOf net.nodes net.routes i j route
route_leads net i j from route None from_is at is = absurd (cc)
route_leads net i j from route (Some to) from_is at is = route_costs net.nodes net.routes i j from to route (route_in net.routes from to) from_is at refl is

route_begins : (net : Net) (i j : ℕ) (route : Time × ℕ) (a : Option ℕ) → slice_get net.nodes i ≡ a
    → option_and_then (λ (from : ℕ). option_and_then (λ (to : ℕ). option_map told (route_in net.routes from to)) (slice_get net.nodes j)) a ≡ Some route
    → IsRouteOf net.nodes net.routes i j route
route_begins net i j route None at is = absurd (cc)
route_begins net i j route (Some from) at is = route_leads net i j from route (slice_get net.nodes j) at refl is

pub route_found : (net : Net) (i j : ℕ) (route : Time × ℕ) → route_from net i j ≡ Some route → IsRouteOf net.nodes net.routes i j route
unfolding route_from
route_found net i j route is = route_begins net i j route (slice_get net.nodes i) refl is

is_at : (xs : List ℕ) (i x : ℕ) → slice_get xs i ≡ Some x → IsAt xs i x
is_at xs i x at = record { within = slice_get_within xs i x at; is = get_or_from_slice_get xs i x 0 at }

-- where there is one, there are two hosts
pub are_two : (nodes : List ℕ) (routes : RouteMap) (i j : ℕ) (route : Time × ℕ) → length nodes < 2 → i ≢ j → IsRouteOf nodes routes i j route → ⊥
are_two nodes routes i j route few others found =
    let one = slice_get_within nodes i found.from found.from_is in
    let other = slice_get_within nodes j found.to found.to_is in
    others (let e : i ≡ j = omega (arith, few, one, other) in e)

-- it takes no less than the least latency
pub takes_least : (nodes : List ℕ) (routes : RouteMap) (t i j : ℕ) (latency : Time) (reliability : ℕ) → IsLeastLatency nodes routes t → i ≢ j
    → IsRouteOf nodes routes i j (latency, reliability) → t ≤ latency.nanos
takes_least nodes routes t i j latency reliability least others route =
    let needed : IsNeeded nodes route.from route.to =
    record { first = i; second = j; others = others; from = is_at nodes i route.from route.from_is; to = is_at nodes j route.to route.to_is } in
    let bound = least.each route.from route.to route.cost.latency needed (ap (option_map (λ (c : Cost). c.latency)) route.cost_is) in
    let same : route.cost.latency ≡ latency.nanos = ap (λ (r : Time × ℕ). r.0.nanos) route.route_is in
    omega (arith, bound, same)
