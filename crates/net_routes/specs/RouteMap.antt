-- The routes of a network: a finite map from pairs of nodes to what the route from the first to the second costs.
use Rattle.std.specs.Prelude.{ℕ, refl}
use Rattle.std.specs.Ordering.{nat_cmp, on, then_cmp}
use Rattle.std.specs.declared.cmp.Ordering.{Ordering}
use Rattle.std.specs.FinMap.{FinMap}
use Rattle.std.specs.FinMap as map
use Rattle.std.specs.Coded.{Coded, code_by, coded×, coded_ℕ}
use Rattle.net_routes.specs.declared.cost.Cost.{Cost}

-- pairs of nodes, by the first and then by the second
abbrev pub pair_order : ℕ × ℕ → ℕ × ℕ → Ordering
pair_order = then_cmp (on (λ (p : ℕ × ℕ). p.0) nat_cmp) (on (λ (p : ℕ × ℕ). p.1) nat_cmp)

abbrev pub RouteMap : Type 0
RouteMap = FinMap pair_order Cost

-- how such a map is stored, part by part
abbrev pub cost_code : Coded Cost
cost_code = code_by (ℕ × ℕ) (coded× coded_ℕ coded_ℕ) (λ c. (c.latency, c.reliability)) (λ t. record { latency = t.0; reliability = t.1 }) (λ _. refl)

abbrev pub route_map_code : Coded RouteMap
route_map_code = map.code (coded× coded_ℕ coded_ℕ) cost_code
